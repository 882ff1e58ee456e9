use Rattle.std.proofs.Common.{◌≡◌}
use Rattle.draid_tests_lock.proofs.Moves.{Moved}
use Rattle.draid_tests_lock.proofs.log.PuttingWorkLog.work.Given as goal

abbrev pub invariant-loop-i : goal.invariant-loop-i
invariant-loop-i g l = (l.pass.table ≡ l.turn.table) × Moved l.initial.pass l.pass
