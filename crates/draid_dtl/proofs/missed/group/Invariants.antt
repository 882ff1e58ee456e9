use Rattle.std.proofs.Common.{◌≡◌, ◌+◌, length, take}
use Rattle.draid_dtl.specs.Logs.{AreLevels}
use Rattle.draid_dtl.proofs.missed.group.Given as goal

abbrev pub invariant-loop-log : goal.invariant-loop-log
invariant-loop-log l = (length l.levels.items ≡ l.parity + 1) × AreLevels l.levels.items (take l.log-index l.logs)
