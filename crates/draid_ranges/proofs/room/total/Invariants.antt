use Rattle.std.proofs.Common.{◌≡◌, take, sum_by}
use Rattle.draid_ranges.specs.declared.run.Run.{Run}
use Rattle.draid_ranges.proofs.room.total.Given as goal

abbrev pub invariant-loop-run : goal.invariant-loop-run
invariant-loop-run l = l.total ≡ sum_by (λ (run : Run). run.len) (take l.run-index l.runs)
