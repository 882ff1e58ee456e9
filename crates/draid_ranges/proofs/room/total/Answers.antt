use Rattle.std.proofs.Common.{arith}
use Rattle.draid_ranges.proofs.Counts.{total_below}
use Rattle.draid_ranges.proofs.Within.{no_run}
use Rattle.draid_ranges.proofs.room.total.Goals as goal

pub overflow_add-total : goal.overflow_add-total
overflow_add-total c = let h = total_below c.args.runs.now c.loop-run.run-index no_run c.requires c.loop-run-test.true in omega arith
