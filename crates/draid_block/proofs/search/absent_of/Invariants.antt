use Rattle.std.proofs.Common.{◌≡◌}
use Rattle.draid_block.specs.Solving.{absent_below}
use Rattle.draid_block.proofs.search.absent_of.Given as goal

abbrev pub invariant-loop-i : goal.invariant-loop-i
invariant-loop-i l = l.absent.items ≡ absent_below l.columns l.i
