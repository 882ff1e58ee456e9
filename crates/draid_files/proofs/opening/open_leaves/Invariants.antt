use Rattle.draid_files.specs.Racks.{AreUncounted}
use Rattle.draid_files.proofs.opening.open_leaves.Given as goal

abbrev pub invariant-loop-number : goal.invariant-loop-number
invariant-loop-number l = AreUncounted l.leaves
