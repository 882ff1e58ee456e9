use Rattle.draid_clashes.proofs.TwoMend.{Seen}
use Rattle.draid_clashes.proofs.mending.two_mend.Given as goal

abbrev pub invariant-loop-lane : goal.invariant-loop-lane
invariant-loop-lane l = Seen l.lanes l.lane-index l.before
