use Rattle.draid_tests_lanes.proofs.Shares.{Sharing}
use Rattle.draid_tests_lanes.proofs.lists.lists_of.Given as goal

abbrev pub invariant-loop-lane : goal.invariant-loop-lane
invariant-loop-lane l = Sharing l.lane l.lists.items
