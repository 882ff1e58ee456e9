use Rattle.draid_tests_lock.proofs.OwnNumbers.{Owning}
use Rattle.draid_tests_lock.proofs.turn.own_numbers.Given as goal

abbrev pub invariant-loop-lane : goal.invariant-loop-lane
invariant-loop-lane l = Owning l.lane l.lists.items
