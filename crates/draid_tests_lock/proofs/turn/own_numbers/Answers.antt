use Rattle.draid_tests_lock.proofs.OwnNumbers.{owning_more}
use Rattle.draid_tests_lock.proofs.turn.own_numbers.Goals as goal

pub loop-lane-preserved : goal.loop-lane-preserved
loop-lane-preserved c = owning_more c.loop-lane.lane c.loop-lane.lists.items c.push.new.self.items c.in_ok-vec.field-0 c.loop-lane.invariant c.in_ok-vec.ensures.items c.in_ok-push.ensures.items
