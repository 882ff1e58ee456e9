use Rattle.std.proofs.Common.{vec_len}
use Rattle.draid_section.proofs.Unlocking.{JoinsLanes}
use Rattle.draid_section.proofs.locks.join_lanes.Given as goal

abbrev pub decreases-lanes : goal.decreases-lanes
decreases-lanes g l = vec_len l.lanes

abbrev pub invariant-lanes : goal.invariant-lanes
invariant-lanes g l = JoinsLanes l.initial.firsts.items l.initial.lanes.items l.lanes.items l.firsts.items
