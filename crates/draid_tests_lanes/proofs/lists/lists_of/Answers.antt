use Rattle.std.proofs.Common.{arith}
use Rattle.draid_tests_lanes.proofs.Shares.{sharing_all, sharing_more}
use Rattle.draid_tests_lanes.proofs.lists.lists_of.Goals as goal

pub loop-lane-preserved : goal.loop-lane-preserved
loop-lane-preserved c = sharing_more c.loop-lane.lane c.loop-lane.lists.items c.push.new.self.items c.in_ok-list_of.field-0 c.loop-lane.invariant c.in_ok-list_of.ensures c.in_ok-push.ensures.items

pub returns-clause-lanes : goal.returns-clause-lanes
returns-clause-lanes c =
    let few = c.requires in
    let ends = c.loop-lane-test.false in
    let upto = c.loop-lane.auto.lane-end in
    sharing_all c.loop-lane.lane c.loop-lane.lists.items (omega (arith, few, ends, upto)) c.loop-lane.invariant
