use Rattle.std.proofs.Common.{rules, subst}
use Rattle.draid_section.proofs.Unlocking.{JoinsLanes, lane_own, lanes_done, lanes_more, lanes_own, lanes_start}
use Rattle.draid_section.proofs.locks.join_lanes.Goals as goal

pub lanes-init : goal.lanes-init
lanes-init g c = lanes_start c.args.firsts.now.items c.args.lanes.items

pub join_lane-requires-clause-fits : goal.join_lane-requires-clause-fits
join_lane-requires-clause-fits g c = lanes_own c.args.firsts.now.items c.args.lanes.items c.args.turns.now c.lanes.lanes.items c.lanes.firsts.items c.requires.fits c.lanes.invariant

pub join_lane-requires-clause-fits_passes : goal.join_lane-requires-clause-fits_passes
join_lane-requires-clause-fits_passes g c =
    let r = subst (λ ls. JoinsLanes c.args.firsts.now.items c.args.lanes.items ls c.lanes.firsts.items) c.in-Some.ensures.items c.lanes.invariant in
    lane_own c.args.firsts.now.items c.args.lanes.items c.args.turns.now c.pop.new.self.items c.in-Some.lane c.lanes.firsts.items r c.requires.fits_lanes

pub lanes-preserved : goal.lanes-preserved
lanes-preserved g c =
    let old = c.args.firsts.now.items in
    let lanes = c.args.lanes.items in
    let r = subst (λ ls. JoinsLanes old lanes ls c.lanes.firsts.items) c.in-Some.ensures.items c.lanes.invariant in
    lanes_more old lanes c.args.turns.now c.pop.new.self.items c.in-Some.lane c.lanes.firsts.items r c.join_lane.new.firsts.items c.requires.fits
    (lane_own old lanes c.args.turns.now c.pop.new.self.items c.in-Some.lane c.lanes.firsts.items r c.requires.fits_lanes) c.join_lane.ensures

pub returns : goal.returns
returns g c = lanes_done c.args.firsts.now.items c.args.lanes.items c.lanes.lanes.items c.lanes.firsts.items (search rules) c.lanes.invariant
