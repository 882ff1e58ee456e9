use Rattle.std.proofs.Common.{rules, ap, ◌≡◌, ◌∙◌, [], length, vec_len}
use Rattle.std.specs.Vec.Iter.{into_iter_items}
use Rattle.draid_holds.proofs.Parts.{empty_of, parted_passes, parted_works, parting_more, parting_start, room_first, room_for, room_still}
use Rattle.draid_holds.proofs.lanes.part.Goals as goal

pub lanes-init : goal.lanes-init
lanes-init g c =
    let all = c.args.lanes.items in
    let left = into_iter_items c.into_iter-lane-iterator.result in
    let is = c.into_iter-lane-iterator.ensures.into_iter_gives.0 in (
      tt,
      tt,
      parting_start all left c.args.passes.items c.args.works.items is c.requires.none.0 c.requires.none.1,
      room_first all left (vec_len c.args.passes) _ 0 is c.requires.room.0 (c.args.passes.ok.0 ∙ ap length c.requires.none.0),
      room_first all left (vec_len c.args.works) _ 0 is c.requires.room.1 (c.args.works.ok.0 ∙ ap length c.requires.none.1),
    )

pub push_reserved-requires : goal.push_reserved-requires
push_reserved-requires g c =
    room_for c.args.lanes.items (into_iter_items c.lanes.lane-iterator) (into_iter_items c.next.new.self) c.in-Some.lane _ _ c.lanes.invariant.3 c.in-Some.ensures.steps.0

pub push_reserved-requires-in-lanes : goal.push_reserved-requires-in-lanes
push_reserved-requires-in-lanes g c =
    room_for c.args.lanes.items (into_iter_items c.lanes.lane-iterator) (into_iter_items c.next.new.self) c.in-Some.lane _ _ c.lanes.invariant.4 c.in-Some.ensures.steps.0

pub lanes-preserved : goal.lanes-preserved
lanes-preserved g c =
    let all = c.args.lanes.items in
    let left = into_iter_items c.lanes.lane-iterator in
    let rest = into_iter_items c.next.new.self in
    let is = c.in-Some.ensures.steps.0 in
    let pass = c.push_reserved.ensures in
    let work = c.push_reserved-in-lanes.ensures in (
      tt,
      tt,
      parting_more all left rest c.in-Some.lane c.lanes.passes.items c.push_reserved.new.self.items c.lanes.works.items c.push_reserved-in-lanes.new.self.items c.lanes.invariant.2 is pass.items work.items,
      room_still all left rest c.in-Some.lane _ _ _ _ c.lanes.invariant.3 is pass.len pass.capacity,
      room_still all left rest c.in-Some.lane _ _ _ _ c.lanes.invariant.4 is work.len work.capacity,
    )

pub returns-clause-passes : goal.returns-clause-passes
returns-clause-passes g c =
    let none : into_iter_items c.lanes.lane-iterator ≡ [] = empty_of (into_iter_items c.lanes.lane-iterator) (search rules) in
    parted_passes c.args.lanes.items (into_iter_items c.lanes.lane-iterator) c.lanes.passes.items c.lanes.works.items c.lanes.invariant.2 none

pub returns-clause-works : goal.returns-clause-works
returns-clause-works g c =
    let none : into_iter_items c.lanes.lane-iterator ≡ [] = empty_of (into_iter_items c.lanes.lane-iterator) (search rules) in
    parted_works c.args.lanes.items (into_iter_items c.lanes.lane-iterator) c.lanes.passes.items c.lanes.works.items c.lanes.invariant.2 none
