use Rattle.std.proofs.Common.{◌∙◌, arith}
use Rattle.draid_plans.specs.Targets.{is_target}
use Rattle.draid_plans.proofs.Places.{list_more}
use Rattle.draid_plans.proofs.targets.list_targets.Goals as goal

pub list_in_slot-requires-clause-room : goal.list_in_slot-requires-clause-room
list_in_slot-requires-clause-room c =
    let is = c.loop-slot.invariant in
    let few = is.few in
    let cap = is.room in
    let test = c.loop-slot-test.true in
    let count = c.children-slot-end.ensures.count in
    let clear = c.clear.ensures.capacity in
    let room = c.requires.room in
    omega (arith, few, cap, test, count, clear, room)

pub loop-slot-preserved : goal.loop-slot-preserved
loop-slot-preserved c = record {
  listed = list_more c.args.slots.now (is_target c.args.slots.now c.args.marks.now c.args.kind) c.loop-slot.slot c.loop-slot.targets.items c.list_in_slot.new.targets.items c.loop-slot.invariant.listed c.list_in_slot.ensures.listed;
  few = (let few = c.loop-slot.invariant.few in let more = c.list_in_slot.ensures.few in omega (arith, few, more));
  room = c.list_in_slot.ensures.room ∙ c.loop-slot.invariant.room;
}
