use Rattle.std.proofs.Common.{◌∙◌, Global, List, Vec, ap, arith, filter, length, sym, vec_capacity}
use Rattle.std.proofs.lemmas.List.{length-append}
use Rattle.draid_names.specs.declared.arm.ArmAt.{ArmAt}
use Rattle.draid_plans.specs.Targets.{is_target, places_in}
use Rattle.draid_plans.proofs.Places.{few_in, no_more, yes_more}
use Rattle.draid_plans.proofs.targets.list_in_slot.Goals.{then-is_target, else-is_target}
use Rattle.draid_plans.proofs.targets.list_in_slot.Goals as goal

pub push_reserved-requires : goal.push_reserved-requires
push_reserved-requires c =
    let p = is_target c.args.slots.now c.args.marks.now c.args.kind in
    let is = c.loop-arm.invariant in
    let cap = is.room in
    let ok = c.loop-arm.targets.ok.0 in
    let count = ap (λ (list : List ArmAt). length list) is.listed in
    let sum = length-append c.args.targets.now.items (filter p (places_in c.args.slot c.loop-arm.arm)) in
    let few = few_in p c.args.slot c.loop-arm.arm in
    let test = c.loop-arm-test.true in
    let room = c.requires.room in
    let three = c.arms-arm-end.ensures.few in
    omega (arith, cap, ok, count, sum, few, test, three, room)

pub loop-arm-preserved : goal.loop-arm-preserved
loop-arm-preserved c =
    let p = is_target c.args.slots.now c.args.marks.now c.args.kind in
    let is = c.loop-arm.invariant in
    elim c.if-is_target.branch [
      | then-is_target w ↦ record {
        listed = ap (λ (v : Vec ArmAt Global). v.items) w.targets-is ∙ w.push_reserved.ensures.items
            ∙ yes_more p c.args.slot c.loop-arm.arm c.args.targets.now.items c.loop-arm.targets.items is.listed (sym c.is_target.ensures ∙ w.if-is_target.true);
        room = ap (λ (v : Vec ArmAt Global). vec_capacity v) w.targets-is ∙ w.push_reserved.ensures.capacity ∙ is.room;
      }
      | else-is_target w ↦ record {
        listed = ap (λ (v : Vec ArmAt Global). v.items) w.targets-is
            ∙ no_more p c.args.slot c.loop-arm.arm c.args.targets.now.items c.loop-arm.targets.items is.listed (sym c.is_target.ensures ∙ w.if-is_target.false);
        room = ap (λ (v : Vec ArmAt Global). vec_capacity v) w.targets-is ∙ is.room;
      }
    ]

pub returns-clause-few : goal.returns-clause-few
returns-clause-few c =
    let p = is_target c.args.slots.now c.args.marks.now c.args.kind in
    let count = ap (λ (list : List ArmAt). length list) c.loop-arm.invariant.listed in
    let sum = length-append c.args.targets.now.items (filter p (places_in c.args.slot c.loop-arm.arm)) in
    let few = few_in p c.args.slot c.loop-arm.arm in
    let upto = c.loop-arm.auto.arm-end in
    let three = c.arms-arm-end.ensures.few in
    omega (arith, count, sum, few, upto, three)
