use Rattle.std.proofs.Common.{None, get_or, refl, subst, take}
use Rattle.std.proofs.lemmas.List.{take_all}
use Rattle.draid_names.specs.declared.arm.ArmAt.{ArmAt}
use Rattle.draid_plans.specs.Logs.{Fills, has_place}
use Rattle.draid_plans.proofs.Changes.{fills_more, fills_none, room_still}
use Rattle.draid_plans.proofs.Order.{has_more, stands_once}
use Rattle.draid_plans.proofs.logs.fill_logs.Goals as goal

pub fill-requires-clause-room : goal.fill-requires-clause-room
fill-requires-clause-room c =
    let ts = c.args.targets.now in
    let k = c.loop-target.target-index in
    let d : ArmAt = record { slot = 0; arm = 0 } in
    room_still (has_place (take k ts) (get_or ts k d)) _ _ (stands_once ts None k d c.requires.ascending c.loop-target-test.true) (c.loop-target.invariant.room (get_or ts k d))
    (c.requires.room (get_or ts k d) (c.requires.there k d c.loop-target-test.true))

pub loop-target-preserved : goal.loop-target-preserved
loop-target-preserved c =
    let ts = c.args.targets.now in
    let k = c.loop-target.target-index in
    let d : ArmAt = record { slot = 0; arm = 0 } in
    fills_more c.args.slots.now c.loop-target.slots c.fill.new.self (has_place (take k ts)) _ (get_or ts k d) c.args.upto c.loop-target.invariant c.fill.ensures
    (stands_once ts None k d c.requires.ascending c.loop-target-test.true) (λ at. has_more ts k d at c.loop-target-test.true)

pub loop-target-init : goal.loop-target-init
loop-target-init c = fills_none c.args.slots.now _ c.args.upto (λ at. refl)

pub returns : goal.returns
returns c = subst (λ ts. Fills c.args.slots.now c.loop-target.slots (has_place ts) c.args.upto) (take_all c.loop-target.target-index c.args.targets.now c.loop-target-test.false) c.loop-target.invariant
