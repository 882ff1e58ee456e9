use Rattle.std.proofs.Common.{◌≡◌, ◌≤◌, ◌+◌, ◌-◌, ◌∷◌, ◌++◌, ◌∙◌, [], IfSome, List, Option, ap, arith, length, refl, subst, sym}
use Rattle.draid_machine.specs.declared.event.Event.{Event}
use Rattle.draid_pass.specs.declared.pass.Pass.{Pass}
use Rattle.draid_plans.specs.Targets.{HasTargetRoom}
use Rattle.draid_slots.specs.Changes.{HasRoom}
use Rattle.draid_slots.specs.Table.{SlotTable}
use Rattle.draid_entries.specs.History.{owed_of, stored_of}
use Rattle.draid_shard.specs.Loans.{owed_for_loan}
use Rattle.draid_shard.proofs.Kept.{stored_more}
use Rattle.draid_machine.specs.declared.event.Event.TheVariants.{Attach}
use Rattle.draid_machine.specs.declared.names.ArmName.{ArmName}
use Rattle.draid_shard.specs.States.{stored_in}
use Rattle.draid_disks.specs.Renewing.{moved_below}
use Rattle.draid_disks.specs.Replanning.{attach_events}
use Rattle.draid_disks.proofs.Comes.{after_shard, comes_in, comes_step, comes_valid, mid_once, mid_room, ren_behind, ren_held, ren_room, ren_targets, some_events, spare_small, state}
use Rattle.draid_disks.proofs.Plain.{plain_attached}
use Rattle.draid_disks.proofs.attaching.attach.Goals as goal

pub renew-requires-clause-once : goal.renew-requires-clause-once
renew-requires-clause-once g c = mid_once g.R.Rack c.args.shard.now c.requires.valid c.args.slot c.args.kind c.args.number c.requires.leaf c.in_ok-moved.ensures.allowed c.attach.new.self c.last_missed-upto.result c.in_ok-moved.ensures.attached

pub renew-requires-clause-room : goal.renew-requires-clause-room
renew-requires-clause-room g c =
    mid_room g.R.Rack c.args.shard.now c.requires.valid c.args.slot c.args.kind c.args.number c.requires.leaf c.in_ok-moved.ensures.allowed c.attach.new.self c.last_missed-upto.result c.in_ok-moved.ensures.attached c.requires.room.slots (moved_below c.in_ok-moved.moved c.args.shard.now.geometry.spec.spares)

pub replan-requires-clause-pass : goal.replan-requires-clause-pass
replan-requires-clause-pass g c = ren_held g.R.Rack c.args.shard.now c.requires.valid c.args.slot c.args.kind c.args.number c.requires.leaf c.in_ok-moved.ensures.allowed c.attach.new.self c.renew.new.slots c.in_ok-moved.moved c.last_missed-upto.result c.in_ok-moved.ensures.attached c.in_ok-moved.ensures.moved c.renew.ensures c.args.shard.now.pass c.args.shard.now.last_pass c.requires.valid.pass

pub replan-requires-clause-targets : goal.replan-requires-clause-targets
replan-requires-clause-targets g c = ren_targets g.R.Rack c.args.shard.now c.requires.valid c.args.slot c.args.kind c.args.number c.requires.leaf c.in_ok-moved.ensures.allowed c.attach.new.self c.renew.new.slots c.in_ok-moved.moved c.last_missed-upto.result c.in_ok-moved.ensures.attached c.in_ok-moved.ensures.moved c.renew.ensures c.args.shard.now.pass c.requires.room.targets

pub replan-requires-clause-logs : goal.replan-requires-clause-logs
replan-requires-clause-logs g c = ren_room g.R.Rack c.args.shard.now c.requires.valid c.args.slot c.args.kind c.args.number c.requires.leaf c.in_ok-moved.ensures.allowed c.attach.new.self c.renew.new.slots c.in_ok-moved.moved c.last_missed-upto.result c.in_ok-moved.ensures.attached c.in_ok-moved.ensures.moved c.renew.ensures c.requires.room.slots

pub returns-clause-valid : goal.returns-clause-valid
returns-clause-valid g c =
    let some = some_events c.args.shard.now.pass in
    let events = c.attach_events.ensures in
    let wide = c.from-passed.ensures in
    let passed : (c.from-passed.result - 1) + 1 ≡ attach_events c.args.shard.now.pass = omega (arith, some, events, wide) in
    let less = c.add_reserved.ensures.owed in
    let dropped = c.drop_loan.ensures.owed in
    let owed : owed_of c.add_reserved.new.self + 1 + owed_for_loan c.args.shard.now.kept ≡ owed_of c.args.shard.now.history = omega (arith, less, dropped) in
    let more = stored_more c.drop_loan.new.history c.add_reserved.new.self _ c.add_reserved.ensures.stored in
    let same = ap length c.drop_loan.ensures.stored in
    let stored : stored_of c.args.shard.now.history ≤ stored_of c.add_reserved.new.self = omega (arith, more, same) in
    comes_valid g.R.Rack c.args.shard.now c.requires.valid c.args.slot c.args.kind c.args.number c.requires.leaf c.in_ok-moved.ensures.allowed c.attach.new.self c.renew.new.slots c.in_ok-moved.moved c.last_missed-upto.result c.in_ok-moved.ensures.attached c.in_ok-moved.ensures.moved c.renew.ensures c.replan.new.slots c.replan.new.pass c.replan.new.last c.drop_loan.new.kept c.add_reserved.new.self c.replan.ensures.slots c.drop_loan.ensures.none c.requires.room.slots c.replan.ensures.pass c.replan.ensures.kind c.replan.ensures.owed (c.from-passed.result - 1) passed owed (c.add_reserved.ensures.reserved ∙ c.drop_loan.ensures.reserved) stored

pub returns-clause-event : goal.returns-clause-event
returns-clause-event g c = record {
  part = refl;
  stored = subst (λ (n : ArmName). stored_in (after_shard g.R.Rack c.args.shard.now c.requires.valid c.args.slot c.args.kind c.args.number c.requires.leaf c.in_ok-moved.ensures.allowed c.attach.new.self c.renew.new.slots c.in_ok-moved.moved c.last_missed-upto.result c.in_ok-moved.ensures.attached c.in_ok-moved.ensures.moved c.renew.ensures c.replan.new.slots c.replan.new.pass c.replan.new.last c.drop_loan.new.kept c.add_reserved.new.self c.replan.ensures.slots c.drop_loan.ensures.none) ≡ stored_in c.args.shard.now ++ Attach c.args.slot n ∷ [])
      (c.called-arm.ensures (spare_small g.R.Rack c.args.shard.now c.requires.valid c.args.slot c.args.kind c.args.number c.requires.leaf c.in_ok-moved.ensures.allowed)) (c.add_reserved.ensures.stored ∙ ap (λ (events : List Event). events ++ Attach c.args.slot c.called-arm.result ∷ []) c.drop_loan.ensures.stored);
  leads = λ w reached is. record {
    state = state g.R.Rack c.args.shard.now c.requires.valid c.args.slot c.args.kind c.args.number c.requires.leaf c.in_ok-moved.ensures.allowed c.attach.new.self c.renew.new.slots c.in_ok-moved.moved c.last_missed-upto.result c.in_ok-moved.ensures.attached c.in_ok-moved.ensures.moved c.renew.ensures c.replan.new.slots c.replan.new.pass c.replan.new.last c.drop_loan.new.kept c.add_reserved.new.self c.replan.ensures.slots c.drop_loan.ensures.none w reached is;
    step = comes_step g.R.Rack c.args.shard.now c.requires.valid c.args.slot c.args.kind c.args.number c.requires.leaf c.in_ok-moved.ensures.allowed c.attach.new.self c.renew.new.slots c.in_ok-moved.moved c.last_missed-upto.result c.in_ok-moved.ensures.attached c.in_ok-moved.ensures.moved c.renew.ensures c.replan.new.slots c.replan.new.pass c.replan.new.last c.drop_loan.new.kept c.add_reserved.new.self c.replan.ensures.slots c.drop_loan.ensures.none w reached is (c.last_missed-upto.ensures.last w is) (c.can_replan.ensures.0 c.if-not-can_replan.false);
    is_in = comes_in g.R.Rack c.args.shard.now c.requires.valid c.args.slot c.args.kind c.args.number c.requires.leaf c.in_ok-moved.ensures.allowed c.attach.new.self c.renew.new.slots c.in_ok-moved.moved c.last_missed-upto.result c.in_ok-moved.ensures.attached c.in_ok-moved.ensures.moved c.renew.ensures c.replan.new.slots c.replan.new.pass c.replan.new.last c.drop_loan.new.kept c.add_reserved.new.self c.replan.ensures.slots c.drop_loan.ensures.none w reached is c.replan.ensures.state;
  };
}

pub returns-clause-arms : goal.returns-clause-arms
returns-clause-arms g c =
    plain_attached c.args.shard.now.slots c.attach.new.self c.renew.new.slots c.replan.new.slots (moved_below c.in_ok-moved.moved c.args.shard.now.geometry.spec.spares) c.last_missed-upto.result c.renew.ensures
    c.replan.ensures.slots.arms_stay c.replan.ensures.slots.detached_stay c.args.slot c.args.kind c.args.number c.in_ok-moved.ensures.attached

pub drop_loan-requires : goal.drop_loan-requires
drop_loan-requires g c = let all = c.requires.valid.owed in record { owed = omega (arith, all) }

pub add_reserved-requires : goal.add_reserved-requires
add_reserved-requires g c =
    let some = some_events c.args.shard.now.pass in
    let events = c.attach_events.ensures in
    let wide = c.from-passed.ensures in
    let reserved = c.requires.reserved in
    let same = c.drop_loan.ensures.reserved in
    record { reserved = omega (arith, some, events, wide, reserved, same) }

pub returns-clause-left : goal.returns-clause-left
returns-clause-left g c = record {
  idle = λ none. (c.replan.ensures.none none).none;
  room = λ arms none has. record {
    slots = subst (λ (slots : SlotTable). HasRoom slots (arms + 7) arms) (sym (c.replan.ensures.none none).same)
        (ren_behind g.R.Rack c.args.shard.now c.requires.valid c.args.slot c.args.kind c.args.number c.requires.leaf c.in_ok-moved.ensures.allowed c.attach.new.self c.renew.new.slots c.in_ok-moved.moved c.last_missed-upto.result c.in_ok-moved.ensures.attached c.in_ok-moved.ensures.moved c.renew.ensures arms has.slots);
    targets = subst (λ (o : Option Pass). IfSome o (λ (pass : Pass). HasTargetRoom c.replan.new.slots pass.targets)) (sym (c.replan.ensures.none none).none) tt;
  };
}
