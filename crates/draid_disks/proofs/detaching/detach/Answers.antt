use Rattle.std.proofs.Common.{◌≡◌, ◌∷◌, ◌++◌, [], refl, subst, sym}
use Rattle.draid_machine.specs.declared.event.Event.TheVariants.{Detach}
use Rattle.draid_machine.specs.declared.names.ArmName.{ArmName}
use Rattle.draid_shard.proofs.Kept.{stored_more}
use Rattle.draid_shard.specs.States.{Does, stored_in}
use Rattle.draid_disks.specs.Renewing.{moved_below}
use Rattle.draid_disks.proofs.Goes.{after_shard, goes_in, goes_step, goes_valid, once_mid, room_mid, state}
use Rattle.draid_disks.proofs.LeafLogs.{leaf_logs}
use Rattle.draid_disks.proofs.Plain.{plain_detached}
use Rattle.draid_disks.proofs.detaching.detach.Goals as goal

pub renew-requires-clause-once : goal.renew-requires-clause-once
renew-requires-clause-once g c =
    once_mid g.R.Rack c.args.shard.now c.requires.valid c.requires.pass c.args.at c.requires.there.0 c.requires.there.1 c.in_ok-moved.ensures.allowed c.detach.new.self c.in_ok-moved.ensures.detached

pub renew-requires-clause-room : goal.renew-requires-clause-room
renew-requires-clause-room g c =
    room_mid g.R.Rack c.args.shard.now c.requires.valid c.requires.pass c.args.at c.requires.there.0 c.requires.there.1 c.in_ok-moved.ensures.allowed c.detach.new.self c.in_ok-moved.ensures.detached
    c.requires.room.slots (moved_below c.in_ok-moved.moved c.args.shard.now.geometry.spec.spares)

pub returns-clause-valid : goal.returns-clause-valid
returns-clause-valid g c =
    goes_valid g.R.Rack c.args.shard.now c.requires.valid c.requires.pass c.args.at c.requires.there.0 c.requires.there.1 c.in_ok-moved.ensures.allowed c.detach.new.self c.in_ok-moved.ensures.detached
    c.renew.new.slots c.in_ok-moved.moved c.last_missed-upto.result c.add_reserved.new.self c.in_ok-moved.ensures.moved c.renew.ensures c.requires.room.slots c.add_reserved.ensures.owed c.add_reserved.ensures.reserved
    (stored_more c.args.shard.now.history c.add_reserved.new.self _ c.add_reserved.ensures.stored)

pub returns-clause-event : goal.returns-clause-event
returns-clause-event g c =
    let new = after_shard g.R.Rack c.args.shard.now c.requires.valid c.requires.pass c.args.at c.requires.there.0 c.requires.there.1 c.in_ok-moved.ensures.allowed c.detach.new.self
    c.in_ok-moved.ensures.detached c.renew.new.slots c.in_ok-moved.moved c.last_missed-upto.result c.add_reserved.new.self c.in_ok-moved.ensures.moved c.renew.ensures c.requires.room.slots in
    subst (λ (n : ArmName). Does c.args.shard.now new (Detach c.args.at.slot n)) c.requires.there.2 (record {
      part = refl;
      stored = subst (λ (n : ArmName). stored_in new ≡ stored_in c.args.shard.now ++ Detach c.args.at.slot n ∷ []) (sym c.requires.there.2) c.add_reserved.ensures.stored;
      leads = λ w reached is. record {
        state = state g.R.Rack c.args.shard.now c.requires.valid c.requires.pass c.args.at c.requires.there.0 c.requires.there.1 c.in_ok-moved.ensures.allowed c.detach.new.self
            c.in_ok-moved.ensures.detached c.renew.new.slots c.in_ok-moved.moved c.last_missed-upto.result c.add_reserved.new.self c.in_ok-moved.ensures.moved c.renew.ensures c.requires.room.slots w reached is;
        step = goes_step g.R.Rack c.args.shard.now c.requires.valid c.requires.pass c.args.at c.requires.there.0 c.requires.there.1 c.in_ok-moved.ensures.allowed c.detach.new.self
            c.in_ok-moved.ensures.detached c.renew.new.slots c.in_ok-moved.moved c.last_missed-upto.result c.add_reserved.new.self c.in_ok-moved.ensures.moved c.renew.ensures c.requires.room.slots w reached is
            (c.last_missed-upto.ensures.last w is);
        is_in = goes_in g.R.Rack c.args.shard.now c.requires.valid c.requires.pass c.args.at c.requires.there.0 c.requires.there.1 c.in_ok-moved.ensures.allowed c.detach.new.self
            c.in_ok-moved.ensures.detached c.renew.new.slots c.in_ok-moved.moved c.last_missed-upto.result c.add_reserved.new.self c.in_ok-moved.ensures.moved c.renew.ensures c.requires.room.slots w reached is;
      };
    })

pub returns-clause-arms : goal.returns-clause-arms
returns-clause-arms g c =
    plain_detached c.args.shard.now.slots c.detach.new.self c.renew.new.slots c.renew.new.slots (moved_below c.in_ok-moved.moved c.args.shard.now.geometry.spec.spares) c.last_missed-upto.result c.renew.ensures refl refl
    c.args.at c.args.shard.now.open_group c.in_ok-moved.ensures.detached

pub returns-clause-logs : goal.returns-clause-logs
returns-clause-logs g c =
    leaf_logs c.args.shard.now.slots c.detach.new.self c.renew.new.slots (moved_below c.in_ok-moved.moved c.args.shard.now.geometry.spec.spares) c.last_missed-upto.result c.args.at c.args.shard.now.open_group
    c.renew.ensures c.in_ok-moved.ensures.detached
