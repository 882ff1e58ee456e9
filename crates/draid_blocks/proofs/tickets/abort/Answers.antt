use Rattle.draid_blocks.proofs.Begins.{columns_low}
use Rattle.std.proofs.Common.{◌∙◌, ◌+◌, ◌-◌, ◌++◌, ◌∷◌, [], None, arith, ap, refl}
use Rattle.draid_machine.specs.declared.event.Event.TheVariants.{Abort}
use Rattle.draid_machine.specs.declared.names.Stage.TheVariants.{Writing}
use Rattle.draid_entries.specs.Maps.{staged}
use Rattle.draid_blocks.proofs.Entered.{here_gone, tickets_gone}
use Rattle.draid_blocks.proofs.Turns.{aborts, owed_turns}
use Rattle.draid_shard.proofs.Changed.{same_arms}
use Rattle.draid_shard.proofs.Kept.{fitting, stored_more, valid_with}
use Rattle.draid_blocks.proofs.tickets.abort.Goals as goal

pub release-requires-clause-tables : goal.release-requires-clause-tables
release-requires-clause-tables g c = fitting g.R.Rack c.args.shard.now c.requires.valid

pub add-requires-clause-owed : goal.add-requires-clause-owed
add-requires-clause-owed g c =
    let turns = owed_turns c.args.shard.now.geometry.g c.args.shard.now.entries c.release.new.entries c.args.ticket.pointer None
    (staged (Writing c.args.ticket.next c.args.ticket.missed) c.args.ticket.pointer) (c.args.shard.now.geometry.g - c.args.ticket.next + 2) 0 c.release.ensures.gone c.requires.is_open refl refl in
    let all = c.requires.valid.owed in
    let from = c.from-owed.ensures in
    let left = c.saturating_sub-left.ensures in
    omega (arith, turns, all, from, left)

pub returns-clause-valid : goal.returns-clause-valid
returns-clause-valid g c =
    let v = c.requires.valid in
    let turns = owed_turns c.args.shard.now.geometry.g c.args.shard.now.entries c.release.new.entries c.args.ticket.pointer None
    (staged (Writing c.args.ticket.next c.args.ticket.missed) c.args.ticket.pointer) (c.args.shard.now.geometry.g - c.args.ticket.next + 2) 0 c.release.ensures.gone c.requires.is_open refl refl in
    valid_with g.R.Rack c.args.shard.now c.release.new.space c.release.new.entries c.add.new.self v
    (c.release.ensures.tables c.args.shard.now.geometry c.args.shard.now.open_group v.tables) c.release.ensures.disabled
    (let few = v.few in let count = c.release.ensures.count in omega (arith, few, count))
    (here_gone c.args.shard.now.entries c.release.new.entries c.args.ticket.pointer c.args.shard.now.number c.release.ensures.gone v.here)
    (λ from low was. tickets_gone c.args.shard.now.entries c.release.new.entries c.args.ticket.pointer from was c.release.ensures.gone)
    (let owed = c.add.ensures.owed in let reserved = c.add.ensures.reserved in let from = c.from-owed.ensures in let left = c.saturating_sub-left.ensures in omega (arith, turns, owed, reserved, from, left)) (stored_more c.args.shard.now.history c.add.new.self _ c.add.ensures.stored)

pub returns-clause-event : goal.returns-clause-event
returns-clause-event g c = record {
  part = refl;
  stored = c.add.ensures.stored ∙ ap (λ key. c.args.shard.now.history.events.items ++ Abort key ∷ []) c.key_of.ensures;
  leads = λ w reached is_in. aborts c.args.shard.now c.release.new.space c.release.new.entries c.add.new.self c.args.ticket c.requires.is_open c.release.ensures.gone w is_in;
}

pub release-requires-clause-there : goal.release-requires-clause-there
release-requires-clause-there g c = record { stage = Writing c.args.ticket.next c.args.ticket.missed; there = c.requires.is_open }

pub returns-clause-kit : goal.returns-clause-kit
returns-clause-kit g c = record { rack = refl; areas = record { even = refl; odd = refl } }

pub returns-clause-gone : goal.returns-clause-gone
returns-clause-gone g c = record { entry = c.release.ensures.gone; groups = record { open_group_is = refl; closing = refl; sealed = refl; committed = refl }; slots = same_arms c.args.shard.now.slots }

pub returns-clause-reserve : goal.returns-clause-reserve
returns-clause-reserve g c = record { reserved = c.add.ensures.reserved; limit = c.add.ensures.limit }

pub add-requires-clause-some : goal.add-requires-clause-some
add-requires-clause-some g c = omega arith

pub overflow_add-owed : goal.overflow_add-owed
overflow_add-owed g c =
    let most = columns_low c.args.shard.now.geometry c.requires.valid.part.layout.geometry_is in
    let from = c.from-owed.ensures in
    let left = c.saturating_sub-left.ensures in
    omega (arith, from, left, most)
