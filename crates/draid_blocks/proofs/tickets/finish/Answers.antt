use Rattle.std.proofs.Common.{◌∙◌, ◌++◌, ◌∷◌, [], None, Some, arith, ap, refl}
use Rattle.draid_machine.specs.declared.event.Event.TheVariants.{Finish}
use Rattle.draid_machine.specs.declared.names.Stage.TheVariants.{Writing, Live}
use Rattle.draid_entries.specs.Maps.{staged}
use Rattle.draid_blocks.proofs.Entered.{here_gone, here_turned, tickets_block, tickets_gone}
use Rattle.draid_blocks.proofs.Placing.{turned_tables}
use Rattle.draid_blocks.proofs.Turns.{all_put, finishes, misses, owed_turns}
use Rattle.draid_shard.proofs.Changed.{same_arms}
use Rattle.draid_shard.proofs.Kept.{fitting, stored_more, valid_with}
use Rattle.draid_blocks.proofs.tickets.finish.Goals as goal

pub release-requires-clause-tables : goal.release-requires-clause-tables
release-requires-clause-tables g c = fitting g.R.Rack c.args.shard.now c.requires.valid

pub add-requires-clause-owed : goal.add-requires-clause-owed
add-requires-clause-owed g c =
    let turns = owed_turns c.args.shard.now.geometry.g c.args.shard.now.entries c.release.new.entries c.args.ticket.pointer None
    (staged (Writing c.args.ticket.next c.args.ticket.missed) c.args.ticket.pointer) 2 0 c.release.ensures.gone c.requires.is_open
    (all_put c.args.shard.now.geometry.g c.args.ticket c.requires.all) refl in
    let all = c.requires.valid.owed in
    omega (arith, turns, all)

pub add-requires-2-clause-owed : goal.add-requires-2-clause-owed
add-requires-2-clause-owed g c =
    let turns = owed_turns c.args.shard.now.geometry.g c.args.shard.now.entries c.turn.new.self c.args.ticket.pointer (Some (staged Live c.args.ticket.pointer))
    (staged (Writing c.args.ticket.next c.args.ticket.missed) c.args.ticket.pointer) 2 1 c.turn.ensures.entered c.requires.is_open
    (all_put c.args.shard.now.geometry.g c.args.ticket c.requires.all) refl in
    let all = c.requires.valid.owed in
    omega (arith, turns, all)

pub returns-then-ticket-shard-clause-valid : goal.returns-then-ticket-shard-clause-valid
returns-then-ticket-shard-clause-valid g c =
    let v = c.requires.valid in
    let turns = owed_turns c.args.shard.now.geometry.g c.args.shard.now.entries c.release.new.entries c.args.ticket.pointer None
    (staged (Writing c.args.ticket.next c.args.ticket.missed) c.args.ticket.pointer) 2 0 c.release.ensures.gone c.requires.is_open
    (all_put c.args.shard.now.geometry.g c.args.ticket c.requires.all) refl in
    valid_with g.R.Rack c.args.shard.now c.release.new.space c.release.new.entries c.add.new.self v
    (c.release.ensures.tables c.args.shard.now.geometry c.args.shard.now.open_group v.tables) c.release.ensures.disabled
    (let few = v.few in let count = c.release.ensures.count in omega (arith, few, count))
    (here_gone c.args.shard.now.entries c.release.new.entries c.args.ticket.pointer c.args.shard.now.number c.release.ensures.gone v.here)
    (λ from low was. tickets_gone c.args.shard.now.entries c.release.new.entries c.args.ticket.pointer from was c.release.ensures.gone)
    (let owed = c.add.ensures.owed in let reserved = c.add.ensures.reserved in omega (arith, turns, owed, reserved)) (stored_more c.args.shard.now.history c.add.new.self _ c.add.ensures.stored)

pub returns-clause-valid : goal.returns-clause-valid
returns-clause-valid g c =
    let v = c.requires.valid in
    let turns = owed_turns c.args.shard.now.geometry.g c.args.shard.now.entries c.turn.new.self c.args.ticket.pointer (Some (staged Live c.args.ticket.pointer))
    (staged (Writing c.args.ticket.next c.args.ticket.missed) c.args.ticket.pointer) 2 1 c.turn.ensures.entered c.requires.is_open
    (all_put c.args.shard.now.geometry.g c.args.ticket c.requires.all) refl in
    valid_with g.R.Rack c.args.shard.now c.args.shard.now.space c.turn.new.self c.add-2.new.self v
    (turned_tables c.args.shard.now.geometry c.args.shard.now.open_group c.args.shard.now.space c.args.shard.now.entries c.turn.new.self c.args.ticket.pointer
    (Writing c.args.ticket.next c.args.ticket.missed) Live v.tables c.requires.is_open c.turn.ensures.entered c.turn.ensures.count)
    refl (let few = v.few in let count = c.turn.ensures.count in omega (arith, few, count))
    (here_turned c.args.shard.now.entries c.turn.new.self c.args.ticket.pointer (Writing c.args.ticket.next c.args.ticket.missed) Live c.args.shard.now.number c.requires.is_open c.turn.ensures.entered v.here)
    (λ from low was. tickets_block c.args.shard.now.entries c.turn.new.self c.args.ticket.pointer Live from refl was c.turn.ensures.entered)
    (let owed = c.add-2.ensures.owed in let reserved = c.add-2.ensures.reserved in omega (arith, turns, owed, reserved)) (stored_more c.args.shard.now.history c.add-2.new.self _ c.add-2.ensures.stored)

pub returns-clause-event : goal.returns-clause-event
returns-clause-event g c = record {
  part = refl;
  stored = c.add-2.ensures.stored ∙ ap (λ key. c.args.shard.now.history.events.items ++ Finish key ∷ []) c.key_of-key.ensures;
  leads = λ w reached is_in. finishes c.args.shard.now c.args.shard.now.space c.turn.new.self c.add-2.new.self c.args.ticket c.requires.is_open c.requires.all
      (let few = c.if-ticket-shard.false in omega (arith, few)) c.turn.ensures.entered w is_in;
}

pub returns-then-ticket-shard-clause-event : goal.returns-then-ticket-shard-clause-event
returns-then-ticket-shard-clause-event g c = record {
  part = refl;
  stored = c.add.ensures.stored ∙ ap (λ key. c.args.shard.now.history.events.items ++ Finish key ∷ []) c.key_of-key.ensures;
  leads = λ w reached is_in. misses c.args.shard.now c.release.new.space c.release.new.entries c.add.new.self c.args.ticket c.requires.is_open c.requires.all
      (let many = c.if-ticket-shard.true in omega (arith, many)) c.release.ensures.gone w is_in;
}

pub release-requires-clause-there : goal.release-requires-clause-there
release-requires-clause-there g c = record { stage = Writing c.args.ticket.next c.args.ticket.missed; there = c.requires.is_open }

pub turn-requires : goal.turn-requires
turn-requires g c = record { there = record { stage = Writing c.args.ticket.next c.args.ticket.missed; there = c.requires.is_open } }

pub returns-then-ticket-shard-clause-kit : goal.returns-then-ticket-shard-clause-kit
returns-then-ticket-shard-clause-kit g c = record { rack = refl; areas = record { even = refl; odd = refl } }

pub returns-then-ticket-shard-clause-missed : goal.returns-then-ticket-shard-clause-missed
returns-then-ticket-shard-clause-missed g c = (c.if-ticket-shard.true, refl)

pub returns-then-ticket-shard-clause-gone : goal.returns-then-ticket-shard-clause-gone
returns-then-ticket-shard-clause-gone g c = record { entry = c.release.ensures.gone; groups = record { open_group_is = refl; closing = refl; sealed = refl; committed = refl }; slots = same_arms c.args.shard.now.slots }

pub returns-then-ticket-shard-clause-reserve : goal.returns-then-ticket-shard-clause-reserve
returns-then-ticket-shard-clause-reserve g c = record { reserved = c.add.ensures.reserved; limit = c.add.ensures.limit }

pub returns-clause-kit : goal.returns-clause-kit
returns-clause-kit g c = record { rack = refl; areas = record { even = refl; odd = refl } }

pub returns-clause-live : goal.returns-clause-live
returns-clause-live g c = (c.if-ticket-shard.false, refl)

pub returns-clause-sets : goal.returns-clause-sets
returns-clause-sets g c = record { entry = c.turn.ensures.entered; groups = record { open_group_is = refl; closing = refl; sealed = refl; committed = refl }; slots = same_arms c.args.shard.now.slots }

pub returns-clause-reserve : goal.returns-clause-reserve
returns-clause-reserve g c = record { reserved = c.add-2.ensures.reserved; limit = c.add-2.ensures.limit }
