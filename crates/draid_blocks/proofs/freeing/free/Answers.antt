use Rattle.std.proofs.Common.{◌∙◌, ◌++◌, ◌∷◌, [], Some, arith, ap, refl, sym}
use Rattle.std.proofs.lemmas.Bool.{true≢false}
use Rattle.draid_machine.specs.declared.event.Event.TheVariants.{Free}
use Rattle.draid_machine.specs.declared.names.Stage.TheVariants.{Live, Freed}
use Rattle.draid_entries.specs.Maps.{staged}
use Rattle.draid_blocks.proofs.Begins.{due_from, due_upto}
use Rattle.draid_blocks.proofs.Entered.{here_turned, tickets_block}
use Rattle.draid_blocks.proofs.Placing.{turned_tables}
use Rattle.draid_blocks.proofs.Turns.{frees, owed_turns}
use Rattle.draid_shard.proofs.Changed.{same_arms}
use Rattle.draid_shard.proofs.Kept.{stored_more, valid_with}
use Rattle.draid_blocks.proofs.freeing.free.Goals as goal

pub add-requires-clause-owed : goal.add-requires-clause-owed
add-requires-clause-owed g c =
    let is_live = c.is_live.ensures.0 c.if-not-is_live.false in
    let turns = owed_turns c.args.shard.now.geometry.g c.args.shard.now.entries c.turn.new.self c.args.pointer.now _ (staged Live c.args.pointer.now) 1 0 c.turn.ensures.entered is_live refl refl in
    let all = c.requires.valid.owed in
    omega (arith, turns, all)

pub returns-clause-valid : goal.returns-clause-valid
returns-clause-valid g c =
    let v = c.requires.valid in
    let is_live = c.is_live.ensures.0 c.if-not-is_live.false in
    let entry = staged (Freed c.max-group.result) c.args.pointer.now in
    let turns = owed_turns c.args.shard.now.geometry.g c.args.shard.now.entries c.turn.new.self c.args.pointer.now (Some entry) (staged Live c.args.pointer.now) 1 0 c.turn.ensures.entered is_live refl refl in
    valid_with g.R.Rack c.args.shard.now c.args.shard.now.space c.turn.new.self c.add.new.self v
    (turned_tables c.args.shard.now.geometry c.args.shard.now.open_group c.args.shard.now.space c.args.shard.now.entries c.turn.new.self c.args.pointer.now Live (Freed c.max-group.result)
    v.tables is_live c.turn.ensures.entered c.turn.ensures.count)
    refl (let few = v.few in let count = c.turn.ensures.count in omega (arith, few, count))
    (here_turned c.args.shard.now.entries c.turn.new.self c.args.pointer.now Live (Freed c.max-group.result) c.args.shard.now.number is_live c.turn.ensures.entered v.here)
    (λ from low was. tickets_block c.args.shard.now.entries c.turn.new.self c.args.pointer.now (Freed c.max-group.result) from refl was c.turn.ensures.entered)
    (let owed = c.add.ensures.owed in let reserved = c.add.ensures.reserved in omega (arith, turns, owed, reserved)) (stored_more c.args.shard.now.history c.add.new.self _ c.add.ensures.stored)

pub returns-clause-event : goal.returns-clause-event
returns-clause-event g c =
    let is_live = c.is_live.ensures.0 c.if-not-is_live.false in (
      c.max-group.ensures,
      record {
        part = refl;
        stored = c.add.ensures.stored ∙ ap (λ key. c.args.shard.now.history.events.items ++ Free key c.max-group.result ∷ []) c.key_of.ensures;
        leads = λ w reached is_in. frees c.args.shard.now c.args.shard.now.space c.turn.new.self c.add.new.self c.args.pointer.now c.max-group.result is_live
            (due_from c.args.shard.now.open_group c.max-group.result c.args.floor c.max-group.ensures)
            (due_upto c.args.shard.now.open_group c.max-group.result c.args.floor c.max-group.ensures c.requires.floor.upto) c.turn.ensures.entered w is_in;
      },
    )

pub turn-requires : goal.turn-requires
turn-requires g c = record { there = record { stage = Live; there = c.is_live.ensures.0 c.if-not-is_live.false } }

pub returns-clause-kit : goal.returns-clause-kit
returns-clause-kit g c = record { rack = refl; areas = record { even = refl; odd = refl } }

pub returns-clause-not_live : goal.returns-clause-not_live
returns-clause-not_live g c = (λ e. absurd (true≢false (sym e)), λ dead. absurd (dead (c.is_live.ensures.0 c.if-not-is_live.false)))

pub returns-clause-sets : goal.returns-clause-sets
returns-clause-sets g c = record { entry = c.turn.ensures.entered; groups = record { open_group_is = refl; closing = refl; sealed = refl; committed = refl }; slots = same_arms c.args.shard.now.slots }

pub returns-clause-reserve : goal.returns-clause-reserve
returns-clause-reserve g c = record { reserved = c.add.ensures.reserved; limit = c.add.ensures.limit }

pub returns-then-not-is_live : goal.returns-then-not-is_live
returns-then-not-is_live g c = record {
  valid = c.requires.valid;
  kit = record { rack = refl; areas = record { even = refl; odd = refl } };
  not_live = (λ e live. true≢false (sym (c.is_live.ensures.1 live) ∙ c.if-not-is_live.true), λ dead. refl);
  event = tt;
  sets = tt;
  same = refl;
  reserve = record { reserved = refl; limit = refl };
  pass = refl;
}
