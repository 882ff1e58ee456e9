use Rattle.std.proofs.Common.{◌∙◌, ◌++◌, ◌∷◌, [], List, arith, ap, refl, Err, subst}
use Rattle.draid_machine.specs.declared.event.Event.{Event}
use Rattle.draid_machine.specs.declared.event.Event.TheVariants.{Close}
use Rattle.draid_shard.proofs.Kept.{stored_more}
use Rattle.draid_shard.proofs.Changed.{arms_kept, same_arms, same_entries}
use Rattle.draid_pool.proofs.Closed.{asked_nothing, asked_valid, closed_valid, closes, kept_in, kept_valid}
use Rattle.draid_entries.specs.History.{AskIs}
use Rattle.draid_pool.proofs.Keeping.{stays_by}
use Rattle.draid_pool.proofs.closing.close_group.Goals as goal

pub add_asked-requires : goal.add_asked-requires
add_asked-requires g c = record { some = omega arith; asked = c.in-Ok.ensures.asked }

pub returns-in-Err-Worn : goal.returns-in-Err-Worn
returns-in-Err-Worn g c =
    record {
      valid = asked_valid g.R.Rack c.args.shard.now c.ask_for_group.new.self c.ask_for_group.ensures.same c.requires.valid;
      kit = record { rack = refl; areas = record { even = refl; odd = refl } };
      event = tt;
      not_worn = tt;
      closes = tt;
      none = asked_nothing g.R.Rack c.args.shard.now c.ask_for_group.new.self c.ask_for_group.ensures.same;
      slots = same_arms c.args.shard.now.slots;
      refused = subst (λ e. AskIs c.args.shard.now.history 3 0 (Err e)) c.in-Err-Worn.field-0-is c.in-Err-Worn.ensures.answer;
      reserve = record { reserved = c.ask_for_group.ensures.same.reserved; limit = c.ask_for_group.ensures.same.limit };
      stays = stays_by g.R.Rack.faults c.args.shard.now _ refl refl (same_arms c.args.shard.now.slots) refl;
    }

pub returns-in-Err-NoMemory : goal.returns-in-Err-NoMemory
returns-in-Err-NoMemory g c =
    record {
      valid = asked_valid g.R.Rack c.args.shard.now c.ask_for_group.new.self c.ask_for_group.ensures.same c.requires.valid;
      kit = record { rack = refl; areas = record { even = refl; odd = refl } };
      event = tt;
      not_worn = tt;
      closes = tt;
      none = asked_nothing g.R.Rack c.args.shard.now c.ask_for_group.new.self c.ask_for_group.ensures.same;
      slots = same_arms c.args.shard.now.slots;
      refused = tt;
      reserve = record { reserved = c.ask_for_group.ensures.same.reserved; limit = c.ask_for_group.ensures.same.limit };
      stays = stays_by g.R.Rack.faults c.args.shard.now _ refl refl (same_arms c.args.shard.now.slots) refl;
    }

pub returns-in_default : goal.returns-in_default
returns-in_default g c =
    record {
      valid = kept_valid g.R.Rack c.args.shard.now c.reserve.new.self c.in_default.ensures.kept c.ask_for_group.new.self c.requires.valid c.in_default.ensures.roomier c.in-Ok.ensures.same;
      kit = record { rack = refl; areas = record { even = refl; odd = refl } };
      event = tt;
      not_worn = tt;
      closes = tt;
      none = record {
        none = record {
          part = refl;
          stored = c.in-Ok.ensures.same.events;
          stays = kept_in g.R.Rack c.args.shard.now c.reserve.new.self c.in_default.ensures.kept c.ask_for_group.new.self;
        };
        keeps = record { entries = same_entries c.args.shard.now.entries; groups = record { open_group_is = refl; closing = refl; sealed = refl; committed = refl } };
        slots = arms_kept c.args.shard.now.slots c.reserve.new.self c.in_default.ensures.kept;
      };
      slots = arms_kept c.args.shard.now.slots c.reserve.new.self c.in_default.ensures.kept;
      refused = tt;
      reserve = record { reserved = c.ask_for_group.ensures.same.reserved; limit = c.ask_for_group.ensures.same.limit };
      stays = stays_by g.R.Rack.faults c.args.shard.now _ refl refl (arms_kept c.args.shard.now.slots c.reserve.new.self c.in_default.ensures.kept) refl;
    }

pub returns-then-group-eq-LAST_NUMBER : goal.returns-then-group-eq-LAST_NUMBER
returns-then-group-eq-LAST_NUMBER g c =
    record {
      valid = asked_valid g.R.Rack c.args.shard.now c.ask_for_group.new.self c.ask_for_group.ensures.same c.requires.valid;
      kit = record { rack = refl; areas = record { even = refl; odd = refl } };
      event = tt;
      not_worn = tt;
      closes = tt;
      none = asked_nothing g.R.Rack c.args.shard.now c.ask_for_group.new.self c.ask_for_group.ensures.same;
      slots = same_arms c.args.shard.now.slots;
      refused = (c.in-Ok.ensures.answer, c.if-group-eq-LAST_NUMBER.true);
      reserve = record { reserved = c.ask_for_group.ensures.same.reserved; limit = c.ask_for_group.ensures.same.limit };
      stays = stays_by g.R.Rack.faults c.args.shard.now _ refl refl (same_arms c.args.shard.now.slots) refl;
    }

pub returns : goal.returns
returns g c =
    let open_is = c.requires.group in
    let other = c.if-group-eq-LAST_NUMBER.false in
    record {
      valid = (let v = c.requires.valid in
          let same = c.in-Ok.ensures.same in
          let low = v.low in
          closed_valid g.R.Rack c.args.shard.now c.reserve.new.self c.in-Ok-reserve.ensures.kept c.args.group open_is c.requires.idle (omega (arith, low, open_is, other)) c.add_asked.new.self v c.in-Ok-reserve.ensures.room
          (let owed = c.add_asked.ensures.owed in let was = same.owed in omega (arith, owed, was)) (c.add_asked.ensures.reserved ∙ same.reserved)
          (let more = stored_more c.ask_for_group.new.self c.add_asked.new.self _ c.add_asked.ensures.stored in let kept = same.stored in omega (arith, more, kept)));
      kit = record { rack = refl; areas = record { even = refl; odd = refl } };
      event = (let low = c.requires.valid.low in
          record {
            part = refl;
            stored = c.add_asked.ensures.stored ∙ ap (λ (events : List Event). events ++ Close c.args.group ∷ []) c.in-Ok.ensures.same.events;
            leads = λ w reached at. closes g.R.Rack c.args.shard.now c.reserve.new.self c.in-Ok-reserve.ensures.kept c.args.group open_is c.requires.idle (omega (arith, low, open_is, other)) c.add_asked.new.self w at;
          });
      not_worn = (let low = c.requires.valid.low in
          (c.in-Ok.ensures.answer, omega (arith, low, open_is, other)));
      closes = record { entries = same_entries c.args.shard.now.entries; open_group_is = refl; closing = refl; sealed = refl; committed = refl };
      none = tt;
      slots = arms_kept c.args.shard.now.slots c.reserve.new.self c.in-Ok-reserve.ensures.kept;
      refused = tt;
      reserve = record { reserved = c.add_asked.ensures.reserved ∙ c.in-Ok.ensures.same.reserved; limit = c.add_asked.ensures.limit ∙ c.in-Ok.ensures.same.limit };
      stays = stays_by g.R.Rack.faults c.args.shard.now _ refl refl (arms_kept c.args.shard.now.slots c.reserve.new.self c.in-Ok-reserve.ensures.kept) refl;
    }
