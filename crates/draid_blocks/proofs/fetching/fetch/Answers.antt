use Rattle.draid_blocks.proofs.Refusing.{fetched_is_other, memory_is_other, worn_is_other}
use Rattle.std.proofs.Common.{◌∙◌, refl, sym}
use Rattle.std.proofs.lemmas.Bool.{true≢false}
use Rattle.draid_shard.proofs.Changed.{same_arms, same_entries}
use Rattle.draid_blocks.proofs.Turns.{asked_fetches, asked_nothing, asked_valid}
use Rattle.draid_blocks.proofs.fetching.fetch.Goals as goal

pub fetch_into-requires : goal.fetch_into-requires
fetch_into-requires g c =
    let room = c.in-Ok-room_for.ensures in
    record {
      valid = asked_valid c.args.shard.now c.ask.new.self c.ask.ensures.same g.R.Rack c.requires.valid;
      live = c.is_live.ensures.0 c.if-not-is_live.false;
      asked = c.in-Ok.ensures.asked;
      columns = room.columns;
      long = room.long;
      failed = room.failed;
      room = room.room;
    }

pub returns-then-not-is_live : goal.returns-then-not-is_live
returns-then-not-is_live g c = record {
  valid = c.requires.valid;
  areas = record { even = refl; odd = refl };
  told = refl;
  not_live = (λ e live. true≢false (sym (c.is_live.ensures.1 live) ∙ c.if-not-is_live.true), λ dead. refl);
  worn = tt;
  not_worn = tt;
  fetched = tt;
  fetches = tt;
  none = record {
    none = record { part = refl; stored = refl; stays = λ w is_in. is_in };
    keeps = record { entries = same_entries c.args.shard.now.entries; groups = record { open_group_is = refl; closing = refl; sealed = refl; committed = refl } };
    slots = same_arms c.args.shard.now.slots;
  };
  kit = record { rack = refl; areas = record { even = refl; odd = refl } };
  reserve = record { reserved = refl; limit = refl };
  pass = refl;
}

pub returns-in-Err-Worn-clause-valid : goal.returns-in-Err-Worn-clause-valid
returns-in-Err-Worn-clause-valid g c = asked_valid c.args.shard.now c.ask.new.self c.ask.ensures.same g.R.Rack c.requires.valid

pub returns-in-Err-Worn-clause-areas : goal.returns-in-Err-Worn-clause-areas
returns-in-Err-Worn-clause-areas g c = record { even = refl; odd = refl }

pub returns-in-Err-Worn-clause-not_live : goal.returns-in-Err-Worn-clause-not_live
returns-in-Err-Worn-clause-not_live g c = (λ e. absurd (worn_is_other _ e), λ dead. absurd (dead (c.is_live.ensures.0 c.if-not-is_live.false)))

pub returns-in-Err-Worn-clause-none : goal.returns-in-Err-Worn-clause-none
returns-in-Err-Worn-clause-none g c = asked_nothing c.args.shard.now c.ask.new.self c.ask.ensures.same

pub returns-in-Err-Worn-clause-kit : goal.returns-in-Err-Worn-clause-kit
returns-in-Err-Worn-clause-kit g c = record { rack = refl; areas = record { even = refl; odd = refl } }

pub returns-in-Err-Worn-clause-reserve : goal.returns-in-Err-Worn-clause-reserve
returns-in-Err-Worn-clause-reserve g c = record { reserved = c.ask.ensures.same.reserved; limit = c.ask.ensures.same.limit }

pub returns-in-Err-NoMemory : goal.returns-in-Err-NoMemory
returns-in-Err-NoMemory g c = record {
  valid = asked_valid c.args.shard.now c.ask.new.self c.ask.ensures.same g.R.Rack c.requires.valid;
  areas = record { even = refl; odd = refl };
  told = refl;
  not_live = (λ e. absurd (memory_is_other e), λ dead. absurd (dead (c.is_live.ensures.0 c.if-not-is_live.false)));
  worn = tt;
  not_worn = tt;
  fetched = tt;
  fetches = tt;
  none = asked_nothing c.args.shard.now c.ask.new.self c.ask.ensures.same;
  kit = record { rack = refl; areas = record { even = refl; odd = refl } };
  reserve = record { reserved = c.ask.ensures.same.reserved; limit = c.ask.ensures.same.limit };
  pass = refl;
}

pub returns-in_default : goal.returns-in_default
returns-in_default g c = record {
  valid = asked_valid c.args.shard.now c.ask.new.self c.ask.ensures.same g.R.Rack c.requires.valid;
  areas = record { even = refl; odd = refl };
  told = refl;
  not_live = (λ e. absurd (memory_is_other e), λ dead. absurd (dead (c.is_live.ensures.0 c.if-not-is_live.false)));
  worn = tt;
  not_worn = tt;
  fetched = tt;
  fetches = tt;
  none = asked_nothing c.args.shard.now c.ask.new.self c.ask.ensures.same;
  kit = record { rack = refl; areas = record { even = refl; odd = refl } };
  reserve = record { reserved = c.ask.ensures.same.reserved; limit = c.ask.ensures.same.limit };
  pass = refl;
}

pub returns : goal.returns
returns g c =
    let it = c.fetch_into.ensures in
    let same = c.ask.ensures.same in
    record {
      valid = it.valid;
      areas = record { even = it.areas.even; odd = it.areas.odd };
      told = it.told;
      not_live = (λ e. absurd (fetched_is_other _ e), λ dead. absurd (dead (c.is_live.ensures.0 c.if-not-is_live.false)));
      worn = tt;
      not_worn = c.in-Ok.ensures.answer;
      fetched = (it.fetches.pointer_is, it.fetches.fetched_is);
      fetches = asked_fetches c.args.shard.now c.ask.new.self same g.R.Rack c.fetch_into.new.shard c.args.pointer.now c.fetch_into.result it.fetches;
      none = tt;
      kit = tt;
      reserve = record { reserved = it.reserve.reserved ∙ same.reserved; limit = it.reserve.limit ∙ same.limit };
      pass = it.pass;
    }

pub returns-in-Err-Worn-clause-told : goal.returns-in-Err-Worn-clause-told
returns-in-Err-Worn-clause-told g c = refl

pub returns-in-Err-Worn-clause-worn : goal.returns-in-Err-Worn-clause-worn
returns-in-Err-Worn-clause-worn g c = rw c.in-Err-Worn.field-0-is at c.in-Err-Worn.ensures.answer
