use Rattle.std.proofs.Common.{◌≡◌, arith, refl, rules, subst}
use Rattle.draid_shard.proofs.Changed.{same_arms, same_entries}
use Rattle.draid_pool.specs.Groups.{OpenUpto}
use Rattle.draid_pool.proofs.Counting.{begin_low, none_open, open_upto}
use Rattle.draid_pool.proofs.Keeping.{stays_still}
use Rattle.draid_pool.proofs.Unsealed.{waits_never}
use Rattle.draid_pool.proofs.sealing.seal.Goals as goal

pub tickets_upto-tickets-requires : goal.tickets_upto-tickets-requires
tickets_upto-tickets-requires g c = record { below = begin_low g.R.Rack c.args.shard.now c.requires.valid }

pub seal_by-requires : goal.seal_by-requires
seal_by-requires g c =
    record {
      valid = c.requires.valid;
      closing = c.requires.closing;
      settled = λ w at.
          let none = c.if-tickets-gt0.false in
          let zero : c.tickets_upto-tickets.result ≡ 0 = omega (arith, none) in
          subst (OpenUpto w c.args.group) zero (open_upto c.args.shard.now c.args.group c.tickets_upto-tickets.result c.tickets_upto-tickets.ensures w at);
      tickets = (let none = c.if-tickets-gt0.false in
          none_open c.args.shard.now c.args.group c.tickets_upto-tickets.result c.tickets_upto-tickets.ensures (omega (arith, none)));
      plan = c.in-Ok.ensures;
    }

pub returns-then-tickets-gt0 : goal.returns-then-tickets-gt0
returns-then-tickets-gt0 g c =
    record {
      valid = c.requires.valid;
      other = refl;
      sealed = tt;
      seals = tt;
      refused = record {
        none = search rules;
        leaves = search rules;
        counts = search rules;
        why = (c.if-tickets-gt0.true, open_upto c.args.shard.now c.args.group c.tickets_upto-tickets.result c.tickets_upto-tickets.ensures);
      };
      keeps = record { entries = same_entries c.args.shard.now.entries; groups = record { open_group_is = refl; closing = refl; sealed = refl; committed = refl } };
      slots = same_arms c.args.shard.now.slots;
      later = record { even = omega arith; odd = omega arith };
      reserve = record { reserved = refl; limit = refl };
      stays = stays_still g.R.Rack.faults c.args.shard.now;
      waits = refl;
    }

pub returns-in-Err : goal.returns-in-Err
returns-in-Err g c =
    record {
      valid = c.requires.valid;
      other = refl;
      sealed = tt;
      seals = tt;
      refused = search rules;
      keeps = record { entries = same_entries c.args.shard.now.entries; groups = record { open_group_is = refl; closing = refl; sealed = refl; committed = refl } };
      slots = same_arms c.args.shard.now.slots;
      later = record { even = omega arith; odd = omega arith };
      reserve = record { reserved = refl; limit = refl };
      stays = stays_still g.R.Rack.faults c.args.shard.now;
      waits = tt;
    }

pub returns-in-Ok : goal.returns-in-Ok
returns-in-Ok g c =
    record {
      valid = c.seal_by.ensures.valid;
      other = c.seal_by.ensures.other;
      sealed = c.seal_by.ensures.sealed;
      seals = c.seal_by.ensures.seals;
      refused = c.seal_by.ensures.refused;
      keeps = c.seal_by.ensures.keeps;
      slots = c.seal_by.ensures.slots;
      later = c.seal_by.ensures.later;
      reserve = c.seal_by.ensures.reserve;
      stays = c.seal_by.ensures.stays;
      waits = waits_never c.args.shard.now c.seal_by.new.shard c.seal_by.result c.seal_by.ensures.waits;
    }
