use Rattle.std.proofs.Common.{◌<◌, ◌∙◌, ap, arith, refl, subst, sym}
use Rattle.draid_machine.specs.State as machine
use Rattle.draid_names.specs.Faults.{Rose}
use Rattle.draid_pool.specs.Groups.{OpenUpto, SealIsRefused, StaysIfWaiting, area_in}
use Rattle.draid_shard.specs.States.{IsIn}
use Rattle.draid_pool.specs.declared.fault.SyncFault.TheVariants as sync
use Rattle.draid_shard.proofs.Changed.{same_arms}
use Rattle.draid_pool.proofs.Keeping.{stays_still}
use Rattle.draid_pool.proofs.Rises.{records_rose, records_still}
use Rattle.draid_pool.proofs.Turns.{not_sealed, seal_fault, sealed, stays_sealed}
use Rattle.draid_pool.proofs.Refusing.{memory_no_last, memory_no_shelf, no_refusal, shelf_no_last}
use Rattle.draid_pool.proofs.grouping.seal_in.Goals as goal

pub returns-in-Err-NotYet : goal.returns-in-Err-NotYet
returns-in-Err-NotYet g c =
    let t = c.in-Err-NotYet.field-0-0 in
    let e = c.in-Err-NotYet.ensures in
    let why : (0 < t) × ((w : machine.State) → IsIn c.args.shard.now w → OpenUpto w c.args.group t)
    = subst (SealIsRefused g.A.Area.faults c.args.shard.now c.seal.new.shard c.args.group) c.in-Err-NotYet.field-0-is e.refused.why in
    record {
      same = subst (StaysIfWaiting c.args.shard.now c.seal.new.shard) c.in-Err-NotYet.field-0-is e.waits;
      tickets = t;
      some = why.0;
      open_ = why.1;
    }

pub returns-in-Ok : goal.returns-in-Ok
returns-in-Ok g c =
    record {
      valid = c.in-Ok.ensures.valid;
      table = record { part = c.in-Ok.ensures.sealed.does.part; entries = c.in-Ok.ensures.seals.entries; committed = c.in-Ok.ensures.seals.committed; opens = (let same = c.in-Ok.ensures.seals.open_group_is in omega (arith, same)); slots = c.in-Ok.ensures.slots };
      stays = c.in-Ok.ensures.stays;
      sealed = (c.in-Ok.ensures.seals.closing ∙ c.requires.closing, c.in-Ok.ensures.seals.sealed);
      low = c.in-Ok.ensures.sealed.low;
      later = c.in-Ok.ensures.later;
      cause = λ failed. absurd (no_refusal failed);
      not_last = λ is. no_refusal is;
      seals = λ part pieces x is. (let e = c.in-Ok.ensures in
          sealed g.R.Rack g.A.Area part pieces c.args.shard.now c.seal.new.shard c.args.group c.in-Ok.sealed.thin x is e.valid e.sealed e.other e.reserve e.later);
    }

pub returns-in-Err-Area : goal.returns-in-Err-Area
returns-in-Err-Area g c =
    record {
      valid = c.in-Err-Area.ensures.valid;
      table = record { part = c.in-Err-Area.ensures.refused.none.part; entries = c.in-Err-Area.ensures.keeps.entries; committed = c.in-Err-Area.ensures.keeps.groups.committed; opens = (let same = c.in-Err-Area.ensures.keeps.groups.open_group_is in omega (arith, same)); slots = c.in-Err-Area.ensures.slots };
      stays = c.in-Err-Area.ensures.stays;
      sealed = tt;
      low = tt;
      later = c.in-Err-Area.ensures.later;
      not_last = λ is. shelf_no_last is;
      cause = λ is. (let old = c.args.shard.now in
          let new = c.seal.new.shard in
          let why : ((w : machine.State) → IsIn old w → OpenUpto w c.args.group 0) × Rose (g.A.Area.faults (area_in old c.args.group)) (g.A.Area.faults (area_in new c.args.group)) = subst (SealIsRefused g.A.Area.faults old new c.args.group) c.in-Err-Area.field-0-is c.in-Err-Area.ensures.refused.why in
          records_rose g.A.Area.faults old new c.args.group why.1);
      seals = λ part pieces x is. (let e = c.in-Err-Area.ensures in
          not_sealed g.R.Rack g.A.Area part pieces c.args.shard.now c.seal.new.shard c.args.group x c.in-Err-Area.field-0 sync.Shelf is e.valid e.other e.reserve e.later c.requires.closing (sym c.sealed.ensures ∙ c.if-sealed.false) e.refused
          (ap seal_fault c.in-Err-Area.field-0-is));
    }

pub returns-in-Err-NoMemory : goal.returns-in-Err-NoMemory
returns-in-Err-NoMemory g c =
    record {
      valid = c.in-Err-NoMemory.ensures.valid;
      table = record { part = c.in-Err-NoMemory.ensures.refused.none.part; entries = c.in-Err-NoMemory.ensures.keeps.entries; committed = c.in-Err-NoMemory.ensures.keeps.groups.committed; opens = (let same = c.in-Err-NoMemory.ensures.keeps.groups.open_group_is in omega (arith, same)); slots = c.in-Err-NoMemory.ensures.slots };
      stays = c.in-Err-NoMemory.ensures.stays;
      sealed = tt;
      low = tt;
      later = c.in-Err-NoMemory.ensures.later;
      cause = λ failed. absurd (memory_no_shelf failed);
      not_last = λ is. memory_no_last is;
      seals = λ part pieces x is. (let e = c.in-Err-NoMemory.ensures in
          not_sealed g.R.Rack g.A.Area part pieces c.args.shard.now c.seal.new.shard c.args.group x c.in-Err-NoMemory.field-0 sync.NoMemory is e.valid e.other e.reserve e.later c.requires.closing (sym c.sealed.ensures ∙ c.if-sealed.false) e.refused
          (ap seal_fault c.in-Err-NoMemory.field-0-is));
    }

pub seal-requires : goal.seal-requires
seal-requires g c = record { valid = c.requires.valid; closing = (c.requires.closing, sym c.sealed.ensures ∙ c.if-sealed.false) }

pub returns-then-sealed : goal.returns-then-sealed
returns-then-sealed g c =
    record {
      valid = c.requires.valid;
      table = record { part = refl; entries = record { at = λ first. refl; held = λ key. refl; count = refl; owed = λ columns. refl }; committed = refl; opens = omega arith; slots = same_arms c.args.shard.now.slots };
      stays = stays_still g.R.Rack.faults c.args.shard.now;
      sealed = (c.requires.closing, sym c.sealed.ensures ∙ c.if-sealed.true);
      low = omega arith;
      later = records_still g.A.Area.faults c.args.shard.now;
      cause = λ failed. absurd (no_refusal failed);
      not_last = λ is. no_refusal is;
      seals = λ part pieces x is. stays_sealed g.R.Rack g.A.Area part pieces c.args.shard.now c.args.group x is c.requires.closing (sym c.sealed.ensures ∙ c.if-sealed.true);
    }
