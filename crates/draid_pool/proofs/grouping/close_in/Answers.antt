use Rattle.std.proofs.Common.{◌≡◌, ◌+◌, ◌≤◌, ◌∙◌, ℕ, Option, ap, arith, refl, sym}
use Rattle.std.specs.Prelude.{is_some}
use Rattle.draid_pool.specs.declared.fault.SyncFault.TheVariants as sync
use Rattle.draid_shard.proofs.Changed.{same_arms}
use Rattle.draid_shard.specs.Fits.{AreGroups}
use Rattle.draid_shard.specs.declared.shard.Shard.{Shard}
use Rattle.draid_pool.proofs.Wholes.{open_low}
use Rattle.draid_pool.proofs.Keeping.{stays_still}
use Rattle.draid_pool.proofs.Rises.{records_same, records_still}
use Rattle.draid_pool.proofs.Turns.{close_fault, closed, closing_here, closing_next, idle_by, last_group, not_closed, open_next}
use Rattle.draid_pool.proofs.Refusing.{last_no_shelf, memory_no_last, memory_no_shelf, no_refusal, worn_no_last, worn_no_shelf}
use Rattle.draid_pool.proofs.grouping.close_in.Goals as goal

opens_next : {R A : Type 0} (old new : Shard R A) (group : ℕ) → AreGroups old.open_group old.closing old.committed old.sealed → group ≡ old.committed + 1 → new.open_group ≡ group + 1 → old.open_group ≤ new.open_group
opens_next old new group are next is = (let low = open_low old.open_group old.closing old.committed old.sealed are in omega (arith, low, next, is))

pub returns-in-Ok : goal.returns-in-Ok
returns-in-Ok g c =
    record {
      valid = c.in-Ok.ensures.valid;
      table = record { part = c.in-Ok.ensures.event.part; entries = c.in-Ok.ensures.closes.entries; committed = c.in-Ok.ensures.closes.committed; opens = opens_next c.args.shard.now c.close_group.new.shard c.args.group c.requires.valid.groups c.requires.next c.in-Ok.ensures.closes.open_group_is; slots = c.in-Ok.ensures.slots };
      stays = c.in-Ok.ensures.stays;
      closing = c.in-Ok.ensures.closes.closing;
      later = records_same g.A.Area.faults c.args.shard.now c.close_group.new.shard c.in-Ok.ensures.kit.areas;
      not_shelf = λ failed. no_refusal failed;
      last = λ is. absurd (no_refusal is);
      closes = λ part pieces x is. (let e = c.in-Ok.ensures in
          closed g.R.Rack g.A.Area part pieces c.args.shard.now c.close_group.new.shard c.args.group x is e.valid e.event e.kit e.reserve e.not_worn.0);
    }

pub returns-in-Err-Worn : goal.returns-in-Err-Worn
returns-in-Err-Worn g c =
    record {
      valid = c.in-Err-Worn.ensures.valid;
      table = record { part = c.in-Err-Worn.ensures.none.none.part; entries = c.in-Err-Worn.ensures.none.keeps.entries; committed = c.in-Err-Worn.ensures.none.keeps.groups.committed; opens = (let same = c.in-Err-Worn.ensures.none.keeps.groups.open_group_is in omega (arith, same)); slots = c.in-Err-Worn.ensures.slots };
      stays = c.in-Err-Worn.ensures.stays;
      closing = tt;
      later = records_same g.A.Area.faults c.args.shard.now c.close_group.new.shard c.in-Err-Worn.ensures.kit.areas;
      not_shelf = λ failed. worn_no_shelf failed;
      last = λ is. absurd (worn_no_last is);
      closes = λ part pieces x is. (let e = c.in-Err-Worn.ensures in
          not_closed g.R.Rack g.A.Area part pieces c.args.shard.now c.close_group.new.shard c.args.group x c.in-Err-Worn.field-0 sync.Worn is e.valid e.none.none e.kit e.reserve (idle_by c.args.shard.now.closing (ap (λ (o : Option ℕ). is_some o) (sym c.closing.ensures) ∙ (sym c.is_some.ensures ∙ c.if-is_some.false))) e.refused
          (ap close_fault c.in-Err-Worn.field-0-is));
    }

pub returns-in-Err-Last : goal.returns-in-Err-Last
returns-in-Err-Last g c =
    record {
      valid = c.in-Err-Last.ensures.valid;
      table = record { part = c.in-Err-Last.ensures.none.none.part; entries = c.in-Err-Last.ensures.none.keeps.entries; committed = c.in-Err-Last.ensures.none.keeps.groups.committed; opens = (let same = c.in-Err-Last.ensures.none.keeps.groups.open_group_is in omega (arith, same)); slots = c.in-Err-Last.ensures.slots };
      stays = c.in-Err-Last.ensures.stays;
      closing = tt;
      later = records_same g.A.Area.faults c.args.shard.now c.close_group.new.shard c.in-Err-Last.ensures.kit.areas;
      not_shelf = λ failed. last_no_shelf failed;
      last = λ is. last_group c.args.shard.now c.args.group c.in-Err-Last.field-0 c.in-Err-Last.field-0-is c.in-Err-Last.ensures.refused;
      closes = λ part pieces x is. (let e = c.in-Err-Last.ensures in
          not_closed g.R.Rack g.A.Area part pieces c.args.shard.now c.close_group.new.shard c.args.group x c.in-Err-Last.field-0 sync.Last is e.valid e.none.none e.kit e.reserve (idle_by c.args.shard.now.closing (ap (λ (o : Option ℕ). is_some o) (sym c.closing.ensures) ∙ (sym c.is_some.ensures ∙ c.if-is_some.false))) e.refused
          (ap close_fault c.in-Err-Last.field-0-is));
    }

pub returns-in-Err-NoMemory : goal.returns-in-Err-NoMemory
returns-in-Err-NoMemory g c =
    record {
      valid = c.in-Err-NoMemory.ensures.valid;
      table = record { part = c.in-Err-NoMemory.ensures.none.none.part; entries = c.in-Err-NoMemory.ensures.none.keeps.entries; committed = c.in-Err-NoMemory.ensures.none.keeps.groups.committed; opens = (let same = c.in-Err-NoMemory.ensures.none.keeps.groups.open_group_is in omega (arith, same)); slots = c.in-Err-NoMemory.ensures.slots };
      stays = c.in-Err-NoMemory.ensures.stays;
      closing = tt;
      later = records_same g.A.Area.faults c.args.shard.now c.close_group.new.shard c.in-Err-NoMemory.ensures.kit.areas;
      not_shelf = λ failed. memory_no_shelf failed;
      last = λ is. absurd (memory_no_last is);
      closes = λ part pieces x is. (let e = c.in-Err-NoMemory.ensures in
          not_closed g.R.Rack g.A.Area part pieces c.args.shard.now c.close_group.new.shard c.args.group x c.in-Err-NoMemory.field-0 sync.NoMemory is e.valid e.none.none e.kit e.reserve (idle_by c.args.shard.now.closing (ap (λ (o : Option ℕ). is_some o) (sym c.closing.ensures) ∙ (sym c.is_some.ensures ∙ c.if-is_some.false))) e.refused
          (ap close_fault c.in-Err-NoMemory.field-0-is));
    }

pub returns-then-is_some : goal.returns-then-is_some
returns-then-is_some g c =
    let old = c.args.shard.now in
    record {
      valid = c.requires.valid;
      table = record { part = refl; entries = record { at = λ first. refl; held = λ key. refl; count = refl; owed = λ columns. refl }; committed = refl; opens = omega arith; slots = same_arms c.args.shard.now.slots };
      stays = stays_still g.R.Rack.faults c.args.shard.now;
      closing = closing_next old.open_group old.committed c.args.group old.closing old.sealed c.requires.valid.groups (ap (λ (o : Option ℕ). is_some o) (sym c.closing.ensures) ∙ (sym c.is_some.ensures ∙ c.if-is_some.true)) c.requires.next;
      later = records_still g.A.Area.faults c.args.shard.now;
      not_shelf = λ failed. no_refusal failed;
      last = λ is. absurd (no_refusal is);
      closes = λ part pieces x is. closing_here g.R.Rack g.A.Area part pieces old c.args.group x is
          (closing_next old.open_group old.committed c.args.group old.closing old.sealed c.requires.valid.groups (ap (λ (o : Option ℕ). is_some o) (sym c.closing.ensures) ∙ (sym c.is_some.ensures ∙ c.if-is_some.true)) c.requires.next);
    }

pub close_group-requires : goal.close_group-requires
close_group-requires g c =
    let old = c.args.shard.now in
    let idle = idle_by old.closing (ap (λ (o : Option ℕ). is_some o) (sym c.closing.ensures) ∙ (sym c.is_some.ensures ∙ c.if-is_some.false)) in
    record { valid = c.requires.valid; group = open_next old.open_group old.committed c.args.group old.closing old.sealed c.requires.valid.groups idle c.requires.next; idle = idle }
