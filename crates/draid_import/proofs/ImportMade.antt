-- An import over the devices of a new pool, whose uberblock's area is zeros.
use Rattle.std.proofs.Common.{arith, ◌≡◌, ◌≤◌, ◌∙◌, inl, inr, ℕ, Option, Some, None, Result, Ok, Err, option_map, refl, sym, ap, subst, length, replicate}
use Rattle.std.specs.Prelude.{IsErrAnd, IsErrOf, IsSomeAnd}
use Rattle.draid_area.specs.Area.{Content, OnTold, flushes}
use Rattle.draid_names.specs.declared.fault.DeviceFault.{DeviceFault}
use Rattle.draid_names.specs.declared.fault.DeviceFault.TheVariants as device
use Rattle.draid_record.specs.declared.uber.UberBody.{UberBody}
use Rattle.draid_shelf.specs.Kits.{AreNewChecks, ChecksTold, Held, IsNewArea, KitCounts, OnHeld, puts_checks, puts_uber, uber_bytes}
use Rattle.draid_spec.specs.declared.layout.Geometry.{Geometry}
use Rattle.draid_uber.specs.Slots.{area_bytes, chosen_of, read_body}
use Rattle.draid_uber.specs.Steps.{IsSameOrFlushed}
use Rattle.draid_uber.specs.Uber.{FindsFault}
use Rattle.draid_uber.specs.declared.uber.UberFault.{UberFault}
use Rattle.draid_uber.specs.declared.uber.UberFault.TheVariants as faults
use Rattle.draid_uber.proofs.Choices.{kept_alone}
use Rattle.draid_pool.specs.Returning.{OwnCounts}
use Rattle.draid_import.specs.Found.{shelf_fault_of, uber_fault_of}
use Rattle.draid_import.specs.Importing.{FindsNoPool, LeavesMade}
use Rattle.draid_pool.specs.Taking.{HoldsMade, TellsAreas, gives_areas, takes_areas}
use Rattle.draid_import.specs.declared.fault.ImportFault.{ImportFault}
use Rattle.draid_import.specs.declared.fault.ImportFault.TheVariants as fault
use Rattle.draid_pool.proofs.Refusing.{passed_back}
use Rattle.draid_import.proofs.ImportPool.{told_checks}

-- zeros have no open gate
zeros_none : chosen_of (replicate uber_bytes 0) ≡ None
zeros_none = kept_alone None (replicate area_bytes 0) (omega (arith)) refl refl

none_chosen : (c : Content) → IsNewArea (replicate uber_bytes 0) c → chosen_of c.bytes ≡ None
none_chosen c new = ap chosen_of new.bytes_are ∙ zeros_none

-- the area that is held is one of zeros
made_area : (o : Option Content) → IsSomeAnd o (IsNewArea (replicate uber_bytes 0)) → (c : Content) × (o ≡ Some c) × IsNewArea (replicate uber_bytes 0) c
made_area None new = absurd new
made_area (Some c) new = (c, refl, new)

made_checks : (o : Option ChecksTold) → IsSomeAnd o AreNewChecks → (k : ChecksTold) × (o ≡ Some k) × AreNewChecks k
made_checks None new = absurd new
made_checks (Some k) new = (k, refl, new)

flushed_area : (c : Content) → IsNewArea (replicate uber_bytes 0) c → IsNewArea (replicate uber_bytes 0) (flushes c)
flushed_area c new = record { bytes_are = new.bytes_are; firm = ap length new.bytes_are; soft = λ i. refl }

no_body : (kept : Option UberBody) (P : UberBody → Type 0) → IsSomeAnd kept P → None ≡ option_map read_body kept → ⊥
no_body None P some is = some
no_body (Some body) P some is = cc is

-- no uberblock is found in it
pub made_not : (geometry : Geometry) (o : Option Held) (was : Option Content) (kept : Option UberBody) (Q : UberBody → Type 0) → OnHeld o (λ held. was ≡ held.uber)
    → OnTold was (λ c. chosen_of c.bytes ≡ option_map read_body kept) → IsSomeAnd kept Q → IsSomeAnd o (HoldsMade geometry) → ⊥
made_not geometry None was kept Q own finds some made = absurd made
made_not geometry (Some held) was kept Q own finds some made =
    let c = made_area held.uber made.uber in
    let found : chosen_of c.0.bytes ≡ option_map read_body kept = subst (λ o. OnTold o (λ (y : Content). chosen_of y.bytes ≡ option_map read_body kept)) (own ∙ c.1) finds in
    no_body kept Q some (sym (none_chosen c.0 c.2) ∙ found)

module _ {P : Type 0} (geometry : Geometry) where
  -- the shelf as it was
  pub made_same : (o new : Option Held) (before after : ℕ → KitCounts) (own now : OwnCounts) (result : Result P ImportFault) → FindsNoPool result → new ≡ o → ((m : ℕ) → after m ≡ before m) → now.uber ≡ own.uber → now.checks ≡ own.checks
      → IsSomeAnd o (HoldsMade geometry) → LeavesMade geometry result new before after own now
  made_same o new before after own now result none told counts uber checks made = record {
    none = none;
    held = subst (λ h. IsSomeAnd h (HoldsMade geometry)) (sym told) made;
    counts = counts;
    uber = omega (arith, uber);
    checks = checks;
  }

  -- the area wasn't taken
  pub made_untaken : (o new : Option Held) (before after : ℕ → KitCounts) (own now : OwnCounts) (why : DeviceFault) (result : Result P ImportFault) → result ≡ Err (shelf_fault_of why) → new ≡ o → ((m : ℕ) → after m ≡ before m) → now.uber ≡ own.uber
      → now.checks ≡ own.checks → IsSomeAnd o (HoldsMade geometry) → LeavesMade geometry result new before after own now
  made_untaken o new before after own now why result is told counts uber checks made =
      made_same o new before after own now result (subst FindsNoPool (sym is) (by why)) told counts uber checks made
    where
      by : (w : DeviceFault) → FindsNoPool {P = P} (Err (shelf_fault_of w))
      by device.Failed = tt
      by device.NoMemory = tt

  -- the area was recovered, and given back
  pub made_left : (o mid new : Option Held) (before after : ℕ → KitCounts) (own now : OwnCounts) (was is even odd : Option Content) (why : UberFault) (result : Result P ImportFault) → result ≡ Err (uber_fault_of why)
      → OnHeld o (TellsAreas (record { uber = was; even = even; odd = odd })) → OnTold was (λ c. FindsFault why (chosen_of c.bytes)) → IsSameOrFlushed was is → mid ≡ takes_areas o
      → new ≡ gives_areas (record { uber = is; even = even; odd = odd }) mid
      → ((m : ℕ) → after m ≡ before m) → own.uber ≤ now.uber → now.checks ≡ own.checks → IsSomeAnd o (HoldsMade geometry) → LeavesMade geometry result new before after own now
  made_left None mid new before after own now was is even odd why result refused area finds flushed taken told counts uber checks made = absurd made
  made_left (Some held) mid new before after own now was is even odd why result refused area finds flushed taken told counts uber checks made = record {
    none = subst FindsNoPool (sym refused) (by why chosen);
    held = elim flushed [
      | inl same ↦ left c.0 c.2 (same ∙ content)
      | inr out ↦ left (flushes c.0) (flushed_area c.0 c.2) (out ∙ ap (λ o. option_map flushes o) content)
    ];
    counts = counts;
    uber = uber;
    checks = checks;
  }
    where
      c : (c : Content) × (held.uber ≡ Some c) × IsNewArea (replicate uber_bytes 0) c
      c = made_area held.uber made.uber

      content : was ≡ Some c.0
      content = area.uber ∙ c.1

      k : (k : ChecksTold) × (held.checks ≡ Some k) × AreNewChecks k
      k = made_checks held.checks made.checks

      both : (even ≡ Some k.0.even) × (odd ≡ Some k.0.odd)
      both = told_checks even odd k.0 (area.checks ∙ k.1)

      chosen : FindsFault why None
      chosen = subst (FindsFault why) (none_chosen c.0 c.2) (subst (λ o. OnTold o (λ (y : Content). FindsFault why (chosen_of y.bytes))) content finds)

      by : (w : UberFault) → FindsFault w None → FindsNoPool {P = P} (Err (uber_fault_of w))
      by faults.Area found = tt
      by faults.NoMemory found = tt
      by faults.Empty found = tt
      by (faults.Record place kind) found = absurd (cc found)

      left : (u : Content) → IsNewArea (replicate uber_bytes 0) u → is ≡ Some u → IsSomeAnd new (HoldsMade geometry)
      left u zeros at =
          let put : new ≡ Some (puts_checks (Some k.0) (puts_uber (Some u) held)) = told ∙ (λ i. gives_areas (record { uber = at i; even = both.0 i; odd = both.1 i }) (taken i)) in
          subst (λ o. IsSomeAnd o (HoldsMade geometry)) (sym put) (record { uber = zeros; checks = k.2; kits = made.kits })

-- ---- a refusal that is passed on

finds_as : (P Q : Type 0) (f : ImportFault) → FindsNoPool {P = P} (Err f) → FindsNoPool {P = Q} (Err f)
finds_as P Q fault.NoPool h = h
finds_as P Q (fault.Record metaslab place kind) h = h
finds_as P Q (fault.Check place kind) h = h
finds_as P Q fault.Shelf h = h
finds_as P Q fault.NoMemory h = h

pub made_passed : (P Q : Type 0) (geometry : Geometry) (r : Result Q ImportFault) (f : ImportFault) (told : Option Held) (before after : ℕ → KitCounts) (own now : OwnCounts) → IsErrAnd r (λ y. y ≡ f)
    → LeavesMade {P = P} geometry (Err f) told before after own now → LeavesMade geometry r told before after own now
made_passed P Q geometry (Ok x) f told before after own now h m = absurd h
made_passed P Q geometry (Err y) f told before after own now h m = record {
  none = finds_as P Q y (subst (λ (z : ImportFault). FindsNoPool {P = P} (Err z)) (sym h) m.none);
  held = m.held;
  counts = m.counts;
  uber = m.uber;
  checks = m.checks;
}

pub none_passed : (P Q : Type 0) (o : Option Held) (r : Result Q ImportFault) (f : ImportFault) (B : Type 0) → IsErrAnd r (λ y. y ≡ f)
    → OnHeld o (λ held. held.uber ≡ None → IsErrOf {T = P} (Err f) fault.NoPool × B) → OnHeld o (λ held. held.uber ≡ None → IsErrOf r fault.NoPool × B)
none_passed P Q None r f B h n = tt
none_passed P Q (Some x) r f B h n = λ none. (let both = n none in (passed_back r f fault.NoPool h both.0, both.1))
