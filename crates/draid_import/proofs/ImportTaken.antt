-- An import whose uberblock wasn't taken or found.
use Rattle.std.proofs.Common.{arith, ◌≡◌, ◌≤◌, ◌∙◌, ◌↔◌, inl, inr, ℕ, Bool, true, false, Option, Some, None, Ok, Err, refl, sym, ap, subst}
use Rattle.std.specs.Prelude.{IsSome, IsTrue, option_map}
use Rattle.draid_area.specs.Area.{Content, IsOfSize, OnTold, flushes}
use Rattle.draid_area.specs.declared.Area as areas
use Rattle.draid_names.specs.declared.fault.DeviceFault.{DeviceFault}
use Rattle.draid_names.specs.declared.fault.DeviceFault.TheVariants as device
use Rattle.draid_rack.specs.Rack.{Shape}
use Rattle.draid_rack.specs.declared.Rack as racks
use Rattle.draid_record.specs.declared.fault.RecordFault.TheVariants.{Bad}
use Rattle.draid_segments.specs.Segments.{Pieces}
use Rattle.draid_shelf.specs.Kits.{ChecksTold, Held, KitCounts, NeedsUber, OnHeld, puts_checks, puts_uber}
use Rattle.draid_pool.specs.Returning.{areas_told}
use Rattle.draid_pool.specs.Taking.{TellsAreas, gives_areas, takes_areas}
use Rattle.draid_uber.specs.Slots.{chosen_of}
use Rattle.draid_uber.specs.Steps.{IsSameOrFlushed}
use Rattle.draid_uber.specs.Uber.{FindsFault}
use Rattle.draid_uber.specs.declared.uber.UberFault.{UberFault}
use Rattle.draid_uber.specs.declared.uber.UberFault.TheVariants as faults
use Rattle.draid_session.specs.State.{State}
use Rattle.draid_import.specs.Found.{shelf_fault_of, uber_fault_of}
use Rattle.draid_import.specs.Importing.{FindsNone, ImportIs, LeavesPool, RestsThere}
use Rattle.draid_pool.specs.Ubers.{UberStands}
use Rattle.draid_import.proofs.ImportPool.{HeldAreas, held_areas, told_checks}
use Rattle.draid_import.proofs.ImportRefused.{none_found, still_leaves}
use Rattle.draid_import.proofs.ImportUber.{flushed_none, flushed_stands, found_bad, found_none}
use Rattle.draid_pool.proofs.Lists.{ext}

both_ways : (b : Bool) → b ≡ true → b ≡ false → ⊥
both_ways b on off = (let h : true ≡ false = sym on ∙ off in absurd (cc))

-- an area that was taken was held
pub taken_not : {T : Type 0} (area : T) (o : Option Held) (Q : Type 0) → NeedsUber (Ok area) o → OnHeld o (λ held. held.uber ≡ None → Q)
taken_not area None Q h = tt
taken_not area (Some x) Q h = λ none. (let failed = h none in absurd (cc))

module _ {R A : Type 0} (rack : racks.Ghosts R) (area : areas.Ghosts A) (x : State) (pieces : ℕ → Pieces) where
  -- no pool is held
  pub no_pool : (o new : Option Held) (leaves now : ℕ → Option Shape) (counts counts' : ℕ → KitCounts) (count n : ℕ) (has : Bool) → OnHeld o (λ held. IsTrue has ↔ IsSome held.uber) → has ≡ false
      → RestsThere x pieces o leaves counts count → FindsNone x pieces new now counts' n
  no_pool None new leaves now counts counts' count n has is off there = absurd there.held
  no_pool (Some held) new leaves now counts counts' count n has is off there =
      let c = held_areas x held there.held.uber in
      absurd (both_ways has (is.1 (subst IsSome (sym c.uber_is) refl)) off)

  -- the pool as it was, with the area of its uberblock as it was or flushed
  left_pool : (held : Held) (new : Option Held) (leaves now : ℕ → Option Shape) (counts counts' : ℕ → KitCounts) (count n : ℕ) (u : Content) (k : ChecksTold) → RestsThere x pieces (Some held) leaves counts count
      → new ≡ Some (puts_checks (Some k) (puts_uber (Some u) held)) → ((m : ℕ) → now m ≡ leaves m) → ((m : ℕ) → counts' m ≡ counts m) → count ≤ n → UberStands x (areas_told u k) → LeavesPool x pieces new now counts' n
  left_pool held new leaves now counts counts' count n u k there told same counted later stands =
      subst (λ o. LeavesPool x pieces o now counts' n) (sym told) (subst (λ z. LeavesPool x pieces (Some (puts_checks (Some k) (puts_uber (Some u) held))) now z n) (sym (ext counts' counts counted))
      (still_leaves x pieces held leaves now counts count n u k there same later stands))

  none_left : (held : Held) (new : Option Held) (leaves now : ℕ → Option Shape) (counts counts' : ℕ → KitCounts) (count n : ℕ) (u : Content) (k : ChecksTold) → RestsThere x pieces (Some held) leaves counts count
      → new ≡ Some (puts_checks (Some k) (puts_uber (Some u) held)) → ((m : ℕ) → now m ≡ leaves m) → ((m : ℕ) → counts' m ≡ counts m) → count ≤ n → x.committed ≡ 0 → UberStands (record x { pending = false }) (areas_told u k)
      → FindsNone x pieces new now counts' n
  none_left held new leaves now counts counts' count n u k there told same counted later none stands =
      subst (λ o. FindsNone x pieces o now counts' n) (sym told) (subst (λ z. FindsNone x pieces (Some (puts_checks (Some k) (puts_uber (Some u) held))) now z n) (sym (ext counts' counts counted))
      (none_found x pieces held leaves now counts count n u k there same later none stands))

  -- the area of the uberblock wasn't taken
  pub not_taken : (o new : Option Held) (leaves now : ℕ → Option Shape) (counts counts' : ℕ → KitCounts) (count n : ℕ) (why : DeviceFault) → new ≡ o → ((m : ℕ) → now m ≡ leaves m)
      → ((m : ℕ) → counts' m ≡ counts m) → n ≡ count → RestsThere x pieces o leaves counts count → ImportIs rack area x pieces new now counts' n (Err (shelf_fault_of why))
  not_taken None new leaves now counts counts' count n why told same counted later there = absurd there.held
  not_taken (Some held) new leaves now counts counts' count n why told same counted later there = by why
    where
      c : HeldAreas x held
      c = held_areas x held there.held.uber

      own : Some held ≡ Some (puts_checks (Some c.checks) (puts_uber (Some c.uber) held))
      own = λ i. Some (record { uber = c.uber_is i; checks = c.checks_are i; kits = held.kits })

      left : LeavesPool x pieces new now counts' n
      left = left_pool held new leaves now counts counts' count n c.uber c.checks there (told ∙ own) same counted (omega (arith, later)) c.stands

      by : (why : DeviceFault) → ImportIs rack area x pieces new now counts' n (Err (shelf_fault_of why))
      by device.Failed = left
      by device.NoMemory = left

  -- the uberblock wasn't found there
  pub not_found : (o mid new : Option Held) (leaves now : ℕ → Option Shape) (counts counts' : ℕ → KitCounts) (count n size : ℕ) (was is even odd : Option Content) (why : UberFault) → OnHeld o (TellsAreas (record { uber = was; even = even; odd = odd }))
      → OnTold was (IsOfSize size) → OnTold was (λ c. FindsFault why (chosen_of c.bytes)) → IsSameOrFlushed was is → (why ≡ faults.Empty → is ≡ option_map flushes was)
      → mid ≡ takes_areas o → new ≡ gives_areas (record { uber = is; even = even; odd = odd }) mid → ((m : ℕ) → now m ≡ leaves m) → ((m : ℕ) → counts' m ≡ counts m) → count ≤ n
      → RestsThere x pieces o leaves counts count → ImportIs rack area x pieces new now counts' n (Err (uber_fault_of why))
  not_found None mid new leaves now counts counts' count n size was is even odd why own counted finds flushed empty taken told same again later there = absurd there.held
  not_found (Some held) mid new leaves now counts counts' count n size was is even odd why own counted finds flushed empty taken told same again later there = by why refl
    where
      c : HeldAreas x held
      c = held_areas x held there.held.uber

      content : was ≡ Some c.uber
      content = own.uber ∙ c.uber_is

      both : (even ≡ Some c.checks.even) × (odd ≡ Some c.checks.odd)
      both = told_checks even odd c.checks (own.checks ∙ c.checks_are)

      of_size : IsOfSize size c.uber
      of_size = subst (λ o. OnTold o (IsOfSize size)) content counted

      chosen : FindsFault why (chosen_of c.uber.bytes)
      chosen = subst (λ o. OnTold o (λ (y : Content). FindsFault why (chosen_of y.bytes))) content finds

      put : (u : Content) → is ≡ Some u → new ≡ Some (puts_checks (Some c.checks) (puts_uber (Some u) held))
      put u at = told ∙ (λ i. gives_areas (record { uber = at i; even = both.0 i; odd = both.1 i }) (taken i))

      left : LeavesPool x pieces new now counts' n
      left = elim flushed [
        | inl same_area ↦ left_pool held new leaves now counts counts' count n c.uber c.checks there (put c.uber (same_area ∙ content)) same again later c.stands
        | inr out ↦ left_pool held new leaves now counts counts' count n (flushes c.uber) c.checks there (put (flushes c.uber) (out ∙ ap (λ o. option_map flushes o) content)) same again later
            (flushed_stands x c.uber c.checks c.stands of_size.firm)
      ]

      by : (w : UberFault) → why ≡ w → ImportIs rack area x pieces new now counts' n (Err (uber_fault_of w))
      by faults.Area at = left
      by faults.NoMemory at = left
      by faults.Empty at =
          let none : chosen_of c.uber.bytes ≡ None = subst (λ w. FindsFault w (chosen_of c.uber.bytes)) at chosen in
          none_left held new leaves now counts counts' count n (flushes c.uber) c.checks there (put (flushes c.uber) (empty at ∙ ap (λ o. option_map flushes o) content)) same again later
          (found_none x c.uber c.checks c.stands of_size.firm none) (flushed_none x c.uber c.checks c.stands of_size.firm none)
      by (faults.Record place kind) at = found_bad x c.uber c.checks c.stands of_size.firm (Bad place kind) (subst (λ w. FindsFault w (chosen_of c.uber.bytes)) at chosen)
