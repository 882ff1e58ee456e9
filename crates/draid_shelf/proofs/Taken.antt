-- What a call of a shelf in memory that makes or takes leaves, where it succeeded and where it was refused.
use Rattle.std.proofs.Common.{arith, refl, inl, inr, ◌≡◌, ◌+◌, ◌-◌, ◌^◌, ◌≤◌, ◌⊎◌, ◌==◌, ◌∙◌, ap, sym, subst, min, ℕ, Bool, Ok, Err, Option, Some, None, false, true, is_some, option_map, if◌then◌else◌}
use Rattle.std.proofs.lemmas.Bool.{true≢false}
use Rattle.std.proofs.lemmas.Bool.Decides.{nat_tests}
use Rattle.std.specs.Prelude.{IsErrOf, IsSomeAnd, IsTrue, option_and_then}
use Rattle.draid_names.specs.Faults.{Rose}
use Rattle.draid_names.specs.declared.fault.DeviceFault.{DeviceFault}
use Rattle.draid_faults.specs.declared.calls.Calls.{Calls}
use Rattle.draid_faults.specs.Calls.{CountsCall, CountsJust, failing_calls, is_fused, next_call}
use Rattle.draid_rack.specs.Memory.{shape_of_memory, told_by_memory}
use Rattle.draid_rack.specs.declared.memory.MemoryRack.{MemoryRack}
use Rattle.draid_area.specs.Memory as device
use Rattle.draid_area.specs.declared.memory.MemoryArea.{MemoryArea}
use Rattle.draid_shelf.specs.Failing.{KeepsPlan, lists_by}
use Rattle.draid_shelf.specs.Shelf.{IsKnown}
use Rattle.draid_shelf.specs.Kits.{FailsJust, ShelfCounts, kit_of}
use Rattle.draid_shelf.specs.Memory.{content_of}
use Rattle.draid_shelf.specs.declared.memory.MemoryShelf.{MemoryShelf}
use Rattle.draid_shelf.specs.declared.plan.Plan.{Plan}

-- the lists are those of the shelf's calls and of its plan
pub lists_kept : (old new : Calls) (plan : Plan) → failing_calls new ≡ failing_calls old → lists_by new plan ≡ lists_by old plan
lists_kept old new plan same = λ j. record {
  own = same j;
  racks = (lists_by old plan).racks;
  evens = (lists_by old plan).evens;
  odds = (lists_by old plan).odds;
  check_even = (lists_by old plan).check_even;
  check_odd = (lists_by old plan).check_odd;
  uber = (lists_by old plan).uber;
}

pub plan_kept : (old new : MemoryShelf) (mid : Calls) → new.rule ≡ old.rule → new.plan ≡ old.plan → new.calls ≡ mid → failing_calls mid ≡ failing_calls old.calls → KeepsPlan old new
plan_kept old new mid rule plan calls failing = record {
  rule = rule;
  lists = ap (λ (p : Plan). lists_by new.calls p) plan ∙ lists_kept old.calls new.calls old.plan (ap (λ (x : Calls). failing_calls x) calls ∙ failing);
  fuse = ap (λ (p : Plan). is_some p.fuse) plan;
}

-- a success is no failure
pub no_failure : {T : Type 0} (x : T) → false ≡ true → IsErrOf {T = T} {E = DeviceFault} (Ok x) DeviceFault.Failed
no_failure x wrong = absurd (true≢false (sym wrong))

pub count_kept : {T : Type 0} (x : T) (n : ℕ) → ShelfCounts {T = T} (Ok x) n n
count_kept x n = record { later = omega arith; cause = λ failed. absurd (cc) }

pub same_count : {T : Type 0} (x : T) (n : ℕ) → CountsJust (IsErrOf {T = T} {E = DeviceFault} (Ok x) DeviceFault.Failed) n n
same_count x n = record { risen = λ failed. absurd (cc); same = λ _. refl }

-- the call is none of the list, and what it asks for is held
pub succeeds : {T : Type 0} (held : Type 0) (x : T) (old new : Calls) → CountsCall (IsTrue false) old new → held → FailsJust held (IsErrOf {T = T} {E = DeviceFault} (Ok x) DeviceFault.Failed) old new
succeeds held x old new counts there = record {
  named = λ listed. no_failure x (counts.named listed);
  missing = λ none. absurd (none there);
  cause = λ failed. absurd (cc);
  next = counts.next;
  failing = counts.failing;
}

-- a failure of the shelf is told as such
pub is_failure : {T : Type 0} (fault : DeviceFault) → fault ≡ DeviceFault.Failed → IsErrOf {T = T} {E = DeviceFault} (Err fault) DeviceFault.Failed
is_failure fault is = cc

pub count_risen : {T : Type 0} (fault : DeviceFault) (before mid now : ℕ) → mid ≡ before → Rose mid now → mid ≤ now → ShelfCounts {T = T} (Err fault) before now
count_risen fault before mid now was rose later = record { later = subst (λ n. n ≤ now) was later; cause = λ _. subst (λ n. Rose n now) was rose }

pub just_risen : {T : Type 0} (fault : DeviceFault) (before mid now : ℕ) → fault ≡ DeviceFault.Failed → mid ≡ before → now ≡ min (mid + 1) (2 ^ 64 - 1) → CountsJust (IsErrOf {T = T} {E = DeviceFault} (Err fault) DeviceFault.Failed) before now
just_risen {T} fault before mid now is was risen = record { risen = λ _. subst (λ n. now ≡ min (n + 1) (2 ^ 64 - 1)) was risen; same = λ none. absurd (none (is_failure {T = T} fault is)) }

-- the call is one of the list, or what it asks for isn't held
pub refuses : {T : Type 0} (held : Type 0) (fault : DeviceFault) (fails : Bool) (old mid new : Calls) → fault ≡ DeviceFault.Failed → is_fused old ≡ false → CountsCall (IsTrue fails) old mid → new ≡ mid → (fails ≡ true) ⊎ (held → ⊥) → FailsJust held (IsErrOf {T = T} {E = DeviceFault} (Err fault) DeviceFault.Failed) old new
refuses {T} held fault fails old mid new is unfused counts same why = record {
  named = λ _. is_failure {T = T} fault is;
  missing = λ _. is_failure {T = T} fault is;
  cause = λ _ there. elim why [
    | inl so ↦ elim (counts.cause so) [ inl listed ↦ listed | inr fused ↦ absurd (true≢false (sym fused ∙ unfused)) ]
    | inr none ↦ absurd (none there)
  ];
  next = ap (λ (x : Calls). next_call x) same ∙ counts.next;
  failing = ap (λ (x : Calls). failing_calls x) same ∙ counts.failing;
}

-- a shelf of which a call was counted, and no more
pub record Asked (old : MemoryShelf) (calls : Calls) (x : MemoryShelf) : Type 0 where
  pub devices : x.devices ≡ old.devices
  pub plan : x.plan ≡ old.plan
  pub calls_are : x.calls ≡ calls
  pub faults : x.faults ≡ old.faults
  pub rule : x.rule ≡ old.rule

pub asked : (old : MemoryShelf) (calls : Calls) (x y : MemoryShelf) → x ≡ y → Asked old calls y → Asked old calls x
asked old calls x y same there = subst (λ s. Asked old calls s) (sym same) there

-- the devices that were on the places of a metaslab
pub kit_taken : (r : Option MemoryRack) (e o : Option MemoryArea) (rack : MemoryRack) (even odd : MemoryArea) → r ≡ Some rack → e ≡ Some even → o ≡ Some odd
    → kit_of (told_by_memory rack) (device.told_by_memory even) (device.told_by_memory odd) ≡ kit_of (option_and_then told_by_memory r) (content_of e) (content_of o)
kit_taken r e o rack even odd a b c = rw (a, b, c) refl

-- another place than the one that was set
pub set_other : {A : Type 0} (now was v : Option A) (q m : ℕ) → (q ≡ m → ⊥) → now ≡ (if q == m then v else was) → now ≡ was
set_other now was v q m away is = grind (arith, nat_tests)

-- what is held tells
pub area_some : (x : Option MemoryArea) (area : MemoryArea) → x ≡ Some area → content_of x ≡ None → ⊥
area_some x area is none = true≢false (ap (λ k. is_some k) (ap (λ y. content_of y) (sym is) ∙ none))

pub kit_some : (r : Option MemoryRack) (e o : Option MemoryArea) (rack : MemoryRack) (even odd : MemoryArea) → r ≡ Some rack → e ≡ Some even → o ≡ Some odd → kit_of (option_and_then told_by_memory r) (content_of e) (content_of o) ≡ None → ⊥
kit_some r e o rack even odd a b c none = true≢false (ap (λ k. is_some k) (kit_taken r e o rack even odd a b c ∙ none))

-- the leaves of a rack that is held
pub is_known : (r : Option MemoryRack) (rack : MemoryRack) → r ≡ Some rack → IsKnown (option_map shape_of_memory r) (shape_of_memory rack)
is_known r rack is = rw is refl

pub has_sector : (r : Option MemoryRack) (rack : MemoryRack) (n : ℕ) → r ≡ Some rack → IsSomeAnd r (λ x. (shape_of_memory x).bytes ≡ n) → (shape_of_memory rack).bytes ≡ n
has_sector r rack n is has = rw is at has
