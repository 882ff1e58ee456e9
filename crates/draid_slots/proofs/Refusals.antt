-- What an attachment and a detachment need, from the tests that look for it.
use Rattle.std.proofs.Common.{◌≡◌, ◌≢◌, ◌+◌, ◌^◌, ℕ, zero, suc, ◌<◌, Bool, true, false, if◌then◌else◌, List, [], ◌∷◌, map, length, get_or, arith, refl, ap, sym, ◌∙◌, inl, inr, Some}
use Rattle.std.specs.Prelude.{remove, ◌⊎◌}
use Rattle.std.proofs.lemmas.Bool.{cases_lt, false≢true}
use Rattle.std.proofs.lemmas.List.Edits.{length-remove}
use Rattle.draid_names.specs.declared.arm.Arm.{Arm}
use Rattle.draid_names.specs.declared.arm.ArmAt.{ArmAt}
use Rattle.draid_names.specs.declared.arm.ArmKind.{ArmKind}
use Rattle.draid_names.specs.declared.arm.ArmKind.TheVariants.{Leaf, Spare}
use Rattle.draid_perm.specs.declared.perms.Perms.{Perms}
use Rattle.draid_ranges.specs.Numbers.{Numbers, count_below, has}
use Rattle.draid_spec.specs.declared.layout.Geometry.{Geometry}
use Rattle.draid_slots.specs.declared.slot.Detached.{Detached}
use Rattle.draid_slots.specs.declared.slot.Slot.{Slot}
use Rattle.draid_slots.specs.Faults.{HasWhole, IsIdle, IsKnown, IsLeastCount, IsLeastLogged}
use Rattle.draid_slots.specs.Table.{SlotTable, arms_in, count_of, has_leaf, holds_spare, is_leaf, is_leaf_kind, is_spare_kind, logs_in, no_log, table_of}
use Rattle.draid_slots.proofs.Tables.{IsPlace}

-- an arm of a slot that is there: a leaf, or a spare that is there and idle
pub comes : (table : SlotTable) (slot : ℕ) (arm : Arm) → slot < table.geometry.spec.children
    → ((is_leaf arm ≡ false) × (arm.number < table.geometry.spec.spares) × ((slot : ℕ) → holds_spare table arm.number slot ≡ false)) ⊎ (is_leaf arm ≡ true)
    → IsKnown table slot arm × IsIdle table arm
comes table slot arm within (inl spare) = (record { slot_there = within; spare_there = λ h. spare.1 }, (λ h. spare.2))
comes table slot arm within (inr leaf) = (
  record { slot_there = within; spare_there = λ h. absurd (no_spare arm.kind leaf h) },
  (λ h. absurd (no_spare arm.kind leaf h)),
) where
  no_spare : (kind : ArmKind) → is_leaf_kind kind ≡ true → is_spare_kind kind ≡ true → ⊥
  no_spare Leaf leaf h = false≢true h
  no_spare Spare leaf h = false≢true leaf

pub some_same : {X : Type 0} (x y : X) → Some x ≡ Some y → x ≡ y
some_same x y is = cc

-- a list has something beside a place where it has a leaf there
some_beside : (xs : List Arm) (k : ℕ) → k < length xs → has_leaf (remove xs k) ≡ true → 1 < length xs
some_beside xs k there leaf = at (remove xs k) refl leaf
  where
    at : (ys : List Arm) → remove xs k ≡ ys → has_leaf ys ≡ true → 1 < length xs
    at [] is h = absurd (false≢true h)
    at (y ∷ ys) is h = omega (arith, length-remove xs k there, ap length is)

pub one_beside : (xs : List Arm) (k n : ℕ) → k < length xs → has_leaf (remove xs k) ≡ true → n ≡ length xs → ((other : ℕ) → other ≢ k → ¬ (other < n)) → ⊥
one_beside xs zero n there leaf same none = none 1 (λ e. absurd (omega arith)) (omega (arith, some_beside xs zero there leaf))
one_beside xs (suc k) n there leaf same none = none 0 (λ e. absurd (omega arith)) (omega arith)

pub least_logged : (geometry : Geometry) (perms : Perms) (metaslab : ℕ) (slots : List Slot) (detached : List Detached) (next : List ℕ) (places : ℕ) (at : ArmAt) (slot : Slot) (logs : List Numbers) (groups : ℕ)
    → IsPlace slots at slot → logs ≡ logs_in slot → IsLeastCount logs at.arm (length logs) groups → IsLeastLogged (table_of geometry perms metaslab slots detached next places) at groups
least_logged geometry perms metaslab slots detached next places at slot logs groups place are is =
    let same : length logs ≡ length (arms_in slot) = (let paired = place.paired in ap length are ∙ paired.same) in
    let arms = ap length place.arms_are in
    let found : get_or (map logs_in slots) at.slot [] ≡ logs = place.logs_are ∙ sym are in
    let some = is.one in
    record {
      one = (some.0, (some.1, (let below = some.2 in omega arith)), ap (λ ls. count_of (get_or ls some.0 no_log)) found ∙ some.3);
      least = λ other beside.
          let below = beside.1 in
          let least = is.least other beside.0 (omega arith) in
          let count = ap (λ ls. count_of (get_or ls other no_log)) found in
          omega arith;
    }

-- where none is counted and none is higher, none is there
pub none_below : (f : ℕ → Bool) (n : ℕ) → count_below f n ≡ 0 → (x : ℕ) → x < n → f x ≡ false
unfolding count_below
none_below f zero none x less = absurd (omega (arith, less))
none_below f (suc n) none x less = by (f n) refl (λ rest low. none_below f n rest x low)
  where
    by : (b : Bool) → f n ≡ b → (count_below f n ≡ 0 → x < n → f x ≡ false) → f x ≡ false
    by true is before = (let z : count_below f n + 1 ≡ 0 = ap (λ (t : Bool). count_below f n + (if t then 1 else 0)) (sym is) ∙ none in absurd (omega (arith, z)))
    by false is before = (
        let z : count_below f n + 0 ≡ 0 = ap (λ (t : Bool). count_below f n + (if t then 1 else 0)) (sym is) ∙ none in
        let rest : count_below f n ≡ 0 = omega (arith, z) in
        elim (cases_lt x n) [
          | inl low ↦ before rest low
          | inr past ↦ let e : x ≡ n = omega (arith, less, past) in ap f e ∙ is
        ])

pub whole_beside : (geometry : Geometry) (perms : Perms) (metaslab : ℕ) (slots : List Slot) (detached : List Detached) (next : List ℕ) (places : ℕ) (at : ArmAt) (slot : Slot) (logs : List Numbers)
    → IsPlace slots at slot → logs ≡ logs_in slot → IsLeastCount logs at.arm (length logs) 0 → HasWhole (table_of geometry perms metaslab slots detached next places) at
whole_beside geometry perms metaslab slots detached next places at slot logs place are is =
    let same : length logs ≡ length (arms_in slot) = (let paired = place.paired in ap length are ∙ paired.same) in
    let arms = ap length place.arms_are in
    let found : get_or (map logs_in slots) at.slot [] ≡ logs = place.logs_are ∙ sym are in
    let some = is.one in (
      some.0,
      (some.1, (let below = some.2 in omega arith)),
      λ group. ap (λ ls. has (get_or ls some.0 no_log) group) found ∙ none_at group,
    )
  where
    none_at : (group : ℕ) → has (get_or logs is.one.0 no_log) group ≡ false
    none_at group = elim (cases_lt group (2 ^ 48)) [
      | inl less ↦ none_below (has (get_or logs is.one.0 no_log)) (2 ^ 48) is.one.3 group less
      | inr past ↦ is.low is.one.0 group is.one.1 is.one.2 past
    ]
