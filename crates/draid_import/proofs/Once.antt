-- No name stands twice among the arms of a metaslab's slots and those whose detachment isn't committed.
use Rattle.std.proofs.Common.{◌≡◌, ◌==◌, ◌<◌, ◌||◌, ◌&&◌, ◌∙◌, not, nat_lt, ℕ, zero, suc, Bool, true, false, List, [], ◌∷◌, ◌++◌, Some, length, map, arith, refl, sym, ap, subst, inl, inr, slice_get, eq-eqb}
use Rattle.std.specs.Prelude.{Contains, slice_index_or}
use Rattle.std.specs.List.{list_any}
use Rattle.std.proofs.lemmas.Bool.{cases_lt, true≢false}
use Rattle.std.proofs.lemmas.Bool.Decides.{nat_tests}
use Rattle.std.proofs.lemmas.List.Folds.{list_any-append}
use Rattle.draid_names.specs.declared.arm.Arm.{Arm}
use Rattle.draid_names.specs.declared.arm.ArmAt.{ArmAt}
use Rattle.draid_names.specs.declared.arm.ArmKind.{ArmKind}
use Rattle.draid_names.specs.declared.arm.ArmKind.TheVariants.{Leaf, Spare}
use Rattle.draid_machine.proofs.Small.{both_true, not_true, some_injective, true_both, true_right}
use Rattle.draid_record.specs.declared.limits.Limits.{Limits}
use Rattle.draid_record.specs.Ranges.{AreArms, AreSlots}
use Rattle.draid_record.specs.Record.{ArmTold, has_arm, is_kind, limit_of, stands}
use Rattle.draid_slots.specs.declared.slot.Detached.{Detached}
use Rattle.draid_slots.specs.Table.{SlotTable, arm_at, arms_of, is_leaf_kind}
use Rattle.draid_stable.specs.Opening.{arms_told}
use Rattle.draid_machine.specs.Names.{named}
use Rattle.draid_stable.proofs.Named.{any_got, apart_slots}
use Rattle.draid_stable.proofs.Opened.{from_map, index_map}
use Rattle.draid_shard.specs.Fits.{IsLeaf, NamesOnce}
use Rattle.draid_shard.proofs.Among.{has_nothing}

-- ---- the arms of a record in its ranges

same_named : (j k : ArmKind) (m n : ℕ) → named j m ≡ named k n → (j ≡ k) × (m ≡ n)
same_named Leaf Leaf m n same = (refl, cc)
same_named Leaf Spare m n same = absurd (cc)
same_named Spare Leaf m n same = absurd (cc)
same_named Spare Spare m n same = (refl, cc)

first_false : (a b : Bool) → (a || b) ≡ false → a ≡ false
first_false true b is = is
first_false false b is = refl

second_false : (a b : Bool) → (a || b) ≡ false → b ≡ false
second_false true b is = absurd (true≢false is)
second_false false b is = is

own_kind : (k : ArmKind) → is_kind k k ≡ true
own_kind Leaf = refl
own_kind Spare = refl

abbrev is_of : ArmTold → ArmTold → Bool
is_of u told = is_kind told.0.kind u.0.kind && (told.0.number == u.0.number)

is_other : (t u : ArmTold) → t.0.kind ≡ u.0.kind → t.0.number ≡ u.0.number → is_of u t ≡ true
is_other t u kind number =
    true_both (is_kind t.0.kind u.0.kind) (t.0.number == u.0.number) (subst (λ k. is_kind t.0.kind k ≡ true) kind (own_kind t.0.kind)) (eq-eqb t.0.number u.0.number number)

-- no arm of the name stands before an arm of a slot
none_before : (limits : Limits) (before : List (List ArmTold)) (count : ℕ) (here list : List ArmTold) (k : ℕ) (u : ArmTold) → AreArms limits before count here list → slice_get list k ≡ Some u
    → has_arm here u.0.kind u.0.number ≡ false
none_before limits before count here [] k u are there = absurd (cc)
none_before limits before count here (a ∷ rest) zero u are there =
    let known = both_true (nat_lt a.0.number (limit_of limits a.0.kind)) (not (stands before here a.0.kind a.0.number)) are.0.known in
    let none = second_false (list_any (λ (list : List ArmTold). has_arm list a.0.kind a.0.number) before) (has_arm here a.0.kind a.0.number) (not_true (stands before here a.0.kind a.0.number) known.1) in
    subst (λ (t : ArmTold). has_arm here t.0.kind t.0.number ≡ false) (some_injective a u there) none
none_before limits before count here (a ∷ rest) (suc k) u are there =
    first_false (list_any (is_of u) here) (list_any (is_of u) (a ∷ [])) (sym (list_any-append (is_of u) here (a ∷ [])) ∙ none_before limits before count (here ++ a ∷ []) rest k u are.1 there)

apart_arms : (limits : Limits) (before : List (List ArmTold)) (count : ℕ) (here list : List ArmTold) (j k : ℕ) (t u : ArmTold) → AreArms limits before count here list → slice_get list j ≡ Some t
    → slice_get list k ≡ Some u → t.0.kind ≡ u.0.kind → t.0.number ≡ u.0.number → j < k → ⊥
apart_arms limits before count here [] j k t u are at there kind number less = absurd (cc)
apart_arms limits before count here (a ∷ rest) j zero t u are at there kind number less = absurd (omega (arith, less))
apart_arms limits before count here (a ∷ rest) zero (suc k) t u are at there kind number less =
    let none = none_before limits before count (here ++ a ∷ []) rest k u are.1 there in
    let some = true_right (list_any (is_of u) here) (list_any (is_of u) (a ∷ [])) (any_got (is_of u) (a ∷ []) zero t at (is_other t u kind number)) in
    true≢false (sym (list_any-append (is_of u) here (a ∷ []) ∙ some) ∙ none)
apart_arms limits before count here (a ∷ rest) (suc j) (suc k) t u are at there kind number less =
    apart_arms limits before count (here ++ a ∷ []) rest j k t u are.1 at there kind number (omega (arith, less))

apart_in_slot : (limits : Limits) (before slots : List (List ArmTold)) (s j k : ℕ) (t u : ArmTold) → AreSlots limits before slots → slice_get (slice_index_or slots s []) j ≡ Some t
    → slice_get (slice_index_or slots s []) k ≡ Some u → t.0.kind ≡ u.0.kind → t.0.number ≡ u.0.number → j < k → ⊥
apart_in_slot limits before [] s j k t u are at there kind number less = absurd (cc)
apart_in_slot limits before (x ∷ rest) zero j k t u are at there kind number less = apart_arms limits before (length x) [] x j k t u are.0.arms_are at there kind number less
apart_in_slot limits before (x ∷ rest) (suc s) j k t u are at there kind number less = apart_in_slot limits (before ++ x ∷ []) rest s j k t u are.1 at there kind number less

-- each has a number that there is
arms_low : (limits : Limits) (before : List (List ArmTold)) (count : ℕ) (here list : List ArmTold) (k : ℕ) (u : ArmTold) → AreArms limits before count here list → slice_get list k ≡ Some u
    → nat_lt u.0.number (limit_of limits u.0.kind) ≡ true
arms_low limits before count here [] k u are there = absurd (cc)
arms_low limits before count here (a ∷ rest) zero u are there =
    subst (λ (t : ArmTold). nat_lt t.0.number (limit_of limits t.0.kind) ≡ true) (some_injective a u there)
    (both_true (nat_lt a.0.number (limit_of limits a.0.kind)) (not (stands before here a.0.kind a.0.number)) are.0.known).0
arms_low limits before count here (a ∷ rest) (suc k) u are there = arms_low limits before count (here ++ a ∷ []) rest k u are.1 there

slots_low : (limits : Limits) (before slots : List (List ArmTold)) (s k : ℕ) (u : ArmTold) → AreSlots limits before slots → slice_get (slice_index_or slots s []) k ≡ Some u
    → nat_lt u.0.number (limit_of limits u.0.kind) ≡ true
slots_low limits before [] s k u are there = absurd (cc)
slots_low limits before (x ∷ rest) zero k u are there = arms_low limits before (length x) [] x k u are.0.arms_are there
slots_low limits before (x ∷ rest) (suc s) k u are there = slots_low limits (before ++ x ∷ []) rest s k u are.1 there

module _ (limits : Limits) (all : List (List ArmTold)) (ranged : AreSlots limits [] all) (table : SlotTable) (arms : table.arms ≡ arms_told all) (none : table.detached ≡ []) where
  abbrev first : ArmTold → Arm
  first told = told.0

  told_there : (at : ArmAt) (a : Arm) → arm_at table at ≡ Some a → (t : ArmTold) × (slice_get (slice_index_or all at.slot []) at.arm ≡ Some t) × (t.0 ≡ a)
  told_there at a there =
      let list : arms_of table at.slot ≡ map first (slice_index_or all at.slot []) = ap (λ (all : List (List Arm)). slice_index_or all at.slot []) arms ∙ index_map (map first) all at.slot [] in
      from_map first (slice_index_or all at.slot []) at.arm a (ap (λ xs. slice_get xs at.arm) (sym list) ∙ there)

  one_place : (s r j k : ℕ) (t u : ArmTold) → slice_get (slice_index_or all s []) j ≡ Some t → slice_get (slice_index_or all r []) k ≡ Some u → t.0.kind ≡ u.0.kind → t.0.number ≡ u.0.number
      → (s ≡ r) × (j ≡ k)
  one_place s r j k t u at there kind number = elim (cases_lt s r) [
    | inl less ↦ absurd (apart_slots limits [] all s r j k t u ranged at there kind number less)
    | inr from ↦ elim (cases_lt r s) [
      | inl less ↦ absurd (apart_slots limits [] all r s k j u t ranged there at (sym kind) (sym number) less)
      | inr upto ↦ (let same : s ≡ r = omega (arith, from, upto) in (same, one_arm (subst (λ n. slice_get (slice_index_or all n []) j ≡ Some t) same at)))
    ]
  ] where
    one_arm : slice_get (slice_index_or all r []) j ≡ Some t → j ≡ k
    one_arm here = elim (cases_lt j k) [
      | inl less ↦ absurd (apart_in_slot limits [] all r j k t u ranged here there kind number less)
      | inr from ↦ elim (cases_lt k j) [
        | inl less ↦ absurd (apart_in_slot limits [] all r k j u t ranged there here (sym kind) (sym number) less)
        | inr upto ↦ omega (arith, from, upto)
      ]
    ]

  pub told_once : NamesOnce table
  told_once = record {
    arms = λ at other a b there also name.
        (let t = told_there at a there in
        let u = told_there other b also in
        let same = same_named a.kind b.kind a.number b.number name in
        let places = one_place at.slot other.slot at.arm other.arm t.0 u.0 t.1 u.1 (ap (λ (x : Arm). x.kind) t.2 ∙ same.0 ∙ ap (λ (x : Arm). x.kind) (sym u.2))
        (ap (λ (x : Arm). x.number) t.2 ∙ same.1 ∙ ap (λ (x : Arm). x.number) (sym u.2)) in
        λ i. record { slot = places.0 i; arm = places.1 i });
    detached = λ gone other among also name. absurd (has_nothing gone (subst (λ (list : List Detached). Contains list gone) none among));
    apart = λ at a gone there among name. has_nothing gone (subst (λ (list : List Detached). Contains list gone) none among);
  }

  -- leaves have numbers below that of the next one
  pub told_low : (leaf : ℕ) → IsLeaf table leaf → leaf < limits.next_leaf
  told_low leaf (inl (at, arm, there, kind_is, number)) =
      let t = told_there at arm there in
      let low : nat_lt arm.number (limit_of limits arm.kind) ≡ true
      = subst (λ (a : Arm). nat_lt a.number (limit_of limits a.kind) ≡ true) t.2 (slots_low limits [] all at.slot at.arm t.0 ranged t.1) in
      let own : nat_lt arm.number limits.next_leaf ≡ true = ap (λ k. nat_lt arm.number (limit_of limits k)) (sym kind_is) ∙ low in
      grind (arith, nat_tests, own, number)
  told_low leaf (inr gone) =
      absurd (true≢false (sym gone ∙ ap (λ (list : List Detached). list_any (λ (gone : Detached). is_leaf_kind gone.kind && (gone.number == leaf)) list) none))
