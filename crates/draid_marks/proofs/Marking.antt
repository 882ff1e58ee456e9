-- The marks of silent arms, arm by arm and slot by slot.
use Rattle.std.proofs.Common.{◌≡◌, ◌<◌, ◌≤◌, ◌+◌, ◌&&◌, ◌∙◌, ℕ, zero, suc, Bool, true, false, List, [], ◌∷◌, Some, refl, replicate, arith, sym, ap, subst, inl, inr, length, get_or, set, if◌then◌else◌, slice_index_or}
use Rattle.std.proofs.lemmas.Bool.{cases_lt}
use Rattle.std.proofs.lemmas.Grind.{get_or-set_at}
use Rattle.std.proofs.lemmas.List.{get_or-set_other, get_or_past}
use Rattle.std.proofs.lemmas.Option.{slice_get-get_or, slice_get_past}
use Rattle.draid_names.specs.declared.arm.Arm.{Arm}
use Rattle.draid_names.specs.declared.arm.ArmAt.{ArmAt}
use Rattle.draid_names.specs.declared.arm.ArmKind.TheVariants as kind
use Rattle.draid_machine.specs.Names.{any_below}
use Rattle.draid_map.specs.Place.{IsLayout}
use Rattle.draid_slots.specs.Marks.{is_marked}
use Rattle.draid_slots.specs.Table.{SlotTable, IsThere, arm_at, arms_of, is_leaf_kind}
use Rattle.draid_marks.specs.Silent.{AreSilent, has_column_in, is_silent_in, lies_silent}
use Rattle.draid_marks.proofs.Silence.{silent_is}

-- marks of which none is set
pub none_marked : (n slot arm : ℕ) → is_marked (replicate n (false ∷ false ∷ false ∷ [])) slot arm ≡ false
none_marked zero slot arm = refl
none_marked (suc n) zero arm = by arm
  where
    by : (arm : ℕ) → slice_index_or (false ∷ false ∷ false ∷ []) arm false ≡ false
    by zero = refl
    by (suc zero) = refl
    by (suc (suc zero)) = refl
    by (suc (suc (suc arm))) = refl
none_marked (suc n) (suc slot) arm = none_marked n slot arm

module _ (slots : SlotTable) (failed : List ℕ) where
  abbrev pub lies_at : ℕ → ℕ → Bool
  lies_at slot arm = lies_silent slots failed (record { slot = slot; arm = arm }) (arm_at slots (record { slot = slot; arm = arm }))

  -- ---- one arm
  abbrev spare_lies : ArmAt → Bool
  spare_lies at = any_below slots.geometry.props.slices (λ slice. has_column_in slots at.slot slice && is_silent_in slots failed at slice)

  arm_is : (at : ArmAt) (arms : List Arm) (none : Arm) (leaf : Bool) → arms ≡ arms_of slots at.slot → IsThere slots at → is_leaf_kind (get_or arms at.arm none).kind ≡ leaf
      → lies_silent slots failed at (arm_at slots at) ≡ (if leaf then is_silent_in slots failed at 0 else spare_lies at)
  arm_is at arms none leaf is there kind =
      let held = slice_get-get_or (arms_of slots at.slot) at.arm none there ∙ ap (λ (list : List Arm). Some (get_or list at.arm none)) (sym is) in
      ap (lies_silent slots failed at) held ∙ ap (λ (b : Bool). if b then is_silent_in slots failed at 0 else spare_lies at) kind

  pub leaf_lies : (at : ArmAt) (arms : List Arm) (none : Arm) (r : Bool) → arms ≡ arms_of slots at.slot → IsThere slots at → (get_or arms at.arm none).kind ≡ kind.Leaf → r ≡ is_silent_in slots failed at 0 → r ≡ lies_silent slots failed at (arm_at slots at)
  leaf_lies at arms none r is there leaf e = e ∙ sym (arm_is at arms none true is there (ap is_leaf_kind leaf))

  pub spare_lies_so : (at : ArmAt) (arms : List Arm) (none : Arm) (r : Bool) → arms ≡ arms_of slots at.slot → IsThere slots at → (get_or arms at.arm none).kind ≡ kind.Spare → r ≡ spare_lies at → r ≡ lies_silent slots failed at (arm_at slots at)
  spare_lies_so at arms none r is there spare e = e ∙ sym (arm_is at arms none false is there (ap is_leaf_kind spare))

  -- ---- the arms of a slot
  pub arm_below : (slot n : ℕ) (marks : List Bool) (r : Bool) → n < length marks → r ≡ lies_at slot n → ((arm : ℕ) → arm < n → slice_index_or marks arm false ≡ lies_at slot arm)
      → (arm : ℕ) → arm < n + 1 → slice_index_or (set marks n r) arm false ≡ lies_at slot arm
  arm_below slot n marks r inside is below = λ arm less. elim (cases_lt arm n) [
    | inl before ↦ get_or-set_other marks n arm r false (λ e. omega (arith, before, e)) ∙ below arm before
    | inr past ↦ (
        let here : arm ≡ n = omega (arith, past, less) in
        get_or-set_at marks n arm r false here inside ∙ is ∙ ap (lies_at slot) (sym here)
        )
  ]

  pub arm_above : (n : ℕ) (marks : List Bool) (r : Bool) → ((arm : ℕ) → n ≤ arm → slice_index_or marks arm false ≡ false) → (arm : ℕ) → n + 1 ≤ arm → slice_index_or (set marks n r) arm false ≡ false
  arm_above n marks r above = λ arm past. get_or-set_other marks n arm r false (λ e. omega (arith, past, e)) ∙ above arm (omega (arith, past))

  pub arms_all : (slot n : ℕ) (marks : List Bool) → length (arms_of slots slot) ≤ n → ((arm : ℕ) → arm < n → slice_index_or marks arm false ≡ lies_at slot arm) → ((arm : ℕ) → n ≤ arm → slice_index_or marks arm false ≡ false)
      → (arm : ℕ) → slice_index_or marks arm false ≡ lies_at slot arm
  arms_all slot n marks few below above = λ arm. elim (cases_lt arm n) [
    | inl before ↦ below arm before
    | inr past ↦ above arm past ∙ sym (ap (lies_silent slots failed (record { slot = slot; arm = arm })) (slice_get_past (arms_of slots slot) arm (omega (arith, few, past))))
  ]

  -- ---- the slots
  pub slot_below : (n : ℕ) (marks : List (List Bool)) (r : List Bool) → n < length marks → ((arm : ℕ) → slice_index_or r arm false ≡ lies_at n arm) → ((slot arm : ℕ) → slot < n → is_marked marks slot arm ≡ lies_at slot arm)
      → (slot arm : ℕ) → slot < n + 1 → is_marked (set marks n r) slot arm ≡ lies_at slot arm
  slot_below n marks r inside is below = λ slot arm less. elim (cases_lt slot n) [
    | inl before ↦ ap (λ (list : List Bool). slice_index_or list arm false) (get_or-set_other marks n slot r [] (λ e. omega (arith, before, e))) ∙ below slot arm before
    | inr past ↦ (
        let here : slot ≡ n = omega (arith, past, less) in
        ap (λ (list : List Bool). slice_index_or list arm false) (get_or-set_at marks n slot r [] here inside) ∙ is arm ∙ ap (λ s. lies_at s arm) (sym here)
        )
  ]

  pub slots_all : (n : ℕ) (marks : List (List Bool)) → length marks ≤ n → length slots.arms ≤ n → ((slot arm : ℕ) → slot < n → is_marked marks slot arm ≡ lies_at slot arm)
      → (at : ArmAt) → is_marked marks at.slot at.arm ≡ lies_silent slots failed at (arm_at slots at)
  slots_all n marks few_marks few_slots below = λ at. elim (cases_lt at.slot n) [
    | inl before ↦ below at.slot at.arm before
    | inr past ↦ (
        let no_marks = get_or_past marks at.slot [] (omega (arith, few_marks, past)) in
        let no_arms = get_or_past slots.arms at.slot [] (omega (arith, few_slots, past)) in
        let unmarked = get_or_past [] at.arm false (omega arith) in
        let gone = slice_get_past (arms_of slots at.slot) at.arm (subst (λ (list : List Arm). length list ≤ at.arm) (sym no_arms) (omega arith)) in
        ap (λ (list : List Bool). slice_index_or list at.arm false) no_marks ∙ unmarked ∙ sym (ap (lies_silent slots failed at) gone)
        )
  ]

  pub slot_above : (n : ℕ) (marks : List (List Bool)) (r : List Bool) → ((slot arm : ℕ) → n ≤ slot → is_marked marks slot arm ≡ false) → (slot arm : ℕ) → n + 1 ≤ slot → is_marked (set marks n r) slot arm ≡ false
  slot_above n marks r above = λ slot arm past. ap (λ (list : List Bool). slice_index_or list arm false) (get_or-set_other marks n slot r [] (λ e. omega (arith, past, e))) ∙ above slot arm (omega (arith, past))

  pub slots_both : (n : ℕ) (marks : List (List Bool)) → length slots.arms ≤ n → ((slot arm : ℕ) → slot < n → is_marked marks slot arm ≡ lies_at slot arm) → ((slot arm : ℕ) → n ≤ slot → is_marked marks slot arm ≡ false)
      → (at : ArmAt) → is_marked marks at.slot at.arm ≡ lies_silent slots failed at (arm_at slots at)
  slots_both n marks few_slots below above = λ at. elim (cases_lt at.slot n) [
    | inl before ↦ below at.slot at.arm before
    | inr past ↦ (
        let no_arms = get_or_past slots.arms at.slot [] (omega (arith, few_slots, past)) in
        let gone = slice_get_past (arms_of slots at.slot) at.arm (subst (λ (list : List Arm). length list ≤ at.arm) (sym no_arms) (omega arith)) in
        above at.slot at.arm past ∙ sym (ap (lies_silent slots failed at) gone)
        )
  ]

  -- and in each state
  pub are_silent : IsLayout slots.geometry slots.perms → (marks : List (List Bool)) → ((at : ArmAt) → is_marked marks at.slot at.arm ≡ lies_silent slots failed at (arm_at slots at)) → AreSilent slots failed marks
  are_silent lay marks marked = record {
    marked = marked;
    lie = λ w reached has at a there. marked at ∙ ap (lies_silent slots failed at) there ∙ silent_is slots lay w reached has failed at a there;
  }
