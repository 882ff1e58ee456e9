-- The spares that moved are marked, arm by arm and slot by slot.
use Rattle.std.proofs.Common.{◌≡◌, ◌<◌, ◌≤◌, ◌+◌, ◌∙◌, ℕ, Bool, false, List, [], Some, arith, sym, ap, subst, inl, inr, length, get_or, set, slice_get, slice_index_or}
use Rattle.std.proofs.lemmas.Bool.{cases_lt}
use Rattle.std.proofs.lemmas.Grind.{get_or-set_at}
use Rattle.std.proofs.lemmas.List.{get_or-set_other, get_or_past}
use Rattle.std.proofs.lemmas.Option.{slice_get-get_or, slice_get_past}
use Rattle.draid_names.specs.declared.arm.Arm.{Arm}
use Rattle.draid_names.specs.declared.arm.ArmAt.{ArmAt}
use Rattle.draid_machine.proofs.Small.{none_some, some_injective}
use Rattle.draid_slots.specs.declared.moved.Moved.{Moved}
use Rattle.draid_slots.specs.Marks.{is_marked}
use Rattle.draid_slots.specs.Table.{SlotTable, arm_at, arms_of}
use Rattle.draid_disks.specs.Renewing.{is_renewed}
use Rattle.draid_disks.specs.Replanning.{MarksMoved, is_moved}

-- ---- the arms of a slot
module _ (arms : List Arm) (test : ℕ → Bool) where
  abbrev pub MarksBelow : ℕ → List Bool → Type 0
  MarksBelow n marks = (k : ℕ) (arm : Arm) → k < n → slice_get arms k ≡ Some arm → slice_index_or marks k false ≡ is_renewed test arm

  pub marks_more : (n : ℕ) (marks : List Bool) (none : Arm) (r : Bool) → n < length marks → n < length arms → r ≡ is_renewed test (get_or arms n none) → MarksBelow n marks → MarksBelow (n + 1) (set marks n r)
  marks_more n marks none r inside there is below k arm less found = elim (cases_lt k n) [
    | inl before ↦ get_or-set_other marks n k r false (λ e. omega (arith, before, e)) ∙ below k arm before found
    | inr past ↦ (
        let here : k ≡ n = omega (arith, past, less) in
        let same : get_or arms n none ≡ arm = some_injective (get_or arms n none) arm (sym (slice_get-get_or arms n none there) ∙ ap (slice_get arms) (sym here) ∙ found) in
        get_or-set_at marks n k r false here inside ∙ is ∙ ap (is_renewed test) same
        )
  ]

  pub marks_all : (n : ℕ) (marks : List Bool) → length arms ≤ n → MarksBelow n marks → (k : ℕ) (arm : Arm) → slice_get arms k ≡ Some arm → slice_index_or marks k false ≡ is_renewed test arm
  marks_all n marks few below k arm found = elim (cases_lt k n) [
    | inl before ↦ below k arm before found
    | inr past ↦ absurd (none_some (slice_get arms k) arm (slice_get_past arms k (omega (arith, few, past))) found)
  ]

-- ---- the slots
module _ (slots : SlotTable) (moved : Moved) where
  abbrev pub SlotsBelow : ℕ → List (List Bool) → Type 0
  SlotsBelow n marks = (at : ArmAt) (arm : Arm) → at.slot < n → arm_at slots at ≡ Some arm → is_marked marks at.slot at.arm ≡ is_moved slots moved arm

  pub slots_more : (n : ℕ) (marks : List (List Bool)) (r : List Bool) → n < length marks
      → ((k : ℕ) (arm : Arm) → slice_get (arms_of slots n) k ≡ Some arm → slice_index_or r k false ≡ is_moved slots moved arm) → SlotsBelow n marks → SlotsBelow (n + 1) (set marks n r)
  slots_more n marks r inside is below at arm less found = elim (cases_lt at.slot n) [
    | inl before ↦ ap (λ (list : List Bool). slice_index_or list at.arm false) (get_or-set_other marks n at.slot r [] (λ e. omega (arith, before, e))) ∙ below at arm before found
    | inr past ↦ (
        let here : at.slot ≡ n = omega (arith, past, less) in
        ap (λ (list : List Bool). slice_index_or list at.arm false) (get_or-set_at marks n at.slot r [] here inside)
        ∙ is at.arm arm (ap (λ s. slice_get (arms_of slots s) at.arm) (sym here) ∙ found)
        )
  ]

  pub slots_all : (n : ℕ) (marks : List (List Bool)) → length slots.arms ≤ n → SlotsBelow n marks → MarksMoved slots moved marks
  slots_all n marks few below at arm found = elim (cases_lt at.slot n) [
    | inl before ↦ below at arm before found
    | inr past ↦ (
        let none : arms_of slots at.slot ≡ [] = get_or_past slots.arms at.slot [] (omega (arith, few, past)) in
        let gone = slice_get_past (arms_of slots at.slot) at.arm (subst (λ (list : List Arm). length list ≤ at.arm) (sym none) (omega arith)) in
        absurd (none_some (arm_at slots at) arm gone found)
        )
  ]
