-- The arms that a shard marks are in each state those that miss the block.
use Rattle.std.proofs.Common.{◌≡◌, ◌<◌, ◌||◌, ◌&&◌, not, ◌∙◌, ℕ, zero, suc, Bool, true, false, List, Some, refl, arith, sym, ap, ap₂, subst, inl, inr}
use Rattle.std.specs.Prelude.{option_map}
use Rattle.std.proofs.lemmas.Option.{slice_get_within}
use Rattle.draid_names.specs.declared.arm.Arm.{Arm}
use Rattle.draid_names.specs.declared.arm.ArmAt.{ArmAt}
use Rattle.draid_names.specs.declared.pointer.Pointer.{Pointer}
use Rattle.draid_machine.specs.After.{misses_stripe}
use Rattle.draid_machine.specs.Arms as arms
use Rattle.draid_machine.specs.Arms.{has_column, passes}
use Rattle.draid_machine.specs.Created.{IsReached}
use Rattle.draid_machine.specs.Images.{Owned}
use Rattle.draid_machine.specs.Names.{any_below, has_name, has_number}
use Rattle.draid_machine.specs.State as machine
use Rattle.draid_machine.proofs.Losing.{every_segment}
use Rattle.draid_machine.proofs.Small.{absurd_test, any_at, bool_cases, either_true}
use Rattle.draid_plans.specs.Targets.{AreMarked}
use Rattle.draid_slots.specs.Changes.{IsOf}
use Rattle.draid_slots.specs.States.{HasSlots, name_of}
use Rattle.draid_slots.specs.Table.{SlotTable, arm_at, arms_of}
use Rattle.draid_shard.specs.Part.{IsPart, IsRun, Part, layout_in}
use Rattle.draid_shard.specs.Rows.{IsRowsOf, arm_no}
use Rattle.draid_shard.proofs.Answering.{answers_is, leaf_at_is, listed, name_listed}
use Rattle.draid_shard.proofs.Homes.{lays}
use Rattle.draid_shard.specs.Losing.{AreMissed, is_missed_on}
use Rattle.draid_shard.specs.Spots.{rows_at}

pub any_found : (n : ℕ) (p : ℕ → Bool) → any_below n p ≡ true → (c : ℕ) × (c < n) × (p c ≡ true)
any_found zero p is = absurd_test false is refl
any_found (suc n) p is = elim (either_true (any_below n p) (p n) is) [
  | inl before ↦ (let z = any_found n p before in (z.0, (let less = z.1 in omega (arith, less)), z.2))
  | inr here ↦ (n, omega arith, here)
]

module _ (part : Part) (slots : SlotTable) (pointer : Pointer) (failed : List ℕ) where
  abbrev slot_at : ℕ → ℕ
  slot_at c = (layout_in part).slot_of pointer.first c

  module _ (is : IsPart part) (of : IsOf slots part.geometry part.perms part.number) (w : machine.State) (reached : IsReached (layout_in part) w) (has : HasSlots slots w.core)
      (run : IsRun part.geometry pointer.first pointer.stripes) where
    abbrev l : machine.Layout
    l = layout_in part

    owned : Owned l w
    owned = every_segment l w (lays part is) reached

    own_rows : (c : ℕ) → IsRowsOf part pointer c (rows_at part pointer c)
    own_rows c = record { slot_is = refl; first_is = refl; count_is = refl; size_is = refl; birth_is = refl; slice_is = refl }

    marked_at : (at : ArmAt) (a : Arm) → arm_at slots at ≡ Some a → (c : ℕ) → c < part.geometry.g → slot_at c ≡ at.slot
        → is_missed_on slots (rows_at part pointer c) failed at.arm ≡ misses_stripe l w.core pointer.first failed (name_of a)
    marked_at at a there c low same =
        let here : arm_at slots (arm_no (rows_at part pointer c) at.arm) ≡ Some a = ap (arm_at slots) (λ i. record { slot = same i; arm = at.arm }) ∙ there in
        let column : has_column l w.core (name_of a) pointer.first ≡ true
        = any_at part.geometry.g (λ d. has_name (w.core.order (slot_at d)) (name_of a)) c low
        (listed part is slots of w reached has pointer run c low (rows_at part pointer c) (own_rows c) at.arm (name_of a) (ap (option_map name_of) here)) in
        sym (ap (λ b. b && (not (arms.answers l w.core (name_of a) pointer.first) || arms.fails l w.core failed (name_of a) pointer.first)) column
        ∙ ap₂ (λ b o. not b || passes o (has_number failed)) (answers_is part is slots of w reached has pointer run c low (rows_at part pointer c) (own_rows c) at.arm a here)
        (leaf_at_is part is slots of w reached has pointer run c low (rows_at part pointer c) (own_rows c) at.arm a here))

    in_order : (at : ArmAt) (a : Arm) → arm_at slots at ≡ Some a → has_name (w.core.order at.slot) (name_of a) ≡ true
    in_order at a there = subst (λ ns. has_name ns (name_of a) ≡ true) (sym (has.order at.slot)) (name_listed (arms_of slots at.slot) at.arm (name_of a) (ap (option_map name_of) there))

    unmarked_at : (at : ArmAt) (a : Arm) → arm_at slots at ≡ Some a → ((c : ℕ) → c < part.geometry.g → slot_at c ≡ at.slot → ⊥) → false ≡ misses_stripe l w.core pointer.first failed (name_of a)
    unmarked_at at a there none = elim (bool_cases (has_column l w.core (name_of a) pointer.first)) [
      | inl on ↦ absurd (let z = any_found part.geometry.g (λ d. has_name (w.core.order (slot_at d)) (name_of a)) on in
          none z.0 z.1 (owned.listed.one (slot_at z.0) at.slot (name_of a) z.2 (in_order at a there)))
      | inr off ↦ sym (ap (λ b. b && (not (arms.answers l w.core (name_of a) pointer.first) || arms.fails l w.core failed (name_of a) pointer.first)) off)
    ]

    pub are_marked : (marks : List (List Bool)) → AreMissed part slots pointer failed part.geometry.g marks → AreMarked slots marks (misses_stripe l w.core pointer.first failed)
    are_marked marks missed at a there = elim (missed at.slot at.arm (slice_get_within (arms_of slots at.slot) at.arm a there)) [
      | inl z ↦ z.3 ∙ marked_at at a there z.0 z.1 z.2
      | inr z ↦ z.1 ∙ unmarked_at at a there z.0
    ]
