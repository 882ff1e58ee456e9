-- A column has no arm that answers and is clean, by the slots and by a state that has them.
use Rattle.std.proofs.Common.{◌≡◌, ◌⊎◌, ◌↔◌, ◌+◌, ◌&&◌, not, ◌∙◌, ℕ, Bool, true, false, Some, arith, refl, sym, ap, subst, inl, inr, get_or, length, slice_get}
use Rattle.std.proofs.lemmas.Bool.{cases_eq}
use Rattle.std.proofs.lemmas.Option.{slice_get-get_or}
use Rattle.std.specs.Prelude.{option_map}
use Rattle.draid_names.specs.declared.arm.Arm.{Arm}
use Rattle.draid_names.specs.declared.arm.ArmKind.TheVariants as kind
use Rattle.draid_names.specs.declared.pointer.Pointer.{Pointer}
use Rattle.draid_map.specs.Place.{IsLayout}
use Rattle.draid_layouts.specs.Layout.{slice_of}
use Rattle.draid_machine.specs.declared.names.ArmName.{ArmName}
use Rattle.draid_machine.specs.Arms.{answers, is_clean}
use Rattle.draid_machine.specs.Created.{IsReached}
use Rattle.draid_machine.specs.Names.{has_name}
use Rattle.draid_machine.specs.State as machine
use Rattle.draid_machine.proofs.Small.{absurd_test, bool_cases, not_false, not_true}
use Rattle.draid_slots.specs.declared.slot.ReadArm.{ReadArm}
use Rattle.draid_slots.specs.Reading.{IsNone, IsRead, answers_in, is_clean_in}
use Rattle.draid_slots.specs.States.{HasSlots, name_of}
use Rattle.draid_slots.specs.Table.{SlotTable, arms_of, is_logged}
use Rattle.draid_marks.specs.Counting.{LacksClean, NoneClean}
use Rattle.draid_marks.specs.Layout.{layout_with}
use Rattle.draid_marks.proofs.Answering.{clean_is, name_found, name_listed, named_arm}

-- where the first holds, the second doesn't
second : (a b : Bool) → (a && b) ≡ false → a ≡ true → b ≡ false
second true b both first = both
second false b both first = absurd (cc)

neither : (a b : Bool) → (a ≡ true → b ≡ false) → (a && b) ≡ false
neither true b second = second refl
neither false b second = refl

-- ---- what is read of a column
abbrev NoneAt : SlotTable → ℕ → ℕ → ℕ → Type 0
NoneAt slots slot slice birth = IsNone (is_clean_in slots slot slice birth) (length (arms_of slots slot))

module _ (slots : SlotTable) (pointer : Pointer) (c slot slice : ℕ) (slot_is : slot ≡ (layout_with slots).slot_of pointer.first c) (slice_is : slice ≡ slice_of slots.geometry pointer.first) where
  clean_there : NoneAt slots slot slice pointer.birth → NoneClean slots pointer c
  clean_there none = subst (λ s. NoneAt slots s (slice_of slots.geometry pointer.first) pointer.birth) slot_is (subst (λ s. NoneAt slots slot s pointer.birth) slice_is none)

  clean_here : NoneClean slots pointer c → NoneAt slots slot slice pointer.birth
  clean_here none = subst (λ s. NoneAt slots slot s pointer.birth) (sym slice_is) (subst (λ s. NoneAt slots s (slice_of slots.geometry pointer.first) pointer.birth) (sym slot_is) none)

  -- from an arm that isn't clean, or from none
  pub read_none : (read : ReadArm) → IsRead slots slot slice pointer.birth read → (not read.clean ≡ true) ↔ NoneClean slots pointer c
  read_none read is = (λ unclean. clean_there (is.no_clean (not_true read.clean unclean)), λ none. by (bool_cases read.clean) (clean_here none))
    where
      by : (read.clean ≡ true) ⊎ (read.clean ≡ false) → NoneAt slots slot slice pointer.birth → not read.clean ≡ true
      by (inl clean) none = let first = is.clean_arm clean in absurd_test (is_clean_in slots slot slice pointer.birth read.arm) first.passes (none read.arm first.within)
      by (inr unclean) none = not_false read.clean unclean

  pub silent_none : IsNone (answers_in slots slot slice) (length (arms_of slots slot)) → (true ≡ true) ↔ NoneClean slots pointer c
  silent_none silent = (λ t. clean_there (λ k less. ap (λ b. b && not (is_logged slots (record { slot = slot; arm = k }) pointer.birth)) (silent k less)), λ none. refl)

-- the columns one after another
pub lacks_more : (slots : SlotTable) (pointer : Pointer) (n : ℕ) → (LacksClean slots pointer n → ⊥) → (NoneClean slots pointer n → ⊥) → LacksClean slots pointer (n + 1) → ⊥
lacks_more slots pointer n before here z = elim (cases_eq z.0 n) [
  | inl same ↦ here (subst (NoneClean slots pointer) same z.2)
  | inr other ↦ before (z.0, (let less = z.1 in omega (arith, less, other)), z.2)
]

-- ---- in a state
module _ (slots : SlotTable) (lay : IsLayout slots.geometry slots.perms) (w : machine.State) (reached : IsReached (layout_with slots) w) (has : HasSlots slots w.core) (pointer : Pointer) (c : ℕ) where
  abbrev slot : ℕ
  slot = (layout_with slots).slot_of pointer.first c

  abbrev slice : ℕ
  slice = slice_of slots.geometry pointer.first

  -- an arm at a place is clean there as by its name
  clean_at : (k : ℕ) (a : Arm) → slice_get (arms_of slots slot) k ≡ Some a
      → (answers (layout_with slots) w.core (name_of a) pointer.first && is_clean w.core pointer.birth (name_of a)) ≡ is_clean_in slots slot slice pointer.birth k
  clean_at k a at = clean_is slots lay w reached has pointer.first c (record { slot = slot; arm = k }) a refl at pointer.birth

  pub uncertain_by : NoneClean slots pointer c → (n : ArmName) → has_name (w.core.order slot) n ≡ true → answers (layout_with slots) w.core n pointer.first ≡ true → is_clean w.core pointer.birth n ≡ false
  uncertain_by none n among there =
      let z = name_found (arms_of slots slot) n (subst (λ ns. has_name ns n ≡ true) (has.order slot) among) in
      let a = named_arm (slice_get (arms_of slots slot) z.0) n z.2 in
      let both = subst (λ m. (answers (layout_with slots) w.core m pointer.first && is_clean w.core pointer.birth m) ≡ false) a.2 (clean_at z.0 a.0 a.1 ∙ none z.0 z.1) in
      second (answers (layout_with slots) w.core n pointer.first) (is_clean w.core pointer.birth n) both there

  pub none_by : ((n : ArmName) → has_name (w.core.order slot) n ≡ true → answers (layout_with slots) w.core n pointer.first ≡ true → is_clean w.core pointer.birth n ≡ false) → NoneClean slots pointer c
  none_by uncertain k less = sym (clean_at k a at) ∙ neither (answers (layout_with slots) w.core (name_of a) pointer.first) (is_clean w.core pointer.birth (name_of a)) (uncertain (name_of a) in_order)
    where
      none : Arm
      none = record { kind = kind.Leaf; number = 0; offline = false; fresh = false }

      a : Arm
      a = get_or (arms_of slots slot) k none

      at : slice_get (arms_of slots slot) k ≡ Some a
      at = slice_get-get_or (arms_of slots slot) k none less

      in_order : has_name (w.core.order slot) (name_of a) ≡ true
      in_order = subst (λ ns. has_name ns (name_of a) ≡ true) (sym (has.order slot)) (name_listed (arms_of slots slot) k (name_of a) (ap (option_map name_of) at))
