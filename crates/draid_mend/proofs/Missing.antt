-- The arms of a stripe's slots that miss it.
use Rattle.std.proofs.Common.{◌≡◌, ◌⊎◌, ◌==◌, ◌+◌, ◌<◌, ◌||◌, ◌&&◌, not, ◌∙◌, ℕ, zero, suc, Bool, true, false, List, [], ◌∷◌, Option, None, Some, refl, replicate, arith, sym, ap, ap₂, subst, inl, inr, length, set}
use Rattle.std.specs.List.{list_any}
use Rattle.std.specs.Prelude.{option_map, slice_index_or}
use Rattle.std.proofs.lemmas.Bool.{cases_eq, cases_lt}
use Rattle.std.proofs.lemmas.Grind.{get_or-set_at}
use Rattle.std.proofs.lemmas.List.{get_or-set_other}
use Rattle.std.proofs.lemmas.Option.{slice_get_within}
use Rattle.draid_names.specs.declared.arm.Arm.{Arm}
use Rattle.draid_names.specs.declared.arm.ArmAt.{ArmAt}
use Rattle.draid_names.specs.declared.pointer.Pointer.{Pointer}
use Rattle.draid_rack.specs.Rack.{Shape}
use Rattle.draid_machine.specs.After.{misses_stripe}
use Rattle.draid_machine.specs.Arms as arms
use Rattle.draid_machine.specs.Arms.{has_column, passes}
use Rattle.draid_machine.specs.Created.{IsReached}
use Rattle.draid_machine.specs.Images.{Owned}
use Rattle.draid_machine.specs.Names.{has_name, has_number}
use Rattle.draid_machine.specs.State as machine
use Rattle.draid_machine.proofs.Losing.{every_segment}
use Rattle.draid_machine.proofs.Small.{any_at, bool_cases}
use Rattle.draid_slots.specs.Changes.{IsOf}
use Rattle.draid_slots.specs.Marks.{is_marked}
use Rattle.draid_slots.specs.States.{HasSlots, name_of}
use Rattle.draid_slots.specs.Table.{SlotTable, arm_at, arms_of}
use Rattle.draid_shard.specs.Part.{IsPart, IsRun, Part, layout_in}
use Rattle.draid_shard.specs.Rows.{FitsRows, IsRowsOf, answers_on, arm_no, leaf_on}
use Rattle.draid_shard.specs.declared.places.ColumnRows.{ColumnRows}
use Rattle.draid_shard.proofs.Answering.{answers_is, leaf_at_is, listed, name_listed}
use Rattle.draid_shard.proofs.Homes.{lays}
use Rattle.draid_mend.specs.Losing.{AreMissed, AreMissedAmong, IsMarkedBy, IsRowIn, is_missed_on}
use Rattle.draid_mend.specs.Stripes.{AnswerBelow, rows_at}
use Rattle.draid_mend.proofs.Columned.{rows_are}
use Rattle.draid_mend.proofs.Freed.{any_found}
use Rattle.draid_mend.proofs.Lost.{MarkedAmong}

-- ---- one arm

number_any : (xs : List ℕ) (x : ℕ) → list_any (λ y. y == x) xs ≡ has_number xs x
number_any [] x = refl
number_any (y ∷ ys) x = ap (λ b. (y == x) || b) (number_any ys x)

pub missed_silent : (slots : SlotTable) (rows : ColumnRows) (failed : List ℕ) (k : ℕ) → answers_on slots rows k ≡ false → true ≡ is_missed_on slots rows failed k
missed_silent slots rows failed k silent = sym (ap (λ b. not b || passes (leaf_on slots rows k) (has_number failed)) silent)

pub missed_named : (slots : SlotTable) (rows : ColumnRows) (failed : List ℕ) (k leaf : ℕ) → answers_on slots rows k ≡ true → leaf_on slots rows k ≡ Some leaf → list_any (λ y. y == leaf) failed ≡ is_missed_on slots rows failed k
missed_named slots rows failed k leaf answers lies =
    number_any failed leaf ∙ sym (ap₂ (λ b o. not b || passes o (has_number failed)) answers lies)

pub row_in : (shape : Shape) (slots : SlotTable) (rows : ColumnRows) → FitsRows shape slots rows → IsRowIn slots rows
row_in shape slots rows fits = record {
  slot = fits.slot_below;
  slice = fits.slice_below;
  slice_is = fits.slice_is;
  sector = (let some = fits.some in let inside = fits.inside in omega (arith, some, inside));
}

-- ---- the arms of a slot

pub arm_next : (n : ℕ) (p : ℕ → Bool) (marks : List Bool) (r : Bool) → n < length marks → r ≡ p n → ((arm : ℕ) → arm < n → slice_index_or marks arm false ≡ p arm)
    → (arm : ℕ) → arm < n + 1 → slice_index_or (set marks n r) arm false ≡ p arm
arm_next n p marks r inside is below arm less = elim (cases_lt arm n) [
  | inl before ↦ get_or-set_other marks n arm r false (λ e. omega (arith, before, e)) ∙ below arm before
  | inr past ↦ (
      let here : arm ≡ n = omega (arith, past, less) in
      get_or-set_at marks n arm r false here inside ∙ is ∙ ap p (sym here)
      )
]

-- marks of which none is set
pub unmarked : (n slot arm : ℕ) → is_marked (replicate n (false ∷ false ∷ false ∷ [])) slot arm ≡ false
unmarked zero slot arm = refl
unmarked (suc n) zero arm = by arm
  where
    by : (arm : ℕ) → slice_index_or (false ∷ false ∷ false ∷ []) arm false ≡ false
    by zero = refl
    by (suc zero) = refl
    by (suc (suc zero)) = refl
    by (suc (suc (suc arm))) = refl
unmarked (suc n) (suc slot) arm = unmarked n slot arm

-- ---- the slots of the columns

module _ (part : Part) (slots : SlotTable) (pointer : Pointer) (failed : List ℕ) where
  abbrev slot_at : ℕ → ℕ
  slot_at c = (layout_in part).slot_of pointer.first c

  pub missed_none : (slot arm : ℕ) (mark : Bool) → mark ≡ false → IsMarkedBy part slots pointer failed 0 slot arm mark
  missed_none slot arm mark none = inr ((λ c less same. omega (arith, less)), none)

  -- the arms of one more column's slot are marked
  pub missed_next : (n : ℕ) (rows : ColumnRows) → IsRowsOf part pointer n rows → (marks : List (List Bool)) (r : List Bool) → rows.slot < length marks
      → ((arm : ℕ) → arm < length (arms_of slots rows.slot) → slice_index_or r arm false ≡ is_missed_on slots rows failed arm) → AreMissed part slots pointer failed n marks
      → AreMissed part slots pointer failed (n + 1) (set marks rows.slot r)
  missed_next n rows of marks r inside each was slot arm there = elim (cases_eq slot rows.slot) [
    | inl here ↦ (
        let mark : is_marked (set marks rows.slot r) slot arm ≡ slice_index_or r arm false = ap (λ (list : List Bool). slice_index_or list arm false) (get_or-set_at marks rows.slot slot r [] here inside) in
        let missed = each arm (subst (λ s. arm < length (arms_of slots s)) here there) in
        inl (n, omega arith, sym of.slot_is ∙ sym here, mark ∙ missed ∙ ap (λ rows. is_missed_on slots rows failed arm) (rows_are part pointer n rows of))
        )
    | inr other ↦ (
        let mark : is_marked (set marks rows.slot r) slot arm ≡ is_marked marks slot arm = ap (λ (list : List Bool). slice_index_or list arm false) (get_or-set_other marks rows.slot slot r [] (λ e. other e)) in
        elim (was slot arm there) [
          | inl z ↦ inl (z.0, (let less = z.1 in omega (arith, less)), z.2, mark ∙ z.3)
          | inr z ↦ inr (
            (λ c less same. elim (cases_lt c n) [
              | inl before ↦ z.0 c before same
              | inr past ↦ other (sym same ∙ ap slot_at (let e : c ≡ n = omega (arith, past, less) in e) ∙ sym of.slot_is)
            ]),
            mark ∙ z.1,
          )
        ])
  ]

  -- where none is looked for but the targets, those are marked
  pub among : (targets : List ArmAt) (marks : List (List Bool)) (n : ℕ) → AreMissed part slots pointer failed n marks → AreMissedAmong part slots pointer failed n targets marks
  among targets marks n missed k at here there = missed at.slot at.arm there

  -- a column is on a slot, or none is
  column_on : (slot n : ℕ) → ((c : ℕ) × (c < n) × (slot_at c ≡ slot)) ⊎ ((c : ℕ) → c < n → slot_at c ≡ slot → ⊥)
  column_on slot zero = inr (λ c less same. omega (arith, less))
  column_on slot (suc n) = elim (cases_eq (slot_at n) slot) [
    | inl here ↦ inl (n, omega arith, here)
    | inr other ↦ elim (column_on slot n) [
      | inl z ↦ inl (z.0, (let less = z.1 in omega (arith, less)), z.2)
      | inr none ↦ inr (λ c less same. elim (cases_lt c n) [
        | inl before ↦ none c before same
        | inr past ↦ other (ap slot_at (let e : n ≡ c = omega (arith, past, less) in e) ∙ same)
      ])
    ]
  ]

  not_missed : (rows : ColumnRows) (arm : ℕ) → failed ≡ [] → answers_on slots rows arm ≡ true → false ≡ is_missed_on slots rows failed arm
  not_missed rows arm none answers = sym (ap₂ (λ b xs. not b || passes (leaf_on slots rows arm) (has_number xs)) answers none ∙ by (leaf_on slots rows arm))
    where
      by : (o : Option ℕ) → (not true || passes o (has_number [])) ≡ false
      by None = refl
      by (Some leaf) = refl

  -- where each target answers and no call failed, none is to be marked
  pub none_missed : (targets : List ArmAt) (n : ℕ) → failed ≡ [] → AnswerBelow part slots pointer targets n → AreMissedAmong part slots pointer failed n targets []
  none_missed targets n none answer k at here there = elim (column_on at.slot n) [
    | inl z ↦ inl (z.0, z.1, z.2, not_missed (rows_at part pointer z.0) at.arm none (answer z.0 z.1 k at (slice_get_within targets k at here) here (sym z.2)))
    | inr off ↦ inr (off, refl)
  ]

  -- and in each state these are those that miss the stripe
  module _ (is : IsPart part) (of : IsOf slots part.geometry part.perms part.number) (w : machine.State) (reached : IsReached (layout_in part) w) (has : HasSlots slots w.core)
      (run : IsRun part.geometry pointer.first pointer.stripes) where
    abbrev l : machine.Layout
    l = layout_in part

    owned : Owned l w
    owned = every_segment l w (lays part is) reached

    own_rows : (c : ℕ) → IsRowsOf part pointer c (rows_at part pointer c)
    own_rows c = record { slot_is = refl; first_is = refl; count_is = refl; size_is = refl; birth_is = refl; slice_is = refl }

    marked_at : (at : ArmAt) (a : Arm) → arm_at slots at ≡ Some a → (c : ℕ) → c < part.geometry.g → slot_at c ≡ at.slot
        → is_missed_on slots (rows_at part pointer c) failed at.arm ≡ misses_stripe l w.core pointer.first failed (name_of a)
    marked_at at a there c low same =
        let here : arm_at slots (arm_no (rows_at part pointer c) at.arm) ≡ Some a = ap (arm_at slots) (λ i. record { slot = same i; arm = at.arm }) ∙ there in
        let column : has_column l w.core (name_of a) pointer.first ≡ true
        = any_at part.geometry.g (λ d. has_name (w.core.order (slot_at d)) (name_of a)) c low
        (listed part is slots of w reached has pointer run c low (rows_at part pointer c) (own_rows c) at.arm (name_of a) (ap (option_map name_of) here)) in
        sym (ap (λ b. b && (not (arms.answers l w.core (name_of a) pointer.first) || arms.fails l w.core failed (name_of a) pointer.first)) column
        ∙ ap₂ (λ b o. not b || passes o (has_number failed)) (answers_is part is slots of w reached has pointer run c low (rows_at part pointer c) (own_rows c) at.arm a here)
        (leaf_at_is part is slots of w reached has pointer run c low (rows_at part pointer c) (own_rows c) at.arm a here))

    in_order : (at : ArmAt) (a : Arm) → arm_at slots at ≡ Some a → has_name (w.core.order at.slot) (name_of a) ≡ true
    in_order at a there = subst (λ ns. has_name ns (name_of a) ≡ true) (sym (has.order at.slot)) (name_listed (arms_of slots at.slot) at.arm (name_of a) (ap (option_map name_of) there))

    unmarked_at : (at : ArmAt) (a : Arm) → arm_at slots at ≡ Some a → ((c : ℕ) → c < part.geometry.g → slot_at c ≡ at.slot → ⊥) → false ≡ misses_stripe l w.core pointer.first failed (name_of a)
    unmarked_at at a there none = elim (bool_cases (has_column l w.core (name_of a) pointer.first)) [
      | inl on ↦ absurd (let z = any_found part.geometry.g (λ d. has_name (w.core.order (slot_at d)) (name_of a)) on in
          none z.0 z.1 (owned.listed.one (slot_at z.0) at.slot (name_of a) z.2 (in_order at a there)))
      | inr off ↦ sym (ap (λ b. b && (not (arms.answers l w.core (name_of a) pointer.first) || arms.fails l w.core failed (name_of a) pointer.first)) off)
    ]

    pub are_marked : (targets : List ArmAt) (marks : List (List Bool)) → AreMissedAmong part slots pointer failed part.geometry.g targets marks → MarkedAmong slots targets marks (misses_stripe l w.core pointer.first failed)
    are_marked targets marks missed k at a here there = elim (missed k at here (slice_get_within (arms_of slots at.slot) at.arm a there)) [
      | inl z ↦ z.3 ∙ marked_at at a there z.0 z.1 z.2
      | inr z ↦ z.1 ∙ unmarked_at at a there z.0
    ]
