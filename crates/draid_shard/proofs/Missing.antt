-- The arms of a block's slots that miss it.
use Rattle.std.proofs.Common.{◌≡◌, ◌==◌, ◌+◌, ◌<◌, ◌||◌, not, ◌∙◌, ℕ, zero, suc, Bool, true, false, List, [], ◌∷◌, Some, refl, replicate, arith, sym, ap, ap₂, subst, inl, inr, length, set}
use Rattle.std.specs.List.{list_any}
use Rattle.std.specs.Prelude.{slice_index_or}
use Rattle.std.proofs.lemmas.Bool.{cases_eq, cases_lt}
use Rattle.std.proofs.lemmas.Grind.{get_or-set_at}
use Rattle.std.proofs.lemmas.List.{get_or-set_other}
use Rattle.draid_names.specs.declared.pointer.Pointer.{Pointer}
use Rattle.draid_rack.specs.Rack.{Shape}
use Rattle.draid_machine.specs.Arms.{passes}
use Rattle.draid_machine.specs.Names.{has_number}
use Rattle.draid_spec.specs.Geometry.{slice_at}
use Rattle.draid_slots.specs.Marks.{is_marked}
use Rattle.draid_slots.specs.Table.{SlotTable, arms_of}
use Rattle.draid_shard.specs.Part.{Part, layout_in}
use Rattle.draid_shard.specs.Rows.{FitsRows, IsRowsOf, answers_on, leaf_on}
use Rattle.draid_shard.specs.declared.places.ColumnRows.{ColumnRows}
use Rattle.draid_shard.specs.Losing.{AreMissed, IsMarkedBy, IsRowIn, is_missed_on}
use Rattle.draid_shard.specs.Spots.{rows_at}

pub rows_are : (part : Part) (pointer : Pointer) (c : ℕ) (rows : ColumnRows) → IsRowsOf part pointer c rows → rows ≡ rows_at part pointer c
rows_are part pointer c rows of = λ i. record {
  slot = of.slot_is i;
  slice = (of.slice_is ∙ ap (slice_at part.geometry) of.first_is) i;
  first = of.first_is i;
  count = of.count_is i;
  size = of.size_is i;
  birth = of.birth_is i;
}

-- ---- one arm

pub number_any : (xs : List ℕ) (x : ℕ) → list_any (λ y. y == x) xs ≡ has_number xs x
number_any [] x = refl
number_any (y ∷ ys) x = ap (λ b. (y == x) || b) (number_any ys x)

pub missed_silent : (slots : SlotTable) (rows : ColumnRows) (failed : List ℕ) (k : ℕ) → answers_on slots rows k ≡ false → true ≡ is_missed_on slots rows failed k
missed_silent slots rows failed k silent = sym (ap (λ b. not b || passes (leaf_on slots rows k) (has_number failed)) silent)

pub missed_named : (slots : SlotTable) (rows : ColumnRows) (failed : List ℕ) (k leaf : ℕ) → answers_on slots rows k ≡ true → leaf_on slots rows k ≡ Some leaf → has_number failed leaf ≡ is_missed_on slots rows failed k
missed_named slots rows failed k leaf answers lies =
    sym (ap₂ (λ b o. not b || passes o (has_number failed)) answers lies)

pub row_in : (shape : Shape) (slots : SlotTable) (rows : ColumnRows) → FitsRows shape slots rows → IsRowIn slots rows
row_in shape slots rows fits = record {
  slot = fits.slot_below;
  slice = fits.slice_below;
  slice_is = fits.slice_is;
  sector = (let some = fits.some in let inside = fits.inside in omega (arith, some, inside));
}

-- ---- the arms of a slot

pub arm_next : (n : ℕ) (p : ℕ → Bool) (marks : List Bool) (r : Bool) → n < length marks → r ≡ p n → ((arm : ℕ) → arm < n → slice_index_or marks arm false ≡ p arm)
    → (arm : ℕ) → arm < n + 1 → slice_index_or (set marks n r) arm false ≡ p arm
arm_next n p marks r inside is below arm less = elim (cases_lt arm n) [
  | inl before ↦ get_or-set_other marks n arm r false (λ e. omega (arith, before, e)) ∙ below arm before
  | inr past ↦ (
      let here : arm ≡ n = omega (arith, past, less) in
      get_or-set_at marks n arm r false here inside ∙ is ∙ ap p (sym here)
      )
]

-- marks of which none is set
pub unmarked : (n slot arm : ℕ) → is_marked (replicate n (false ∷ false ∷ false ∷ [])) slot arm ≡ false
unmarked zero slot arm = refl
unmarked (suc n) zero arm = by arm
  where
    by : (arm : ℕ) → slice_index_or (false ∷ false ∷ false ∷ []) arm false ≡ false
    by zero = refl
    by (suc zero) = refl
    by (suc (suc zero)) = refl
    by (suc (suc (suc arm))) = refl
unmarked (suc n) (suc slot) arm = unmarked n slot arm

-- ---- the slots of the columns

module _ (part : Part) (slots : SlotTable) (pointer : Pointer) (failed : List ℕ) where
  abbrev slot_at : ℕ → ℕ
  slot_at c = (layout_in part).slot_of pointer.first c

  pub missed_none : (slot arm : ℕ) (mark : Bool) → mark ≡ false → IsMarkedBy part slots pointer failed 0 slot arm mark
  missed_none slot arm mark none = inr ((λ c less same. omega (arith, less)), none)

  -- the arms of one more column's slot are marked
  pub missed_next : (n : ℕ) (rows : ColumnRows) → IsRowsOf part pointer n rows → (marks : List (List Bool)) (r : List Bool) → rows.slot < length marks
      → ((arm : ℕ) → arm < length (arms_of slots rows.slot) → slice_index_or r arm false ≡ is_missed_on slots rows failed arm) → AreMissed part slots pointer failed n marks
      → AreMissed part slots pointer failed (n + 1) (set marks rows.slot r)
  missed_next n rows of marks r inside each was slot arm there = elim (cases_eq slot rows.slot) [
    | inl here ↦ (
        let mark : is_marked (set marks rows.slot r) slot arm ≡ slice_index_or r arm false = ap (λ (list : List Bool). slice_index_or list arm false) (get_or-set_at marks rows.slot slot r [] here inside) in
        let missed = each arm (subst (λ s. arm < length (arms_of slots s)) here there) in
        inl (n, omega arith, sym of.slot_is ∙ sym here, mark ∙ missed ∙ ap (λ rows. is_missed_on slots rows failed arm) (rows_are part pointer n rows of))
        )
    | inr other ↦ (
        let mark : is_marked (set marks rows.slot r) slot arm ≡ is_marked marks slot arm = ap (λ (list : List Bool). slice_index_or list arm false) (get_or-set_other marks rows.slot slot r [] (λ e. other e)) in
        elim (was slot arm there) [
          | inl z ↦ inl (z.0, (let less = z.1 in omega (arith, less)), z.2, mark ∙ z.3)
          | inr z ↦ inr (
            (λ c less same. elim (cases_lt c n) [
              | inl before ↦ z.0 c before same
              | inr past ↦ other (sym same ∙ ap slot_at (let e : c ≡ n = omega (arith, past, less) in e) ∙ sym of.slot_is)
            ]),
            mark ∙ z.1,
          )
        ])
  ]
