-- The columns of a stripe once the lost ones are solved.
use Rattle.std.proofs.Common.{◌≡◌, ◌≢◌, ℕ, zero, suc, ◌<◌, ◌∙◌, Bool, true, false, List, length, get_or, refl, sym, ap, subst, arith}
use Rattle.std.specs.Prelude.{Contains}
use Rattle.std.proofs.lemmas.List.{get_or_default}
use Rattle.draid_parity.specs.Columns.{AreColumns, IsColumn, column_at, is_missing}
use Rattle.draid_parity.proofs.Missing.{contains-from_test, test-from_contains}

pub not_lost : (lost : List ℕ) (n i : ℕ) → n < length lost → (Contains lost i → ⊥) → i ≢ get_or lost n 0
not_lost lost n i below absent = λ e. absent (n, below, get_or_default lost n i 0 below ∙ sym e)

-- what is a column at each place of a list of lost ones is one at each lost one
by_place : (len : ℕ) (lost : List ℕ) (new : List (List ℕ)) → ((n : ℕ) → n < length lost → IsColumn len (column_at new (get_or lost n 0)))
    → (i : ℕ) → Contains lost i → IsColumn len (column_at new i)
by_place len lost new each i found =
    subst (λ m. IsColumn len (column_at new m)) (get_or_default lost found.0 0 i found.1 ∙ found.2) (each found.0 found.1)

pub solved_one : (len : ℕ) (lost : List ℕ) (new : List (List ℕ)) → length lost < 2 → IsColumn len (column_at new (get_or lost 0 0))
    → (i : ℕ) → Contains lost i → IsColumn len (column_at new i)
solved_one len lost new few first = by_place len lost new places
  where
    places : (n : ℕ) → n < length lost → IsColumn len (column_at new (get_or lost n 0))
    places zero below = first
    places (suc n) below = absurd (omega arith)

pub solved_two : (len : ℕ) (lost : List ℕ) (new : List (List ℕ)) → length lost < 3 → IsColumn len (column_at new (get_or lost 0 0))
    → IsColumn len (column_at new (get_or lost 1 0)) → (i : ℕ) → Contains lost i → IsColumn len (column_at new i)
solved_two len lost new few first second = by_place len lost new places
  where
    places : (n : ℕ) → n < length lost → IsColumn len (column_at new (get_or lost n 0))
    places zero below = first
    places (suc zero) below = second
    places (suc (suc n)) below = absurd (omega arith)

pub solved_three : (len : ℕ) (lost : List ℕ) (new : List (List ℕ)) → length lost < 4 → IsColumn len (column_at new (get_or lost 0 0))
    → IsColumn len (column_at new (get_or lost 1 0)) → IsColumn len (column_at new (get_or lost 2 0)) → (i : ℕ) → Contains lost i → IsColumn len (column_at new i)
solved_three len lost new few first second third = by_place len lost new places
  where
    places : (n : ℕ) → n < length lost → IsColumn len (column_at new (get_or lost n 0))
    places zero below = first
    places (suc zero) below = second
    places (suc (suc zero)) below = third
    places (suc (suc (suc n))) below = absurd (omega arith)

-- all columns stay as long as they are
pub columns_solved : (len : ℕ) (lost : List ℕ) (old new : List (List ℕ)) → length new ≡ length old → AreColumns len old
    → ((i : ℕ) → (Contains lost i → ⊥) → column_at new i ≡ column_at old i) → ((i : ℕ) → Contains lost i → IsColumn len (column_at new i)) → AreColumns len new
columns_solved len lost old new count long stays solved i below = cases (is_missing lost i) refl
  where
    cases : (b : Bool) → is_missing lost i ≡ b → length (column_at new i) ≡ len
    cases true e = (solved i (contains-from_test lost i e)).whole
    cases false e = ap length (stays i (λ found. let there = test-from_contains lost i found in cc)) ∙ long i (omega arith)
