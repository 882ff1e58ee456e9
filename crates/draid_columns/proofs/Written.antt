-- Rows of a column are written one after another.
use Rattle.std.proofs.Common.{arith, ◌≡◌, ◌+◌, ◌-◌, ◌*◌, ◌<◌, ◌≤◌, ℕ, false, List, Option, Some, None, MatchOption, option_map, refl, ap, ◌∙◌, inl, inr, take, drop, Result, Ok, Err, OnErr}
use Rattle.std.proofs.Math.Nat.{mul-le-mul_right}
use Rattle.std.proofs.lemmas.Bool.{cases_lt}
use Rattle.std.proofs.lemmas.Bool.Decides.{nat_tests}
use Rattle.draid_rack.specs.Moments.{Leaves, LeavesTold}
use Rattle.draid_rack.specs.Rack.{Fits, Shape, Told, lands, OnBothTold}
use Rattle.draid_rack.proofs.Moments.{leaves_lands, leaves_more, leaves_on, leaves_self}
use Rattle.draid_columns.specs.declared.rows.Rows.{Rows}
use Rattle.draid_columns.specs.Columns.{HasRows, RowsStand, WritesRows, in_first, in_rows, row_of}

-- a row is a sector of the leaf
pub row_fits : (shape : Shape) (rows : Rows) (row n : ℕ) → HasRows shape rows → row < rows.count → n ≡ rows.size → Fits shape rows.leaf (rows.first + row) n
row_fits shape rows row n has below is = record { there = there (shape.leaves rows.leaf) has.there; whole = is ∙ has.whole }
  where
    there : (o : Option ℕ) → MatchOption o ⊥ (λ s. rows.first + rows.count ≤ s) → MatchOption o ⊥ (λ s. rows.first + row < s)
    there None h = h
    there (Some s) h = omega (arith, h, below)

pub rows_kept : (shape now : Shape) (rows : Rows) → now ≡ shape → HasRows shape rows → HasRows now rows
rows_kept shape now rows same has = rw same has

-- a row lies within its column
pub row_within : (rows : Rows) (row n : ℕ) → row < rows.count → n ≡ rows.count * rows.size → row * rows.size + rows.size ≤ n
row_within rows row n less is =
    let up : (row + 1) * rows.size ≤ rows.count * rows.size = mul-le-mul_right rows.size (omega (arith, less)) in
    let next : (row + 1) * rows.size ≡ row * rows.size + rows.size = grind arith in
    omega (arith, up, next, is)

-- the part of a column that is written
pub part_is : (rows : Rows) (column bytes : List ℕ) (at row : ℕ) → at ≡ row * rows.size → bytes ≡ take (at + rows.size - at) (drop at column) → bytes ≡ row_of rows column row
part_is rows column bytes at row is e = let n : at + rows.size - at ≡ rows.size = omega arith in e ∙ rw (n, is) refl

module _ (rows : Rows) (column : List ℕ) where
  none_written : (x : Told) → WritesRows rows column 0 0 x x
  none_written x = record {
    stand = λ row less. absurd (omega (arith, less));
    whole = λ row less. absurd (omega (arith, less));
    leaves = leaves_self (in_first rows 0) x;
  }

  next_whole : (row : ℕ) (bytes : List ℕ) (x y : Told) → WritesRows rows column row row x y → (j : ℕ) → j < row + 1
      → (lands rows.leaf (rows.first + row) bytes false y).harmed rows.leaf (rows.first + j) ≡ false
  next_whole row bytes x y h j less = elim (cases_lt j row) [
    | inl lower ↦ (let was = h.whole j lower in grind (arith, nat_tests, was))
    | inr same ↦ (let i : j ≡ row = omega (arith, same, less) in grind (arith, nat_tests, i))
  ]

  next_leaves : (row : ℕ) (bytes : List ℕ) (x y : Told) → WritesRows rows column row row x y → Leaves (in_first rows (row + 1)) x (lands rows.leaf (rows.first + row) bytes false y)
  next_leaves row bytes x y h =
      leaves_on (in_first rows (row + 1)) x y (lands rows.leaf (rows.first + row) bytes false y)
      (leaves_more (in_first rows row) (in_first rows (row + 1)) x y (λ l s e. grind (arith, nat_tests, e)) h.leaves)
      (leaves_lands (in_first rows (row + 1)) rows.leaf (rows.first + row) bytes false y (grind (arith, nat_tests)))

  before_stand : (row : ℕ) (bytes : List ℕ) (x y : Told) → WritesRows rows column row row x y → RowsStand rows (lands rows.leaf (rows.first + row) bytes false y).reads column row
  before_stand row bytes x y h j less = let was = h.stand j less in grind (arith, nat_tests, was, less)

  next_stand : (row : ℕ) (bytes : List ℕ) (x y : Told) → WritesRows rows column row row x y → bytes ≡ row_of rows column row
      → RowsStand rows (lands rows.leaf (rows.first + row) bytes false y).reads column (row + 1)
  next_stand row bytes x y h e j less = elim (cases_lt j row) [
    | inl lower ↦ before_stand row bytes x y h j lower
    | inr same ↦ (let i : j ≡ row = omega (arith, same, less) in grind (arith, nat_tests, e, i))
  ]

  pub told_none : (o : Option Told) → OnBothTold o o (WritesRows rows column 0 0)
  told_none None = refl
  told_none (Some x) = none_written x

  pub told_tried : (row : ℕ) (bytes : List ℕ) (o p : Option Told) → OnBothTold o p (WritesRows rows column row row)
      → OnBothTold o (option_map (λ x. lands rows.leaf (rows.first + row) bytes false x) p) (WritesRows rows column row (row + 1))
  told_tried row bytes None p h = ap (option_map (λ x. lands rows.leaf (rows.first + row) bytes false x)) h
  told_tried row bytes (Some x) None h = absurd h
  told_tried row bytes (Some x) (Some y) h = record { stand = before_stand row bytes x y h; whole = next_whole row bytes x y h; leaves = next_leaves row bytes x y h }

  pub told_written : (row : ℕ) (bytes : List ℕ) (o p : Option Told) → OnBothTold o p (WritesRows rows column row row) → bytes ≡ row_of rows column row
      → OnBothTold o (option_map (λ x. lands rows.leaf (rows.first + row) bytes false x) p) (WritesRows rows column (row + 1) (row + 1))
  told_written row bytes None p h e = ap (option_map (λ x. lands rows.leaf (rows.first + row) bytes false x)) h
  told_written row bytes (Some x) None h e = absurd h
  told_written row bytes (Some x) (Some y) h e = record { stand = next_stand row bytes x y h e; whole = next_whole row bytes x y h; leaves = next_leaves row bytes x y h }

  pub told_leaves : (written tried : ℕ) (o p : Option Told) → tried ≤ rows.count → OnBothTold o p (WritesRows rows column written tried) → LeavesTold (in_rows rows) o p
  told_leaves written tried None p few h = h
  told_leaves written tried (Some x) None few h = h
  told_leaves written tried (Some x) (Some y) few h = leaves_more (in_first rows tried) (in_rows rows) x y (λ l s e. grind (arith, nat_tests, e, few)) h.leaves

pub on_err : {T E P : Type 0} (r : Result T E) → P → OnErr r P
on_err (Ok v) p = tt
on_err (Err e) p = p
