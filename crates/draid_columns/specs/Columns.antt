-- Rows of a column on one leaf.
use Rattle.std.specs.Prelude.{◌≡◌, ◌==◌, ◌<◌, ◌≤◌, ◌+◌, ◌*◌, ◌^◌, ◌&&◌, ℕ, Bool, false, nat_le, nat_lt, List, Option, Some, None, MatchOption, take, drop}
use Rattle.draid_rack.specs.Moments.{Leaves}
use Rattle.draid_rack.specs.Rack.{Shape, Told, OnBothTold}
use Rattle.draid_columns.specs.declared.rows.Rows.{Rows}

-- the bytes of a row of a column
abbrev pub row_of : Rows → List ℕ → ℕ → List ℕ
row_of rows column row = take rows.size (drop (row * rows.size) column)

-- the sectors of the first so many rows, and of all
abbrev pub in_first : Rows → ℕ → ℕ → ℕ → Bool
in_first rows count leaf sector = (leaf == rows.leaf) && (nat_le rows.first sector && nat_lt sector (rows.first + count))

abbrev pub in_rows : Rows → ℕ → ℕ → Bool
in_rows rows leaf sector = in_first rows rows.count leaf sector

-- the rack has all rows, each of a sector's length
pub record HasRows (shape : Shape) (rows : Rows) : Type 0 where
  pub there : MatchOption (shape.leaves rows.leaf) ⊥ (λ sectors. rows.first + rows.count ≤ sectors)
  pub whole : rows.size ≡ shape.bytes
  pub low : rows.first + rows.count < 2 ^ 64

-- what the first so many rows read is a column's
abbrev pub RowsStand : Rows → (ℕ → ℕ → Option (List ℕ)) → List ℕ → ℕ → Type 0
RowsStand rows reads column count = (row : ℕ) → row < count → reads rows.leaf (rows.first + row) ≡ Some (row_of rows column row)

-- Some rows of a column were tried, one after another, and some of these were written. The written ones read as the column's, no tried one is harmed, and
-- all else is as it was.
pub record WritesRows (rows : Rows) (column : List ℕ) (written tried : ℕ) (x y : Told) : Type 0 where
  pub stand : RowsStand rows y.reads column written
  pub whole : (row : ℕ) → row < tried → y.harmed rows.leaf (rows.first + row) ≡ false
  pub leaves : Leaves (in_first rows tried) x y

-- a row failed, and those before it were written
abbrev pub StopsAtRow : Rows → List ℕ → Option Told → Option Told → Type 0
StopsAtRow rows column old new = (row : ℕ) × (row < rows.count) × OnBothTold old new (WritesRows rows column row (row + 1))
