-- How the columns of a block are read.
use Rattle.std.specs.Prelude.{◌≡◌, ◌<◌, ◌≤◌, ◌*◌, ◌⊎◌, ◌++◌, ◌∷◌, [], ℕ, true, List, Option, Some, None, length, slice_get}
use Rattle.std.specs.declared.alloc.Global.{Global}
use Rattle.std.specs.declared.vec.Vec.{Vec}
use Rattle.draid_names.specs.declared.pointer.Pointer.{Pointer}
use Rattle.draid_rack.specs.Rack.{OnTold, Told}
use Rattle.draid_columns.specs.Columns.{RowsStand}
use Rattle.draid_machine.specs.Names.{has_number}
use Rattle.draid_slots.specs.Table.{SlotTable}
use Rattle.draid_shard.specs.Part.{Part}
use Rattle.draid_shard.specs.Rows.{IsReadOn, IsRowsOf, IsSilent, rows_on}
use Rattle.draid_blocks.specs.declared.outcome.Outcome.{Outcome}
use Rattle.draid_blocks.specs.declared.outcome.Outcome.TheVariants.{Done, Failed, Silent}
use Rattle.draid_shard.specs.declared.places.ColumnRows.{ColumnRows}

-- what became of the reading of a column
abbrev pub ReadsOn : SlotTable → ColumnRows → Outcome → Option Told → List ℕ → Type 0
ReadsOn slots rows Silent told bytes = IsSilent slots rows
ReadsOn slots rows (Failed leaf) told bytes = IsReadOn slots rows leaf
ReadsOn slots rows Done told bytes =
    (leaf : ℕ) × IsReadOn slots rows leaf × OnTold told (λ x. RowsStand (rows_on rows leaf) x.reads bytes rows.count)

-- the same of the column of a number
pub record IsSilentAt (part : Part) (slots : SlotTable) (pointer : Pointer) (c : ℕ) : Type 0 where
  pub rows : ColumnRows
  pub of : IsRowsOf part pointer c rows
  pub silent : IsSilent slots rows

pub record IsReadAt (part : Part) (slots : SlotTable) (pointer : Pointer) (c leaf : ℕ) : Type 0 where
  pub rows : ColumnRows
  pub of : IsRowsOf part pointer c rows
  pub on : IsReadOn slots rows leaf

pub record StandsAt (part : Part) (slots : SlotTable) (pointer : Pointer) (c : ℕ) (told : Option Told) (bytes : List ℕ) : Type 0 where
  pub rows : ColumnRows
  pub of : IsRowsOf part pointer c rows
  pub leaf : ℕ
  pub on : IsReadOn slots rows leaf
  pub stand : OnTold told (λ x. RowsStand (rows_on rows leaf) x.reads bytes rows.count)

abbrev pub Columns : Type 0
Columns = List (Option (Vec ℕ Global))

-- each column that is there has this length
abbrev pub AreLong : Columns → ℕ → Type 0
AreLong columns len = (c : ℕ) (bytes : Vec ℕ Global) → slice_get columns c ≡ Some (Some bytes) → length bytes.items ≡ len

-- each column is there, and has this length
abbrev pub AreWhole : Columns → ℕ → Type 0
AreWhole columns len = (c : ℕ) → c < length columns → (bytes : Vec ℕ Global) × (slice_get columns c ≡ Some (Some bytes)) × (length bytes.items ≡ len)

-- The first so many columns were read. Each is what its arm reads, or is absent because no arm answers or a call failed on that arm's leaf; and calls
-- failed on no other leaf.
pub record ReadsColumns (part : Part) (slots : SlotTable) (pointer : Pointer) (count : ℕ) (told : Option Told) (columns : Columns) (failed : List ℕ) : Type 0 where
  pub all : length columns ≡ part.geometry.g
  pub long : AreLong columns (pointer.stripes * part.geometry.props.sector)
  pub rest : (c : ℕ) → count ≤ c → slice_get columns c ≡ Some None → ⊥
  pub stand : (c : ℕ) (bytes : Vec ℕ Global) → c < count → slice_get columns c ≡ Some (Some bytes) → StandsAt part slots pointer c told bytes.items
  pub absent : (c : ℕ) → c < count → slice_get columns c ≡ Some None
      → IsSilentAt part slots pointer c ⊎ ((leaf : ℕ) × IsReadAt part slots pointer c leaf × (has_number failed leaf ≡ true))
  pub fail : (leaf : ℕ) → has_number failed leaf ≡ true → (c : ℕ) × (c < count) × (slice_get columns c ≡ Some None) × IsReadAt part slots pointer c leaf
  pub few : length failed ≤ count

-- ---- one column

-- a place has another column, or none
pub record Replaces (old new : Columns) (c : ℕ) (column : Option (Vec ℕ Global)) : Type 0 where
  pub all : length new ≡ length old
  pub here : slice_get new c ≡ Some column
  pub others : (k : ℕ) → (k ≡ c → ⊥) → slice_get new k ≡ slice_get old k

-- what is at its place, and which leaves are named, after it was read so
abbrev pub column_after : Outcome → Vec ℕ Global → Option (Vec ℕ Global)
column_after Silent bytes = None
column_after (Failed leaf) bytes = None
column_after Done bytes = Some bytes

abbrev pub failed_after : Outcome → List ℕ → List ℕ
failed_after Silent failed = failed
failed_after (Failed leaf) failed = failed ++ leaf ∷ []
failed_after Done failed = failed
