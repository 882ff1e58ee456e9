-- How a rebuild reads the columns of a stripe.
use Rattle.std.specs.Prelude.{◌≡◌, ◌+◌, ◌≤◌, ◌++◌, ◌∷◌, [], ℕ, true, List, Option, Some, length, slice_get, vec_capacity}
use Rattle.draid_names.specs.Faults.{Rose}
use Rattle.draid_names.specs.declared.pointer.Pointer.{Pointer}
use Rattle.draid_columns.specs.Columns.{RowsStand}
use Rattle.draid_machine.specs.Names.{has_number}
use Rattle.draid_parity.specs.Columns.{column_at}
use Rattle.draid_rack.specs.Rack.{OnTold, Told}
use Rattle.draid_slots.specs.Table.{SlotTable, arms_of}
use Rattle.draid_shard.specs.Part.{Part}
use Rattle.draid_shard.specs.Rows.{IsRowsOf, leaf_on, rows_on}
use Rattle.draid_shard.specs.declared.places.ColumnRows.{ColumnRows}
use Rattle.draid_mend.specs.Sources.{IsSourceOf, NoSource}
use Rattle.draid_spec.specs.declared.layout.Geometry.{Geometry}
use Rattle.draid_mend.specs.declared.lending.Readings.{Readings}
use Rattle.draid_mend.specs.declared.reading.Taken.{Taken}
use Rattle.draid_mend.specs.declared.reading.Taken.TheVariants.{Nowhere, Failed, From}

-- the source of a column is this arm of its slot, and it keeps the rows on this leaf
pub record IsSourceOn (slots : SlotTable) (rows : ColumnRows) (arm leaf : ℕ) : Type 0 where
  pub is : IsSourceOf slots rows.slot rows.slice (length (arms_of slots rows.slot)) arm
  pub on : leaf_on slots rows arm ≡ Some leaf

-- what became of the reading of a column: it has no source, its source's leaf failed, or these bytes are what it reads there
abbrev pub Takes : SlotTable → ColumnRows → Taken → Option Told → List ℕ → Type 0
Takes slots rows Nowhere told bytes = NoSource slots rows.slot rows.slice (length (arms_of slots rows.slot))
Takes slots rows (Failed leaf) told bytes = (arm : ℕ) × IsSourceOn slots rows arm leaf
Takes slots rows (From arm leaf) told bytes = IsSourceOn slots rows arm leaf × OnTold told (λ x. RowsStand (rows_on rows leaf) x.reads bytes rows.count)

-- no count falls, and that of the leaf rose on which a call failed
pub record CountsTaken (taken : Taken) (old new : Option ℕ → ℕ) : Type 0 where
  pub later : (who : Option ℕ) → old who ≤ new who
  pub cause : (leaf : ℕ) → taken ≡ Failed leaf → Rose (old (Some leaf)) (new (Some leaf))

-- one sector of a column was taken so
pub record TakesAt (part : Part) (slots : SlotTable) (pointer : Pointer) (c : ℕ) (taken : Taken) (told : Option Told) (bytes : List ℕ) : Type 0 where
  pub rows : ColumnRows
  pub of : IsRowsOf part pointer c rows
  pub takes : Takes slots rows taken told bytes
  pub long : length bytes ≡ part.geometry.props.sector

-- The first so many columns of a stripe were read, each from its source, and just the leaves are listed on which calls failed.
pub record ReadsStripe (part : Part) (slots : SlotTable) (pointer : Pointer) (count : ℕ) (told : Option Told) (columns : List (List ℕ)) (taken : List Taken) (failed : List ℕ) : Type 0 where
  pub many : length taken ≡ count
  pub each : (c : ℕ) (t : Taken) → slice_get taken c ≡ Some t → TakesAt part slots pointer c t told (column_at columns c)
  pub listed : (c leaf : ℕ) → slice_get taken c ≡ Some (Failed leaf) → has_number failed leaf ≡ true
  pub fail : (leaf : ℕ) → has_number failed leaf ≡ true → (c : ℕ) × (slice_get taken c ≡ Some (Failed leaf))
  pub few : length failed ≤ count

-- the leaves that failed, with the one that did now
abbrev pub failed_with : Taken → List ℕ → List ℕ
failed_with Nowhere failed = failed
failed_with (Failed leaf) failed = failed ++ leaf ∷ []
failed_with (From arm leaf) failed = failed

-- room for one sector of each column of a layout, for the arms from which they are taken, and for the leaves that fail
pub record HasRoomFor (geometry : Geometry) (lent : Readings) : Type 0 where
  pub parity : lent.columns.parity ≡ geometry.spec.parity
  pub ndata : lent.columns.ndata ≡ geometry.spec.ndata
  pub len : lent.columns.len ≡ geometry.props.sector
  pub count : length lent.columns.columns ≡ geometry.spec.parity + geometry.spec.ndata
  pub chosen : geometry.g ≤ vec_capacity lent.chosen
  pub failed : geometry.g ≤ vec_capacity lent.failed
