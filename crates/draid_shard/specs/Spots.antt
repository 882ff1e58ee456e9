-- Just the arms of a pointer's block that answer: in a state, on a rack, and by the slots.
use Rattle.std.specs.Prelude.{◌≡◌, ◌<◌, ◌+◌, ◌++◌, ◌∷◌, [], not, ℕ, zero, suc, Bool, true, false, List, Option, None, Some, if◌then◌else◌, slice_get}
use Rattle.draid_names.specs.declared.arm.Arm.{Arm}
use Rattle.draid_names.specs.declared.pointer.Pointer.{Pointer}
use Rattle.draid_spec.specs.Geometry.{metaslab_sectors, slice_at}
use Rattle.draid_rack.specs.Rack.{Shape}
use Rattle.draid_rack.specs.declared.Rack.{Ghosts}
use Rattle.draid_columns.specs.Columns.{HasRows}
use Rattle.draid_columns.specs.declared.rows.Rows.{Rows}
use Rattle.draid_machine.specs.Arms.{answers, is_clean, leaf_answers, leaf_at}
use Rattle.draid_machine.specs.Names.{has_name}
use Rattle.draid_machine.specs.State as machine
use Rattle.draid_machine.specs.declared.names.ArmName.{ArmName}
use Rattle.draid_machine.specs.declared.names.Held.{Held}
use Rattle.draid_slots.specs.Changes.{IsOf}
use Rattle.draid_slots.specs.Reading.{holder}
use Rattle.draid_slots.specs.States.{name_of}
use Rattle.draid_slots.specs.Table.{IsThere, SlotTable, arm_at, arms_of, is_logged}
use Rattle.draid_shard.specs.Fits.{HasLeaves, NamesOnce}
use Rattle.draid_shard.specs.Part.{IsPart, Part, layout_in}
use Rattle.draid_shard.specs.Rows.{answers_on, arm_no, leaf_on, name_on}
use Rattle.draid_shard.specs.States.{part_of}
use Rattle.draid_shard.specs.declared.loan.Spot.{Spot}
use Rattle.draid_shard.specs.declared.places.ColumnRows.{ColumnRows}
use Rattle.draid_shard.specs.declared.shard.Shard.{Shard}

-- ---- in a state

-- an arm of a block that answers, where the block's column begins there
pub record IsSpot (l : machine.Layout) (q : machine.Core) (h : Held) (spot : Spot) : Type 0 where
  pub column : spot.column < l.columns
  pub listed : has_name (q.order (l.slot_of h.first spot.column)) spot.arm ≡ true
  pub lies : leaf_at l q.order spot.arm h.first ≡ Some spot.leaf
  pub answers : leaf_answers q spot.leaf ≡ true
  pub clean : spot.clean ≡ is_clean q h.birth spot.arm
  pub first : spot.first ≡ l.sector_of h.first spot.column

-- an arm is among them
pub record HasSpot (spots : List Spot) (c : ℕ) (n : ArmName) : Type 0 where
  pub k : ℕ
  pub spot : Spot
  pub there : slice_get spots k ≡ Some spot
  pub column_is : spot.column ≡ c
  pub arm_is : spot.arm ≡ n

-- no two lie on one leaf
abbrev pub AreLeavesApart : List Spot → Type 0
AreLeavesApart spots = (j k : ℕ) (a b : Spot) → slice_get spots j ≡ Some a → slice_get spots k ≡ Some b → a.leaf ≡ b.leaf → j ≡ k

-- just the arms of the block that answer, no two on one leaf
pub record AreSpots (l : machine.Layout) (q : machine.Core) (h : Held) (spots : List Spot) : Type 0 where
  pub each : (k : ℕ) (spot : Spot) → slice_get spots k ≡ Some spot → IsSpot l q h spot
  pub all : (c : ℕ) (n : ArmName) → c < l.columns → has_name (q.order (l.slot_of h.first c)) n ≡ true → answers l q n h.first ≡ true → HasSpot spots c n
  pub apart : AreLeavesApart spots

-- the rows of a block follow one another on each leaf
pub record IsStraight (l : machine.Layout) (q : machine.Core) (h : Held) : Type 0 where
  pub sectors : (c row : ℕ) → row < h.stripes → l.sector_of (h.first + row) c ≡ l.sector_of h.first c + row
  pub leaves : (n : ArmName) (row : ℕ) → row < h.stripes → leaf_at l q.order n (h.first + row) ≡ leaf_at l q.order n h.first

-- ---- on a rack

-- the rows of a column on an arm
abbrev pub rows_for : ℕ → ℕ → Spot → Rows
rows_for count size spot = record { leaf = spot.leaf; first = spot.first; count = count; size = size }

-- each is of a column of the block, its leaf has the rows, and no two lie on one leaf
pub record FitSpots (shape : Shape) (count size columns : ℕ) (spots : List Spot) : Type 0 where
  pub there : (k : ℕ) (spot : Spot) → slice_get spots k ≡ Some spot → HasRows shape (rows_for count size spot)
  pub column : (k : ℕ) (spot : Spot) → slice_get spots k ≡ Some spot → spot.column < columns
  pub apart : AreLeavesApart spots

-- ---- by the slots

-- the slots are those of the metaslab, no two arms have one name, and the rack has their leaves
pub record IsLaid {R A : Type 0} (rack : Ghosts R) (shard : Shard R A) : Type 0 where
  pub part : IsPart (part_of shard)
  pub slots : IsOf shard.slots shard.geometry shard.perms shard.number
  pub once : NamesOnce shard.slots
  pub leaves : HasLeaves (rack.shape shard.rack) shard.geometry shard.slots

-- the rows of a column
abbrev pub rows_at : Part → Pointer → ℕ → ColumnRows
rows_at part pointer c = record {
  slot = (layout_in part).slot_of pointer.first c;
  slice = slice_at part.geometry ((layout_in part).sector_of pointer.first c);
  first = (layout_in part).sector_of pointer.first c;
  count = pointer.stripes;
  size = part.geometry.props.sector;
  birth = pointer.birth;
}

module _ (part : Part) (slots : SlotTable) (pointer : Pointer) where
  -- an arm of a column's slot answers, and keeps the column there
  pub record SpotOn (spot : Spot) : Type 0 where
    pub k : ℕ
    pub arm : Arm
    pub column : spot.column < part.geometry.g
    pub there : arm_at slots (arm_no (rows_at part pointer spot.column) k) ≡ Some arm
    pub arm_is : name_of arm ≡ spot.arm
    pub lies : leaf_on slots (rows_at part pointer spot.column) k ≡ Some spot.leaf
    pub answers : answers_on slots (rows_at part pointer spot.column) k ≡ true
    pub clean : spot.clean ≡ not (is_logged slots (arm_no (rows_at part pointer spot.column) k) pointer.birth)
    pub first : spot.first ≡ (layout_in part).sector_of pointer.first spot.column

  -- just such arms, each once
  pub record SpotsOf (spots : List Spot) : Type 0 where
    pub each : (j : ℕ) (spot : Spot) → slice_get spots j ≡ Some spot → SpotOn spot
    pub all : (c k : ℕ) (n : ArmName) → c < part.geometry.g → name_on slots (rows_at part pointer c) k ≡ Some n → answers_on slots (rows_at part pointer c) k ≡ true → HasSpot spots c n
    pub once : (i j : ℕ) (a b : Spot) → slice_get spots i ≡ Some a → slice_get spots j ≡ Some b → a.column ≡ b.column → a.arm ≡ b.arm → i ≡ j

  -- each arm of the first so many columns that is clean for the block answers
  abbrev pub CleanBelow : ℕ → Type 0
  CleanBelow count =
      (c k : ℕ) → c < count → IsThere slots (arm_no (rows_at part pointer c) k) → is_logged slots (arm_no (rows_at part pointer c) k) pointer.birth ≡ false
      → answers_on slots (rows_at part pointer c) k ≡ true

  -- so of all
  abbrev pub CleanAnswer : Type 0
  CleanAnswer = CleanBelow part.geometry.g

-- ---- one column

-- its rows lie on a slot of the metaslab
pub record LiesIn (slots : SlotTable) (rows : ColumnRows) : Type 0 where
  pub slot : rows.slot < slots.geometry.spec.children
  pub slice : rows.slice < slots.geometry.props.slices
  pub first : rows.first < metaslab_sectors slots.geometry
  pub slice_is : rows.slice ≡ slice_at slots.geometry rows.first

-- an arm that is clean for its block answers
abbrev pub AnswersClean : SlotTable → ColumnRows → ℕ → Type 0
AnswersClean slots rows k = is_logged slots (arm_no rows k) rows.birth ≡ false → answers_on slots rows k ≡ true

-- so each of the first so many arms
abbrev pub CleanAmong : SlotTable → ColumnRows → ℕ → Type 0
CleanAmong slots rows count = (k : ℕ) → k < count → AnswersClean slots rows k

-- ---- in their order

-- an arm of a column's slot, where it answers
abbrev pub spot_if : ColumnRows → ℕ → Bool → Bool → Arm → Option Arm → List Spot
spot_if rows c answers clean arm None = []
spot_if rows c answers clean arm (Some leaf) = if answers then record { column = c; arm = name_of arm; leaf = leaf.number; first = rows.first; clean = clean } ∷ [] else []

-- those that answer of these arms, which stand in a column's slot from a place on
abbrev pub spots_from : SlotTable → ColumnRows → ℕ → ℕ → List Arm → List Spot
spots_from slots rows c k [] = []
spots_from slots rows c k (arm ∷ arms) =
    spot_if rows c (answers_on slots rows k) (not (is_logged slots (arm_no rows k) rows.birth)) arm (holder slots (arm_no rows k) rows.slice) ++ spots_from slots rows c (k + 1) arms

-- those of a column, in the order of its slot
abbrev pub spots_in : SlotTable → ColumnRows → ℕ → List Spot
spots_in slots rows c = spots_from slots rows c 0 (arms_of slots rows.slot)

-- those of the first so many columns, one column after another
abbrev pub spots_below : Part → SlotTable → Pointer → ℕ → List Spot
spots_below part slots pointer zero = []
spots_below part slots pointer (suc c) = spots_below part slots pointer c ++ spots_in slots (rows_at part pointer c) c
