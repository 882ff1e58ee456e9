-- Where a column of a block belongs: its rows, the arms that have them, and what their logs have of the block.
use Rattle.std.specs.Prelude.{◌≡◌, ◌==◌, ◌<◌, ◌≤◌, ◌+◌, ◌*◌, ◌/◌, ◌%◌, ◌^◌, ◌||◌, ◌&&◌, not, ℕ, Bool, true, false, Option, Some, option_map, length, if◌then◌else◌}
use Rattle.draid_names.specs.declared.arm.Arm.{Arm}
use Rattle.draid_names.specs.declared.arm.ArmAt.{ArmAt}
use Rattle.draid_names.specs.declared.arm.ArmKind.TheVariants.{Spare}
use Rattle.draid_names.specs.declared.pointer.Pointer.{Pointer}
use Rattle.draid_spec.specs.Geometry.{metaslab_sectors, slice_at, slice_sectors}
use Rattle.draid_rack.specs.Rack.{Shape}
use Rattle.draid_columns.specs.declared.rows.Rows.{Rows}
use Rattle.draid_machine.specs.declared.names.ArmName.{ArmName}
use Rattle.draid_layouts.specs.Layout.{pool_stripe, slice_in}
use Rattle.draid_slots.specs.Changes.{IsSame}
use Rattle.draid_slots.specs.Reading.{IsNone, IsRead, answers, answers_in, holder}
use Rattle.draid_slots.specs.Table.{IsThere, SlotTable, arm_at, arms_of, is_at, is_logged, room_at}
use Rattle.draid_slots.specs.declared.slot.ReadArm.{ReadArm}
use Rattle.draid_shard.specs.Fits.{HasLeaves}
use Rattle.draid_shard.specs.Part.{Part, layout_in}
use Rattle.draid_slots.specs.States.{name_of}
use Rattle.draid_shard.specs.declared.places.ColumnRows.{ColumnRows}
use Rattle.draid_shard.specs.declared.places.StripePlace.{StripePlace}

-- the rows are those of this column of a pointer's block
pub record IsRowsOf (part : Part) (pointer : Pointer) (column : ℕ) (rows : ColumnRows) : Type 0 where
  pub slot_is : rows.slot ≡ (layout_in part).slot_of pointer.first column
  pub first_is : rows.first ≡ (layout_in part).sector_of pointer.first column
  pub count_is : rows.count ≡ pointer.stripes
  pub size_is : rows.size ≡ part.geometry.props.sector
  pub birth_is : rows.birth ≡ pointer.birth
  pub slice_is : rows.slice ≡ slice_at part.geometry rows.first

-- what the places of the columns of a stripe have in common: its slice in the pool and in the metaslab, the columns of the groups before its own
-- there, and the sector that it has in the slice's first row
pub record IsStripePlace (part : Part) (stripe : ℕ) (place : StripePlace) : Type 0 where
  pub pool_slice_is : place.pool_slice ≡ slice_in part.geometry part.number stripe
  pub slice_is : place.pool_slice ≡ part.number * part.geometry.props.slices + place.slice
  pub before_is : place.before ≡ pool_stripe part.geometry part.number stripe / part.geometry.props.height % part.geometry.ngroups * part.geometry.g
  pub sector_is : place.sector ≡ place.slice * slice_sectors part.geometry + pool_stripe part.geometry part.number stripe % part.geometry.props.height

-- the rows of a column on a leaf
abbrev pub rows_on : ColumnRows → ℕ → Rows
rows_on rows leaf = record { leaf = leaf; first = rows.first; count = rows.count; size = rows.size }

-- they lie within the metaslab and on a slot of its own, and each leaf has them
pub record FitsRows (shape : Shape) (slots : SlotTable) (rows : ColumnRows) : Type 0 where
  pub leaves : HasLeaves shape slots.geometry slots
  pub size_is : rows.size ≡ slots.geometry.props.sector
  pub slice_is : rows.slice ≡ slice_at slots.geometry rows.first
  pub some : 0 < rows.count
  pub inside : rows.first + rows.count ≤ metaslab_sectors slots.geometry
  pub low : metaslab_sectors slots.geometry < 2 ^ 64
  pub slot_below : rows.slot < slots.geometry.spec.children
  pub slice_below : rows.slice < slots.geometry.props.slices

-- ---- the arms of the column's slot

abbrev pub arm_no : ColumnRows → ℕ → ArmAt
arm_no rows k = record { slot = rows.slot; arm = k }

abbrev pub answers_on : SlotTable → ColumnRows → ℕ → Bool
answers_on slots rows k = answers slots (arm_no rows k) rows.slice

-- the leaf on which one keeps the rows
abbrev pub leaf_on : SlotTable → ColumnRows → ℕ → Option ℕ
leaf_on slots rows k = option_map (λ (a : Arm). a.number) (holder slots (arm_no rows k) rows.slice)

abbrev pub name_on : SlotTable → ColumnRows → ℕ → Option ArmName
name_on slots rows k = option_map name_of (arm_at slots (arm_no rows k))

-- no two of them have one name, or keep the rows on one leaf, and spares have numbers of 32 bits
pub record AreApart (slots : SlotTable) (rows : ColumnRows) : Type 0 where
  pub spares : (k : ℕ) (a : Arm) → arm_at slots (arm_no rows k) ≡ Some a → a.kind ≡ Spare → a.number < 2 ^ 32
  pub names : (j k : ℕ) (n : ArmName) → name_on slots rows j ≡ Some n → name_on slots rows k ≡ Some n → j ≡ k
  pub leaves : (j k leaf : ℕ) → leaf_on slots rows j ≡ Some leaf → leaf_on slots rows k ≡ Some leaf → j ≡ k

-- no arm of a column's slot answers
abbrev pub IsSilent : SlotTable → ColumnRows → Type 0
IsSilent slots rows = IsNone (answers_in slots rows.slot rows.slice) (length (arms_of slots rows.slot))

-- the arm from which a column is read keeps it on this leaf
pub record IsReadOn (slots : SlotTable) (rows : ColumnRows) (leaf : ℕ) : Type 0 where
  pub read : ReadArm
  pub is : IsRead slots rows.slot rows.slice rows.birth read
  pub on : leaf_on slots rows read.arm ≡ Some leaf

-- ---- logs

-- the logs that lack a birth have room for it
abbrev pub HasRoomFor : SlotTable → ℕ → Type 0
HasRoomFor slots birth = (at : ArmAt) → IsThere slots at → is_logged slots at birth ≡ false → 0 < room_at slots at

-- Arms are as they were, and no log has more than before but for a birth. It took the room of one change of each log that has it now and hadn't.
pub record LogsBirth (birth : ℕ) (old new : SlotTable) : Type 0 where
  pub same : IsSame old new
  pub arms : new.arms ≡ old.arms
  pub detached : new.detached ≡ old.detached
  pub others : (at : ArmAt) (group : ℕ) → (group == birth) ≡ false → is_logged new at group ≡ is_logged old at group
  pub kept : (at : ArmAt) → is_logged old at birth ≡ true → is_logged new at birth ≡ true
  pub room : (at : ArmAt) → room_at old at ≤ room_at new at + (if is_logged new at birth && not (is_logged old at birth) then 1 else 0)

-- one log has the birth where the column was missed
pub record MissesAt (old new : SlotTable) (at : ArmAt) (birth : ℕ) (missed : Bool) : Type 0 where
  pub logs : LogsBirth birth old new
  pub logged : (other : ArmAt) (group : ℕ) → is_logged new other group ≡ (is_logged old other group || (missed && (is_at at other && (group == birth))))
