-- Which arms miss a stripe as it lands.
use Rattle.std.specs.Prelude.{◌≡◌, ◌<◌, ◌⊎◌, ◌||◌, not, ℕ, Bool, false, List, Some, length, slice_get}
use Rattle.draid_spec.specs.Geometry.{metaslab_sectors, slice_at}
use Rattle.draid_names.specs.declared.arm.ArmAt.{ArmAt}
use Rattle.draid_names.specs.declared.pointer.Pointer.{Pointer}
use Rattle.draid_machine.specs.Arms.{passes}
use Rattle.draid_machine.specs.Names.{has_number}
use Rattle.draid_pass.specs.declared.pass.Pass.{Pass}
use Rattle.draid_plans.specs.Ends.{Loses}
use Rattle.draid_slots.specs.Marks.{is_marked}
use Rattle.draid_slots.specs.Table.{SlotTable, arms_of}
use Rattle.draid_shard.specs.Part.{Part, layout_in}
use Rattle.draid_shard.specs.Rows.{answers_on, leaf_on}
use Rattle.draid_shard.specs.declared.places.ColumnRows.{ColumnRows}
use Rattle.draid_mend.specs.Stripes.{rows_at}

-- the rows are those of a slot and a slice that are there
pub record IsRowIn (slots : SlotTable) (rows : ColumnRows) : Type 0 where
  pub slot : rows.slot < slots.geometry.spec.children
  pub slice : rows.slice < slots.geometry.props.slices
  pub slice_is : rows.slice ≡ slice_at slots.geometry rows.first
  pub sector : rows.first < metaslab_sectors slots.geometry

-- an arm of a column's slot doesn't answer, or keeps the row on a leaf on which a call failed
abbrev pub is_missed_on : SlotTable → ColumnRows → List ℕ → ℕ → Bool
is_missed_on slots rows failed k = not (answers_on slots rows k) || passes (leaf_on slots rows k) (has_number failed)

module _ (part : Part) (slots : SlotTable) (pointer : Pointer) (failed : List ℕ) (count : ℕ) where
  -- one of the first so many columns is the slot's, and the arm's mark says whether it misses that; or none is, and the arm isn't marked
  abbrev pub IsMarkedBy : ℕ → ℕ → Bool → Type 0
  IsMarkedBy slot arm mark =
      ((c : ℕ) × (c < count) × ((layout_in part).slot_of pointer.first c ≡ slot) × (mark ≡ is_missed_on slots (rows_at part pointer c) failed arm))
      ⊎ (((c : ℕ) → c < count → (layout_in part).slot_of pointer.first c ≡ slot → ⊥) × (mark ≡ false))

  -- so each arm
  abbrev pub AreMissed : List (List Bool) → Type 0
  AreMissed marks = (slot arm : ℕ) → arm < length (arms_of slots slot) → IsMarkedBy slot arm (is_marked marks slot arm)

  -- so each arm among these targets
  abbrev pub AreMissedAmong : List ArmAt → List (List Bool) → Type 0
  AreMissedAmong targets marks = (k : ℕ) (at : ArmAt) → slice_get targets k ≡ Some at → at.arm < length (arms_of slots at.slot) → IsMarkedBy at.slot at.arm (is_marked marks at.slot at.arm)

  -- a pass lost those of its targets that miss the columns
  pub record LosesMissed (old new : Pass) : Type 0 where
    pub marks : List (List Bool)
    pub missed : AreMissedAmong old.targets.items marks
    pub loses : Loses marks old new
