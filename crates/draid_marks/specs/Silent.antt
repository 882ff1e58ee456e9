-- Which arms lie on leaves that are silent: offline, or with a flush that failed.
use Rattle.std.specs.Prelude.{◌≡◌, ◌||◌, ◌&&◌, not, ℕ, Bool, false, List, Option, Some, None, option_map, if◌then◌else◌}
use Rattle.draid_names.specs.declared.arm.Arm.{Arm}
use Rattle.draid_names.specs.declared.arm.ArmAt.{ArmAt}
use Rattle.draid_chain.specs.Chain.{stands_before}
use Rattle.draid_machine.specs.Arms.{is_silent, lies_on, passes}
use Rattle.draid_machine.specs.Created.{IsReached}
use Rattle.draid_machine.specs.Names.{any_below, has_number}
use Rattle.draid_machine.specs.State as machine
use Rattle.draid_slots.specs.Marks.{is_marked}
use Rattle.draid_slots.specs.Reading.{answers, holder, pool_slice}
use Rattle.draid_slots.specs.States.{HasSlots, name_of}
use Rattle.draid_slots.specs.Table.{SlotTable, arm_at, is_leaf}
use Rattle.draid_marks.specs.Layout.{layout_with}

-- the leaf on which an arm keeps a slice
abbrev pub leaf_in : SlotTable → ArmAt → ℕ → Option ℕ
leaf_in slots at slice = option_map (λ (a : Arm). a.number) (holder slots at slice)

-- it is offline, or a flush failed on it
abbrev pub is_silent_in : SlotTable → List ℕ → ArmAt → ℕ → Bool
is_silent_in slots failed at slice = passes (leaf_in slots at slice) (λ leaf. not (answers slots at slice) || has_number failed leaf)

-- a slot has a column in a slice
abbrev pub has_column_in : SlotTable → ℕ → ℕ → Bool
has_column_in slots slot slice = stands_before slots.perms (pool_slice slots slice) slots.geometry.ndisks slot

-- an arm lies on a silent leaf: a leaf on itself, a spare on each leaf that keeps a slice for it in which its slot has a column
abbrev pub lies_silent : SlotTable → List ℕ → ArmAt → Option Arm → Bool
lies_silent slots failed at None = false
lies_silent slots failed at (Some arm) =
    if is_leaf arm then is_silent_in slots failed at 0
    else any_below slots.geometry.props.slices (λ slice. has_column_in slots at.slot slice && is_silent_in slots failed at slice)

-- Just these arms are marked, and in each state of the metaslab that has the slots they are those that lie on a silent leaf.
pub record AreSilent (slots : SlotTable) (failed : List ℕ) (marks : List (List Bool)) : Type 0 where
  pub marked : (at : ArmAt) → is_marked marks at.slot at.arm ≡ lies_silent slots failed at (arm_at slots at)
  pub lie : (w : machine.State) → IsReached (layout_with slots) w → HasSlots slots w.core → (at : ArmAt) (a : Arm) → arm_at slots at ≡ Some a
      → is_marked marks at.slot at.arm ≡ lies_on (layout_with slots) w.core (is_silent w.core failed) (name_of a)
