-- Which arms lie on a leaf.
use Rattle.std.specs.Prelude.{◌≡◌, ◌==◌, ◌&&◌, ℕ, Bool, false, Option, Some, None, if◌then◌else◌}
use Rattle.draid_names.specs.declared.arm.Arm.{Arm}
use Rattle.draid_names.specs.declared.arm.ArmAt.{ArmAt}
use Rattle.draid_machine.specs.Arms.{lies_on, passes}
use Rattle.draid_machine.specs.Created.{IsReached}
use Rattle.draid_machine.specs.Names.{any_below}
use Rattle.draid_machine.specs.State as machine
use Rattle.draid_slots.specs.States.{HasSlots, name_of}
use Rattle.draid_slots.specs.Table.{SlotTable, arm_at, is_leaf}
use Rattle.draid_marks.specs.Layout.{layout_with}
use Rattle.draid_marks.specs.Silent.{has_column_in, leaf_in}

-- the leaf keeps a slice for an arm
abbrev pub keeps_in : SlotTable → ℕ → ArmAt → ℕ → Bool
keeps_in slots leaf at slice = passes (leaf_in slots at slice) (λ other. other == leaf)

-- an arm lies on it: the leaf itself, and a spare for which it keeps a slice in which the spare's slot has a column
abbrev pub lies_there : SlotTable → ℕ → ArmAt → Option Arm → Bool
lies_there slots leaf at None = false
lies_there slots leaf at (Some arm) =
    if is_leaf arm then arm.number == leaf
    else any_below slots.geometry.props.slices (λ slice. has_column_in slots at.slot slice && keeps_in slots leaf at slice)

-- so it is in each state of the metaslab that has the slots
abbrev pub LiesAll : SlotTable → ArmAt → ℕ → Bool → Type 0
LiesAll slots at leaf lies =
    (w : machine.State) → IsReached (layout_with slots) w → HasSlots slots w.core → (a : Arm) → arm_at slots at ≡ Some a
    → lies ≡ lies_on (layout_with slots) w.core (λ other. other == leaf) (name_of a)
