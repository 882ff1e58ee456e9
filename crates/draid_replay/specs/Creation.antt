use Rattle.std.specs.Prelude.{ℕ, nat_lt, List, [], ◌∷◌, Option, Some, None, if◌then◌else◌}
use Rattle.draid_machine.specs.declared.names.ArmName.{ArmName}
use Rattle.draid_machine.specs.declared.names.ArmName.TheVariants.{Leaf, Spare}
use Rattle.draid_machine.specs.State.{Arm}
use Rattle.draid_machine.specs.Created.{new_arm}

-- the arms of so many slots, each with the leaf of its number
abbrev pub leaf_below : ℕ → ArmName → Option Arm
leaf_below slots (Leaf m) = if nat_lt m slots then Some new_arm else None
leaf_below slots (Spare t) = None

abbrev pub leaf_in : ℕ → ℕ → List ArmName
leaf_in slots c = if nat_lt c slots then Leaf c ∷ [] else []
