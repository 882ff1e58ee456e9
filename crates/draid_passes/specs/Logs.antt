use Rattle.std.specs.Prelude.{Bool, Option, if◌then◌else◌}
use Rattle.draid_machine.specs.After.{map_arm}
use Rattle.draid_machine.specs.State.{Arm}

-- an arm that is changed, or isn't
abbrev pub changed_at : Bool → (Arm → Arm) → Option Arm → Option Arm
changed_at here f o = if here then map_arm f o else o
