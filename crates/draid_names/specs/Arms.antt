-- Arms in the order of their slots, and within a slot in the order of their coming.
use Rattle.std.specs.Prelude.{◌==◌, ◌+◌, ℕ, Option, Some, None, if◌then◌else◌}
use Rattle.draid_names.specs.declared.arm.ArmAt.{ArmAt}

-- the least slot of an arm behind another
abbrev pub least_slot : Option ArmAt → ℕ
least_slot None = 0
least_slot (Some before) = before.slot

-- its least place in a slot
abbrev pub least_arm : Option ArmAt → ℕ → ℕ
least_arm None slot = 0
least_arm (Some before) slot = if slot == before.slot then before.arm + 1 else 0
