-- The leaves that the end of a rebuild flushes.
use Rattle.std.specs.Prelude.{◌*◌, ◌/◌, ◌%◌, ◌++◌, ◌∷◌, ◌&&◌, not, [], ℕ, zero, suc, Bool, List, Option, None, Some, if◌then◌else◌}
use Rattle.std.specs.List.{list_any}
use Rattle.draid_names.specs.declared.arm.Arm.{Arm}
use Rattle.draid_names.specs.declared.arm.ArmAt.{ArmAt}
use Rattle.draid_marks.specs.Lying.{lies_there}
use Rattle.draid_slots.specs.Table.{SlotTable, arm_at, is_leaf}

-- a target lies on the leaf
abbrev pub bears_target : SlotTable → List ArmAt → ℕ → Bool
bears_target slots targets leaf = list_any (λ (t : ArmAt). lies_there slots leaf t (arm_at slots t)) targets

-- the leaf that an arm is, where it isn't offline and a target lies on it
abbrev pub due_leaf : SlotTable → List ArmAt → Option Arm → Option ℕ
due_leaf slots targets None = None
due_leaf slots targets (Some arm) = if is_leaf arm && (not arm.offline && bears_target slots targets arm.number) then Some arm.number else None

-- the arms one after another, three places to a slot
abbrev pub place_no : ℕ → ArmAt
place_no k = record { slot = k / 3; arm = k % 3 }

abbrev pub listed : Option ℕ → List ℕ
listed None = []
listed (Some leaf) = leaf ∷ []

-- the leaves of those at the first so many places
abbrev pub due_below : SlotTable → List ArmAt → ℕ → List ℕ
due_below slots targets zero = []
due_below slots targets (suc k) = due_below slots targets k ++ listed (due_leaf slots targets (arm_at slots (place_no k)))

abbrev pub due_leaves : SlotTable → List ArmAt → List ℕ
due_leaves slots targets = due_below slots targets (3 * slots.geometry.spec.children)
