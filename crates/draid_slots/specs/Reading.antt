use Rattle.std.specs.Prelude.{◌≡◌, ◌+◌, ◌*◌, ◌/◌, ◌<◌, ◌&&◌, not, ℕ, Bool, true, false, Option, None, Some, List, [], ◌∷◌, length, if◌then◌else◌}
use Rattle.draid_names.specs.declared.arm.Arm.{Arm}
use Rattle.draid_names.specs.declared.arm.ArmAt.{ArmAt}
use Rattle.draid_chain.specs.Chain.{holder_in}
use Rattle.draid_spec.specs.declared.layout.Geometry.{Geometry}
use Rattle.draid_slots.specs.declared.slot.ReadArm.{ReadArm}
use Rattle.draid_slots.specs.Table.{SlotTable, arm_at, arms_of, first_spares, is_leaf, is_logged}

-- Slices and sectors are those of the metaslab, counted from 0.

-- the same slice, counted through the pool
abbrev pub pool_slice : SlotTable → ℕ → ℕ
pool_slice table slice = table.metaslab * table.geometry.props.slices + slice

-- the slot whose first leaf keeps a slice for a spare arm of a slot: the one to which the chain of its spare leads
abbrev pub spare_slot : SlotTable → ℕ → ℕ → ℕ → ℕ
spare_slot table slot spare slice =
    holder_in table.perms table.geometry.spec.spares (pool_slice table slice) (first_spares table) slot spare

-- the first leaf of some arms
abbrev pub first_leaf : List Arm → Option Arm
first_leaf [] = None
first_leaf (arm ∷ arms) = if is_leaf arm then Some arm else first_leaf arms

-- the leaf that holds an arm's sectors of a slice: the arm itself, or for a spare the one that keeps the slice
abbrev pub holder_of : SlotTable → ℕ → ℕ → Option Arm → Option Arm
holder_of table slot slice None = None
holder_of table slot slice (Some arm) =
    if is_leaf arm then Some arm else first_leaf (arms_of table (spare_slot table slot arm.number slice))

abbrev pub holder : SlotTable → ArmAt → ℕ → Option Arm
holder table at slice = holder_of table at.slot slice (arm_at table at)

abbrev pub is_online : Option Arm → Bool
is_online None = false
is_online (Some arm) = not arm.offline

-- whether an arm answers in a slice: the leaf that holds its sectors there isn't offline
abbrev pub answers : SlotTable → ArmAt → ℕ → Bool
answers table at slice = is_online (holder table at slice)

-- whether an arm of a slot answers
abbrev pub answers_in : SlotTable → ℕ → ℕ → ℕ → Bool
answers_in table slot slice arm = answers table (record { slot = slot; arm = arm }) slice

-- whether an arm of a slot answers and its log lacks the group in which a block was born
abbrev pub is_clean_in : SlotTable → ℕ → ℕ → ℕ → ℕ → Bool
is_clean_in table slot slice birth arm = answers_in table slot slice arm && not (is_logged table (record { slot = slot; arm = arm }) birth)

-- the first of so many arms that passes a test
pub record IsFirst (test : ℕ → Bool) (count arm : ℕ) : Type 0 where
  pub within : arm < count
  pub passes : test arm ≡ true
  pub first : (k : ℕ) → k < arm → test k ≡ false

-- none of so many arms passes a test
abbrev pub IsNone : (ℕ → Bool) → ℕ → Type 0
IsNone test count = (k : ℕ) → k < count → test k ≡ false

-- a column is read from the first arm that answers and is clean, and where there is none from the first that answers
pub record IsRead (table : SlotTable) (slot slice birth : ℕ) (read : ReadArm) : Type 0 where
  pub clean_arm : read.clean ≡ true → IsFirst (is_clean_in table slot slice birth) (length (arms_of table slot)) read.arm
  pub no_clean : read.clean ≡ false → IsNone (is_clean_in table slot slice birth) (length (arms_of table slot))
  pub doubtful : read.clean ≡ false → IsFirst (answers_in table slot slice) (length (arms_of table slot)) read.arm
