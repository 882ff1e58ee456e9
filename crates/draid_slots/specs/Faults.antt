use Rattle.std.specs.Prelude.{◌≡◌, ◌≢◌, ◌<◌, ◌≤◌, ◌^◌, ◌⊎◌, ℕ, true, false, List, length, remove, slice_index_or}
use Rattle.draid_names.specs.declared.arm.Arm.{Arm}
use Rattle.draid_names.specs.declared.arm.ArmAt.{ArmAt}
use Rattle.draid_names.specs.declared.refusal.SlotFault.{SlotFault}
use Rattle.draid_names.specs.declared.refusal.SlotFault.TheVariants.{NoSuch, SpareBusy, LogNotEmpty, LastArm, PassRunning, TooSmall, Full, Last}
use Rattle.draid_ranges.specs.Numbers.{Numbers, has}
use Rattle.draid_slots.specs.Table.{SlotTable, IsThere, arms_of, count_at, count_of, no_log, has_leaf, holds_spare, is_logged, is_spare_kind}

-- ---- attaching

-- the slot is there, and so is a spare
pub record IsKnown (table : SlotTable) (slot : ℕ) (arm : Arm) : Type 0 where
  pub slot_there : slot < table.geometry.spec.children
  pub spare_there : is_spare_kind arm.kind ≡ true → arm.number < table.geometry.spec.spares

-- the spare is an arm of no slot, and no detachment of it waits for its commit
abbrev pub IsIdle : SlotTable → Arm → Type 0
IsIdle table arm = is_spare_kind arm.kind ≡ true → (slot : ℕ) → holds_spare table arm.number slot ≡ false

-- what an attachment needs
pub record MayAttach (table : SlotTable) (slot : ℕ) (arm : Arm) : Type 0 where
  pub known : IsKnown table slot arm
  pub idle : IsIdle table arm
  pub some_room : length (arms_of table slot) < 3

-- the first of these that is broken, with its values
abbrev pub IsAttachRefused : SlotTable → ℕ → Arm → SlotFault → Type 0
IsAttachRefused table slot arm NoSuch = ¬ (IsKnown table slot arm)
IsAttachRefused table slot arm (SpareBusy by) =
    IsKnown table slot arm × (is_spare_kind arm.kind ≡ true) × (holds_spare table arm.number by ≡ true)
IsAttachRefused table slot arm (Full arms) =
    IsKnown table slot arm × IsIdle table arm
    × (3 ≤ length (arms_of table slot)) × (arms ≡ length (arms_of table slot))
IsAttachRefused table slot arm LastArm = ⊥
IsAttachRefused table slot arm (LogNotEmpty groups) = ⊥
IsAttachRefused table slot arm (PassRunning metaslab number) = ⊥
IsAttachRefused table slot arm (TooSmall need have) = ⊥
IsAttachRefused table slot arm Last = ⊥

-- why a spare can't come: it isn't there, or it is busy
abbrev pub IsSpareRefused : SlotTable → ℕ → SlotFault → Type 0
IsSpareRefused table spare fault =
    ((fault ≡ NoSuch) × (table.geometry.spec.spares ≤ spare))
    ⊎ ((by : ℕ) × (fault ≡ SpareBusy by) × (spare < table.geometry.spec.spares) × (holds_spare table spare by ≡ true))

-- ---- detaching

-- another arm of the slot
abbrev pub IsBeside : SlotTable → ArmAt → ℕ → Type 0
IsBeside table at other = (other ≢ at.arm) × (other < length (arms_of table at.slot))

-- the slot has a leaf beside the arm
abbrev pub HasLeafBeside : SlotTable → ArmAt → Type 0
HasLeafBeside table at = has_leaf (remove (arms_of table at.slot) at.arm) ≡ true

-- the least number of groups that another arm of the slot missed
pub record IsLeastLogged (table : SlotTable) (at : ArmAt) (groups : ℕ) : Type 0 where
  pub one : (other : ℕ) × IsBeside table at other × (count_at table (record { slot = at.slot; arm = other }) ≡ groups)
  pub least : (other : ℕ) → IsBeside table at other → groups ≤ count_at table (record { slot = at.slot; arm = other })

-- another arm of the slot missed nothing at all
abbrev pub HasWhole : SlotTable → ArmAt → Type 0
HasWhole table at = (other : ℕ) × IsBeside table at other × ((group : ℕ) → is_logged table (record { slot = at.slot; arm = other }) group ≡ false)

-- what a detachment needs
pub record MayDetach (table : SlotTable) (at : ArmAt) : Type 0 where
  pub there : IsThere table at
  pub leaf_beside : HasLeafBeside table at
  pub missed_none : HasWhole table at

-- the first of these that is broken, with its values
abbrev pub IsDetachRefused : SlotTable → ArmAt → SlotFault → Type 0
IsDetachRefused table at NoSuch = ¬ (IsThere table at)
IsDetachRefused table at LastArm = IsThere table at × ¬ (HasLeafBeside table at)
IsDetachRefused table at (LogNotEmpty groups) =
    IsThere table at × HasLeafBeside table at × (0 < groups) × IsLeastLogged table at groups
IsDetachRefused table at (SpareBusy by) = ⊥
IsDetachRefused table at (Full arms) = ⊥
IsDetachRefused table at (PassRunning metaslab number) = ⊥
IsDetachRefused table at (TooSmall need have) = ⊥
IsDetachRefused table at Last = ⊥

-- the least number of groups in a log before a bound and beside the one at a place: a log has no groups but those that are counted
pub record IsLeastCount (logs : List Numbers) (at bound groups : ℕ) : Type 0 where
  pub one : (other : ℕ) × (other ≢ at) × (other < bound) × (count_of (slice_index_or logs other no_log) ≡ groups)
  pub least : (other : ℕ) → other ≢ at → other < bound → groups ≤ count_of (slice_index_or logs other no_log)
  pub low : (other group : ℕ) → other ≢ at → other < bound → 2 ^ 48 ≤ group → has (slice_index_or logs other no_log) group ≡ false
