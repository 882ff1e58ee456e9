-- What the calls on the arms of a metaslab ask for, and what they use.
use Rattle.std.specs.Prelude.{◌≡◌, ◌≢◌, ◌+◌, ◌++◌, ◌∷◌, [], ⊤, ℕ, false, List, Option, Some, None, IfSome, Result, Ok, Err, map, remove}
use Rattle.draid_names.specs.declared.arm.Arm.{Arm}
use Rattle.draid_names.specs.declared.arm.ArmAt.{ArmAt}
use Rattle.draid_names.specs.declared.arm.ArmKind.{ArmKind}
use Rattle.draid_names.specs.declared.arm.ArmKind.TheVariants as kind
use Rattle.draid_names.specs.declared.refusal.SlotFault.{SlotFault}
use Rattle.draid_names.specs.declared.refusal.SlotFault.TheVariants.{NoSuch, SpareBusy, LogNotEmpty, LastArm, PassRunning, TooSmall, Full, Last}
use Rattle.draid_spec.specs.Geometry.{metaslab_sectors}
use Rattle.draid_rack.specs.declared.Rack.{Ghosts}
use Rattle.draid_machine.specs.declared.names.ArmName.{ArmName}
use Rattle.draid_entries.specs.declared.history.History.{History}
use Rattle.draid_entries.specs.declared.history.ReserveFault.{ReserveFault}
use Rattle.draid_entries.specs.declared.history.ReserveFault.TheVariants.{NoMemory, Worn}
use Rattle.draid_entries.specs.History.{IsReserved, limit_in, reserved_of}
use Rattle.draid_pass.specs.declared.pass.Pass.{Pass}
use Rattle.draid_plans.specs.Targets.{HasTargetRoom}
use Rattle.draid_slots.specs.Changes.{HasRoom, behind}
use Rattle.draid_slots.specs.Faults.{IsAttachRefused, MayAttach}
use Rattle.draid_slots.specs.Table.{IsArmOf, SlotTable, arm_at, arms_of, is_logged}
use Rattle.draid_slots.specs.States.{name_of}
use Rattle.draid_shard.specs.Fits.{IsLeaf}
use Rattle.draid_shard.specs.declared.shard.Shard.{Shard}
use Rattle.draid_disks.specs.Replanning.{MayReplan}

-- a leaf is an arm of a slot
abbrev pub IsLeafArm : SlotTable → ℕ → Type 0
IsLeafArm slots leaf = (at : ArmAt) × IsArmOf kind.Leaf leaf (arm_at slots at)

-- the arm at a place has this name
abbrev pub IsNamed : SlotTable → ArmAt → ArmName → Type 0
IsNamed slots at name = (arm : Arm) × (arm_at slots at ≡ Some arm) × (name_of arm ≡ name)

-- an arm that comes
abbrev pub arm_called : ArmKind → ℕ → Arm
arm_called kind number = record { kind = kind; number = number; offline = false; fresh = false }

-- a leaf that comes is no arm, wasn't one whose detachment isn't committed, and was made as large as the others
pub record IsNewLeaf {R A : Type 0} (rack : Ghosts R) (shard : Shard R A) (k : ArmKind) (number : ℕ) : Type 0 where
  pub unused : k ≡ kind.Leaf → IsLeaf shard.slots number → ⊥
  pub made : k ≡ kind.Leaf → (rack.shape shard.rack).leaves number ≡ Some (metaslab_sectors shard.geometry)

-- Room in memory for a change of arms: each log may be made anew for a place that changed and for a new plan, get the births of three groups, lose them as that
-- plan makes them good, and get them again; one arm may come and one go; and a list that there is has room for the targets of a new plan.
pub record HasArmRoom {R A : Type 0} (shard : Shard R A) : Type 0 where
  pub slots : HasRoom shard.slots 8 1
  pub targets : IfSome shard.pass (λ (pass : Pass). HasTargetRoom shard.slots pass.targets)

-- Room in memory for so many arms that come one after another where there is no pass, and behind that for as many changes as a change of arms asks for beside its own.
pub record HasRoomFor {R A : Type 0} (arms : ℕ) (shard : Shard R A) : Type 0 where
  pub slots : HasRoom shard.slots (arms + 7) arms
  pub targets : IfSome shard.pass (λ (pass : Pass). HasTargetRoom shard.slots pass.targets)

-- Where there is no pass, none comes with an arm, and that takes the room of one.
pub record TakesRoomOfOne {R A : Type 0} (old new : Shard R A) : Type 0 where
  pub idle : old.pass ≡ None → new.pass ≡ None
  pub room : (arms : ℕ) → old.pass ≡ None → HasRoomFor (arms + 1) old → HasRoomFor arms new

-- why an arm doesn't come: it may not, or a rebuild can't be planned again
abbrev pub IsComingRefused : {R A : Type 0} → Shard R A → ℕ → Arm → SlotFault → Type 0
IsComingRefused shard slot arm Last = MayAttach shard.slots slot arm × (MayReplan shard.pass shard.last_pass shard.open_group → ⊥)
IsComingRefused shard slot arm NoSuch = IsAttachRefused shard.slots slot arm NoSuch
IsComingRefused shard slot arm (SpareBusy by) = IsAttachRefused shard.slots slot arm (SpareBusy by)
IsComingRefused shard slot arm (Full arms) = IsAttachRefused shard.slots slot arm (Full arms)
IsComingRefused shard slot arm LastArm = ⊥
IsComingRefused shard slot arm (LogNotEmpty groups) = ⊥
IsComingRefused shard slot arm (PassRunning metaslab number) = ⊥
IsComingRefused shard slot arm (TooSmall need have) = ⊥

-- ---- what the arms are then, but for whether a pass has made them good, and for their logs

abbrev pub plain : Arm → Arm
plain arm = record arm { fresh = false }

abbrev pub plain_arms : SlotTable → ℕ → List Arm
plain_arms slots slot = map plain (arms_of slots slot)

-- a slot has one more arm, as its last
pub record HasAttached (old new : SlotTable) (slot : ℕ) (arm : Arm) : Type 0 where
  pub here : plain_arms new slot ≡ plain_arms old slot ++ arm ∷ []
  pub others : (other : ℕ) → other ≢ slot → plain_arms new other ≡ plain_arms old other
  pub detached_stay : new.detached ≡ old.detached

-- the arm at a place is gone, detached in this group
pub record HasDetached (old new : SlotTable) (at : ArmAt) (group : ℕ) : Type 0 where
  pub here : plain_arms new at.slot ≡ remove (plain_arms old at.slot) at.arm
  pub others : (other : ℕ) → other ≢ at.slot → plain_arms new other ≡ plain_arms old other
  pub gone : (arm : Arm) → arm_at old at ≡ Some arm
      → new.detached ≡ old.detached ++ record { kind = arm.kind; number = arm.number; slot = at.slot; group = group; offline = arm.offline } ∷ []

-- each leaf that is an arm then has the log that it had, by the place where it stood before the arm at one went
abbrev pub KeepsLeafLogs : SlotTable → SlotTable → ArmAt → Type 0
KeepsLeafLogs old new at = (other : ArmAt) (number : ℕ) → IsArmOf kind.Leaf number (arm_at new other) → (group : ℕ) → is_logged new other group ≡ is_logged old (behind at other) group

-- a pass is as it was, but for the room of its list of targets
pub record IsSamePass (old new : Pass) : Type 0 where
  pub number_is : new.number ≡ old.number
  pub kind_is : new.kind ≡ old.kind
  pub targets_are : new.targets.items ≡ old.targets.items
  pub max_is : new.max ≡ old.max
  pub place_is : new.at ≡ old.at
  pub errors_are : new.errors ≡ old.errors
  pub running_is : new.running ≡ old.running

abbrev pub SamePass : Option Pass → Option Pass → Type 0
SamePass None None = ⊤
SamePass None (Some new) = ⊥
SamePass (Some old) None = ⊥
SamePass (Some old) (Some new) = IsSamePass old new

-- ---- events

-- so many of the reserved events were used
pub record Uses (old new : History) (events : ℕ) : Type 0 where
  pub reserved : reserved_of new + events ≡ reserved_of old
  pub limit : limit_in new ≡ limit_in old

-- so many events were reserved, or why not; want of memory may be that of the arms
abbrev pub IsReservedFor : History → ℕ → Result Unit ReserveFault → Type 0
IsReservedFor h events (Ok done) = IsReserved h events (Ok done)
IsReservedFor h events (Err (Worn used)) = IsReserved h events (Err (Worn used))
IsReservedFor h events (Err NoMemory) = ⊤
