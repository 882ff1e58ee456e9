-- How an arm comes to a slot of each metaslab.
use Rattle.std.specs.Prelude.{◌≡◌, ◌<◌, ◌≤◌, ◌⊎◌, ℕ, List, Option, Some, None}
use Rattle.draid_names.specs.declared.arm.Arm.{Arm}
use Rattle.draid_names.specs.declared.arm.ArmKind.{ArmKind}
use Rattle.draid_names.specs.declared.arm.ArmKind.TheVariants as kind
use Rattle.draid_names.specs.declared.numbers.TheConstants.{LAST_NUMBER}
use Rattle.draid_names.specs.declared.refusal.SlotFault.{SlotFault}
use Rattle.draid_names.specs.declared.refusal.SlotFault.TheVariants as fault
use Rattle.draid_spec.specs.Geometry.{child_sectors}
use Rattle.draid_rack.specs.declared.Rack.{Ghosts}
use Rattle.draid_machine.specs.declared.event.Event.TheVariants.{Attach}
use Rattle.draid_machine.specs.Names.{named}
use Rattle.draid_segments.specs.Segments.{Pieces}
use Rattle.draid_entries.specs.History.{reserved_of}
use Rattle.draid_slots.specs.Faults.{IsAttachRefused, MayAttach}
use Rattle.draid_slots.specs.Table.{SlotTable}
use Rattle.draid_shard.specs.Calls.{ActsOn, SameKit}
use Rattle.draid_shard.specs.Changes.{KeepsBlocks}
use Rattle.draid_shard.specs.Fits.{Valid}
use Rattle.draid_shard.specs.States.{Does}
use Rattle.draid_shard.specs.declared.shard.Shard.{Shard}
use Rattle.draid_disks.specs.Checks.{Each}
use Rattle.draid_disks.specs.Disks.{HasArmRoom, HasAttached, IsNewLeaf, TakesRoomOfOne, Uses, arm_called}
use Rattle.draid_disks.specs.Replanning.{MayReplan, attach_events}

-- no rule forbids the arm in a metaslab, and events and room are reserved for it there
pub record MayCome {R A : Type 0} (rack : Ghosts R) (slot : ℕ) (kind : ArmKind) (number : ℕ) (shard : Shard R A) : Type 0 where
  pub valid : Valid rack shard
  pub reserved : attach_events shard.pass ≤ reserved_of shard.history
  pub room : HasArmRoom shard
  pub leaf : IsNewLeaf rack shard kind number
  pub may : MayAttach shard.slots slot (arm_called kind number)
  pub again : MayReplan shard.pass shard.last_pass shard.open_group

-- it came there
pub record Attaches {R A : Type 0} (rack : Ghosts R) (slot : ℕ) (kind : ArmKind) (number : ℕ) (old new : Shard R A) : Type 0 where
  pub valid : Valid rack new
  pub kit : SameKit old new
  pub does : Does old new (Attach slot (named kind number))
  pub acts : (pieces : Pieces) → ActsOn rack old new (Attach slot (named kind number)) pieces
  pub keeps : KeepsBlocks old new
  pub slots : HasAttached old.slots new.slots slot (arm_called kind number)
  pub reserve : Uses old.history new.history (attach_events old.pass)
  pub left : TakesRoomOfOne old new

-- ---- the rules

-- a rebuild can be planned again in each of some metaslabs that has one
abbrev pub AllReplan : {R A : Type 0} → List (Shard R A) → Type 0
AllReplan {R} {A} shards = Each (λ (shard : Shard R A). MayReplan shard.pass shard.last_pass shard.open_group) shards

-- no rule forbids an arm in a pool: neither these slots, whose arms all its metaslabs have, nor a rebuild
pub record MayComeAll {R A : Type 0} (slots : SlotTable) (shards : List (Shard R A)) (slot : ℕ) (arm : Arm) : Type 0 where
  pub may : MayAttach slots slot arm
  pub again : AllReplan shards

-- the first rule that does: one on slots, or a rebuild can't be planned again
abbrev pub IsBarred : {R A : Type 0} → SlotTable → List (Shard R A) → ℕ → Arm → SlotFault → Type 0
IsBarred slots shards slot arm fault.Last = MayAttach slots slot arm × (AllReplan shards → ⊥)
IsBarred slots shards slot arm fault.NoSuch = IsAttachRefused slots slot arm fault.NoSuch
IsBarred slots shards slot arm (fault.SpareBusy by) = IsAttachRefused slots slot arm (fault.SpareBusy by)
IsBarred slots shards slot arm (fault.Full arms) = IsAttachRefused slots slot arm (fault.Full arms)
IsBarred slots shards slot arm why = ⊥

-- ---- a new disk

-- a disk of so many sectors is smaller than a child of the layout
abbrev pub IsTooSmall : SlotTable → Option ℕ → Type 0
IsTooSmall slots None = ⊥
IsTooSmall slots (Some have) = have < child_sectors slots.geometry

-- the fault of such a disk
abbrev pub IsSmallFor : SlotTable → Option ℕ → SlotFault → Type 0
IsSmallFor slots sectors (fault.TooSmall need have) = (sectors ≡ Some have) × (need ≡ child_sectors slots.geometry) × (have < need)
IsSmallFor slots sectors why = ⊥

-- no rule forbids it as a leaf of this number
pub record MayReplace {R A : Type 0} (slots : SlotTable) (shards : List (Shard R A)) (slot leaf : ℕ) (sectors : Option ℕ) : Type 0 where
  pub come : MayComeAll slots shards slot (arm_called kind.Leaf leaf)
  pub large : IsTooSmall slots sectors → ⊥
  pub number : leaf < LAST_NUMBER

-- the first rule that does
abbrev pub IsReplaceBarred : {R A : Type 0} → SlotTable → List (Shard R A) → ℕ → ℕ → Option ℕ → SlotFault → Type 0
IsReplaceBarred slots shards slot leaf sectors fault.Last =
    MayAttach slots slot (arm_called kind.Leaf leaf) × (IsTooSmall slots sectors → ⊥) × ((LAST_NUMBER ≤ leaf) ⊎ (AllReplan shards → ⊥))
IsReplaceBarred slots shards slot leaf sectors fault.NoSuch = IsAttachRefused slots slot (arm_called kind.Leaf leaf) fault.NoSuch
IsReplaceBarred slots shards slot leaf sectors (fault.Full arms) = IsAttachRefused slots slot (arm_called kind.Leaf leaf) (fault.Full arms)
IsReplaceBarred slots shards slot leaf sectors (fault.TooSmall need have) =
    MayAttach slots slot (arm_called kind.Leaf leaf) × IsSmallFor slots sectors (fault.TooSmall need have)
IsReplaceBarred slots shards slot leaf sectors why = ⊥
