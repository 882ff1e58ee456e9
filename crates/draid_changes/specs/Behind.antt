-- What the arms of a pool's metaslabs are behind a command on them, whatever is known of the pool.
use Rattle.std.specs.Prelude.{◌≡◌, ◌<◌, ◌+◌, ◌⊎◌, ⊤, ℕ, Bool, true, false, List, Option, Some, None, Result, Ok, Err, slice_get}
use Rattle.draid_names.specs.declared.arm.Arm.{Arm}
use Rattle.draid_names.specs.declared.arm.ArmAt.{ArmAt}
use Rattle.draid_names.specs.declared.arm.ArmKind.TheVariants as kind
use Rattle.draid_names.specs.declared.refusal.SlotFault.{SlotFault}
use Rattle.draid_names.specs.declared.refusal.SlotFault.TheVariants as slot
use Rattle.draid_script.specs.Line.{Command, Silent, CreatePool, ImportPool, ExportPool, SyncPool, CancelPasses, CrashPool, WriteObject, FillObjects, ReadObject, FreeObject, SumObjects, TakeOffline, TakeOnline, DamageSector, AttachSpare, ReplaceDisk, DetachArm, RebuildPool, ScrubPool, RebalanceSlot, ShowStatus, OpenLanes, UpgradePool, RunAgent, ShowJournal, TakeCheckpoint, RewindPool, DiscardCheckpoint}
use Rattle.draid_reply.specs.declared.reply.Reply.{Reply}
use Rattle.draid_reply.specs.declared.reply.Reply.TheVariants.{OfflineDone, OfflineRefused, OnlineDone, OnlineRefused, Spared, SpareRefused, Replaced, ReplaceRefused, Detached, DetachRefused, Rebalanced, Upgraded, UpgradeAlready}
use Rattle.draid_slots.specs.Table.{IsArmOf, SlotTable, arm_at}
use Rattle.draid_shard.specs.declared.shard.Shard.{Shard}
use Rattle.draid_uber.specs.Uber.{next_leaf_of}
use Rattle.draid_session.specs.Arms.{arm_of}
use Rattle.draid_pool.specs.declared.pool.Pool.{Pool}
use Rattle.draid_machine.specs.declared.names.ArmName.{ArmName}
use Rattle.draid_disks.specs.Checks.{Each, IsGoingRefused}
use Rattle.draid_disks.specs.Disks.{IsLeafArm, IsNamed, arm_called}
use Rattle.draid_changes.specs.Attaching.{IsBarred, IsReplaceBarred}
use Rattle.draid_changes.specs.Balancing.{AllAlone, StayTogether}
use Rattle.draid_changes.specs.declared.detaching.DetachFault.{DetachFault}
use Rattle.draid_changes.specs.declared.detaching.DetachFault.TheVariants as going
use Rattle.draid_changes.specs.declared.upgrading.UpgradeFault.{UpgradeFault}
use Rattle.draid_changes.specs.declared.upgrading.UpgradeFault.TheVariants as raising
use Rattle.draid_changes.specs.declared.fault.ArmFault.{ArmFault}
use Rattle.draid_changes.specs.declared.fault.ArmFault.TheVariants as fault

-- a leaf is an arm of one of the slots that there are
abbrev pub HasLeaf : SlotTable → ℕ → Type 0
HasLeaf slots leaf = (at : ArmAt) × (at.slot < slots.geometry.spec.children) × IsArmOf kind.Leaf leaf (arm_at slots at)

-- it is one, and each arm of that leaf is offline, or none of them is
pub record IsSwitched (slots : SlotTable) (leaf : ℕ) (offline : Bool) : Type 0 where
  pub there : IsLeafArm slots leaf
  pub switched : (at : ArmAt) (arm : Arm) → arm_at slots at ≡ Some arm → arm.kind ≡ kind.Leaf → arm.number ≡ leaf → arm.offline ≡ offline

-- so in all metaslabs, or it is an arm in none of them
abbrev pub AllSwitched : {R A : Type 0} → ℕ → Bool → List (Shard R A) → Type 0
AllSwitched {R} {A} leaf offline shards = Each (λ (shard : Shard R A). IsSwitched shard.slots leaf offline) shards

abbrev pub NoneHas : {R A : Type 0} → ℕ → List (Shard R A) → Type 0
NoneHas {R} {A} leaf shards = Each (λ (shard : Shard R A). HasLeaf shard.slots leaf → ⊥) shards

-- by the answer of the call that takes it offline or online
abbrev pub LeafIs : {R A : Type 0} → ℕ → Bool → Result Unit ArmFault → List (Shard R A) → Type 0
LeafIs leaf offline (Ok done) shards = AllSwitched leaf offline shards
LeafIs leaf offline (Err (fault.Slot why)) shards = (why ≡ slot.NoSuch) × NoneHas leaf shards
LeafIs leaf offline (Err fault.Worn) shards = ⊤
LeafIs leaf offline (Err fault.Shelf) shards = ⊤
LeafIs leaf offline (Err fault.NoMemory) shards = ⊤

-- ---- a spare

-- a spare is an arm of a slot in all metaslabs
abbrev pub AllHaveSpare : {R A : Type 0} → ℕ → ℕ → List (Shard R A) → Type 0
AllHaveSpare {R} {A} slot spare shards = Each (λ (shard : Shard R A). (arm : ℕ) × IsArmOf kind.Spare spare (arm_at shard.slots (record { slot = slot; arm = arm }))) shards

-- or this rule forbids it, by the slots of the first metaslab and by the passes of all
abbrev pub SpareIsBarred : {R A : Type 0} → ℕ → ℕ → SlotFault → List (Shard R A) → Type 0
SpareIsBarred {R} {A} slot spare why shards = (first : Shard R A) × (slice_get shards 0 ≡ Some first) × IsBarred first.slots shards slot (arm_called kind.Spare spare) why

-- by the answer of the call that attaches it
abbrev pub SpareIs : {R A : Type 0} → ℕ → ℕ → Result Unit ArmFault → List (Shard R A) → Type 0
SpareIs slot spare (Ok done) shards = AllHaveSpare slot spare shards
SpareIs slot spare (Err (fault.Slot why)) shards = SpareIsBarred slot spare why shards
SpareIs slot spare (Err fault.Worn) shards = ⊤
SpareIs slot spare (Err fault.Shelf) shards = ⊤
SpareIs slot spare (Err fault.NoMemory) shards = ⊤

-- ---- a new disk

-- a leaf is an arm of a slot in all metaslabs
abbrev pub AllHaveLeaf : {R A : Type 0} → ℕ → ℕ → List (Shard R A) → Type 0
AllHaveLeaf {R} {A} slot leaf shards = Each (λ (shard : Shard R A). (arm : ℕ) × IsArmOf kind.Leaf leaf (arm_at shard.slots (record { slot = slot; arm = arm }))) shards

-- or this rule forbids the disk, as a leaf of the pool's next number
abbrev pub DiskIsBarred : {R A : Type 0} → ℕ → Option ℕ → SlotFault → Pool R A → Type 0
DiskIsBarred {R} {A} slot sectors why pool =
    (first : Shard R A) × (slice_get pool.metaslabs.shards.items 0 ≡ Some first) × IsReplaceBarred first.slots pool.metaslabs.shards.items slot (next_leaf_of pool.uber) sectors why

-- by the answer of the call that attaches it: the leaf's number was the next one, and is used up
abbrev pub DiskIs : {R A : Type 0} → ℕ → Option ℕ → Result ℕ ArmFault → Pool R A → Type 0
DiskIs slot sectors (Ok leaf) pool = AllHaveLeaf slot leaf pool.metaslabs.shards.items × (next_leaf_of pool.uber ≡ leaf + 1)
DiskIs slot sectors (Err (fault.Slot why)) pool = DiskIsBarred slot sectors why pool
DiskIs slot sectors (Err fault.Worn) pool = ⊤
DiskIs slot sectors (Err fault.Shelf) pool = ⊤
DiskIs slot sectors (Err fault.NoMemory) pool = ⊤

-- ---- an arm that goes, and version 2

-- this rule forbids that an arm goes: it is in no slot of the first metaslab, or what is there may not go
abbrev pub GoingIsBarred : {R A : Type 0} → ArmName → SlotFault → Pool R A → Type 0
GoingIsBarred {R} {A} arm why pool =
    (first : Shard R A) × (slice_get pool.metaslabs.shards.items 0 ≡ Some first)
    × (((why ≡ slot.NoSuch) × ((at : ArmAt) → IsNamed first.slots at arm → ⊥)) ⊎ ((at : ArmAt) × IsNamed first.slots at arm × IsGoingRefused first.slots pool.metaslabs.shards.items at why))

-- it is an arm in no metaslab
abbrev pub IsGone : {R A : Type 0} → ArmName → Pool R A → Type 0
IsGone {R} {A} arm pool = Each (λ (shard : Shard R A). (at : ArmAt) → IsNamed shard.slots at arm → ⊥) pool.metaslabs.shards.items

-- by the answer of the call that detaches it
abbrev pub GoingIs : {R A : Type 0} → ArmName → Result ℕ DetachFault → Pool R A → Type 0
GoingIs arm (Ok group) pool = IsGone arm pool
GoingIs arm (Err (going.Slot why)) pool = GoingIsBarred arm why pool
GoingIs arm (Err (going.Sync why)) pool = ⊤

-- the first metaslab asks for version 2
abbrev pub AsksForTwo : {R A : Type 0} → Pool R A → Type 0
AsksForTwo {R} {A} pool = (first : Shard R A) × (slice_get pool.metaslabs.shards.items 0 ≡ Some first) × (first.asked ≡ 2)

-- each metaslab has it
abbrev pub AllHaveTwo : {R A : Type 0} → Pool R A → Type 0
AllHaveTwo {R} {A} pool = Each (λ (shard : Shard R A). shard.version ≡ 2) pool.metaslabs.shards.items

-- by the answer of the call that asks for it
abbrev pub UpgradeIs : {R A : Type 0} → Result ℕ UpgradeFault → Pool R A → Type 0
UpgradeIs (Ok group) pool = AllHaveTwo pool
UpgradeIs (Err raising.Already) pool = AsksForTwo pool
UpgradeIs (Err (raising.Sync why)) pool = ⊤

-- ---- by a command and its reply

-- Nothing is said of a command that changes no arm, nor of a reply that tells nothing of them. One that isn't built has no reply.
abbrev pub ArmsBehind : {R A : Type 0} → Command → Reply → Pool R A → Type 0
ArmsBehind Silent reply pool = ⊤
ArmsBehind (CreatePool text children keys) reply pool = ⊤
ArmsBehind ImportPool reply pool = ⊤
ArmsBehind ExportPool reply pool = ⊤
ArmsBehind SyncPool reply pool = ⊤
ArmsBehind CancelPasses reply pool = ⊤
ArmsBehind CrashPool reply pool = ⊤
ArmsBehind (WriteObject object bytes) reply pool = ⊤
ArmsBehind (FillObjects first count len seed) reply pool = ⊤
ArmsBehind (ReadObject object) reply pool = ⊤
ArmsBehind (FreeObject object) reply pool = ⊤
ArmsBehind (SumObjects first count) reply pool = ⊤
ArmsBehind (TakeOffline leaf) (OfflineDone l) pool = AllSwitched leaf true pool.metaslabs.shards.items
ArmsBehind (TakeOffline leaf) (OfflineRefused l) pool = NoneHas leaf pool.metaslabs.shards.items
ArmsBehind (TakeOffline leaf) reply pool = ⊤
ArmsBehind (TakeOnline leaf) (OnlineDone l) pool = AllSwitched leaf false pool.metaslabs.shards.items
ArmsBehind (TakeOnline leaf) (OnlineRefused l) pool = NoneHas leaf pool.metaslabs.shards.items
ArmsBehind (TakeOnline leaf) reply pool = ⊤
ArmsBehind (DamageSector leaf sector) reply pool = ⊤
ArmsBehind (AttachSpare slot spare) (Spared s called) pool = AllHaveSpare slot spare pool.metaslabs.shards.items
ArmsBehind (AttachSpare slot spare) (SpareRefused s why) pool = SpareIsBarred slot spare why pool.metaslabs.shards.items
ArmsBehind (AttachSpare slot spare) reply pool = ⊤
ArmsBehind (ReplaceDisk slot sectors) (Replaced s leaf) pool = AllHaveLeaf slot leaf pool.metaslabs.shards.items × (next_leaf_of pool.uber ≡ leaf + 1)
ArmsBehind (ReplaceDisk slot sectors) (ReplaceRefused s why) pool = DiskIsBarred slot sectors why pool
ArmsBehind (ReplaceDisk slot sectors) reply pool = ⊤
ArmsBehind (DetachArm arm) (Detached a group) pool = IsGone (arm_of arm) pool
ArmsBehind (DetachArm arm) (DetachRefused a why) pool = GoingIsBarred (arm_of arm) why pool
ArmsBehind (DetachArm arm) reply pool = ⊤
ArmsBehind (RebuildPool limit) reply pool = ⊤
ArmsBehind (ScrubPool limit) reply pool = ⊤
ArmsBehind (RebalanceSlot slot) (Rebalanced s blocks repaired errors (Some group)) pool = AllAlone slot pool
ArmsBehind (RebalanceSlot slot) (Rebalanced s blocks repaired errors None) pool = StayTogether slot errors pool
ArmsBehind (RebalanceSlot slot) reply pool = ⊤
ArmsBehind (ShowStatus form) reply pool = ⊤
ArmsBehind (OpenLanes count) reply pool = ⊤
ArmsBehind UpgradePool (Upgraded group) pool = AllHaveTwo pool
ArmsBehind UpgradePool UpgradeAlready pool = AsksForTwo pool
ArmsBehind UpgradePool reply pool = ⊤
ArmsBehind (RunAgent least) reply pool = ⊤
ArmsBehind ShowJournal reply pool = ⊤
ArmsBehind TakeCheckpoint reply pool = ⊤
ArmsBehind RewindPool reply pool = ⊤
ArmsBehind DiscardCheckpoint reply pool = ⊤
