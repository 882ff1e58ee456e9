-- How an arm leaves its slot in each metaslab of a pool, and what a detachment says by its answer.
use Rattle.std.specs.Prelude.{◌≡◌, ◌<◌, ℕ, List, None, Result, Ok, Err}
use Rattle.draid_names.specs.declared.arm.ArmAt.{ArmAt}
use Rattle.draid_rack.specs.declared.Rack.{Ghosts}
use Rattle.draid_spec.specs.declared.layout.Geometry.{Geometry}
use Rattle.draid_perm.specs.declared.perms.Perms.{Perms}
use Rattle.draid_machine.specs.declared.event.Event.TheVariants as event
use Rattle.draid_machine.specs.declared.names.ArmName.{ArmName}
use Rattle.draid_segments.specs.Segments.{Pieces}
use Rattle.draid_entries.specs.History.{reserved_of}
use Rattle.draid_slots.specs.Faults.{MayDetach}
use Rattle.draid_shard.specs.Calls.{ActsOn, SameKit}
use Rattle.draid_shard.specs.Changes.{KeepsBlocks}
use Rattle.draid_shard.specs.Fits.{Valid}
use Rattle.draid_shard.specs.States.{Does}
use Rattle.draid_shard.specs.declared.shard.Shard.{Shard}
use Rattle.draid_disks.specs.Disks.{HasArmRoom, HasDetached, IsNamed, KeepsLeafLogs, Uses}
use Rattle.draid_session.specs.Arms as arms
use Rattle.draid_session.specs.Groups as groups
use Rattle.draid_session.specs.Holds.{Hold}
use Rattle.draid_session.specs.Phases.{Chain, End}
use Rattle.draid_session.specs.State.{State, Store}
use Rattle.draid_pool.specs.Syncing.{end_of}
use Rattle.draid_pool.specs.declared.fault.SyncFault.{SyncFault}
use Rattle.draid_changes.specs.declared.detaching.DetachFault.{DetachFault}
use Rattle.draid_changes.specs.declared.detaching.DetachFault.TheVariants as fault

-- ---- metaslabs

-- no rule keeps the arm at a place in its slot, which has this name
pub record MayGo {R A : Type 0} (at : ArmAt) (name : ArmName) (shard : Shard R A) : Type 0 where
  pub pass : shard.pass ≡ None
  pub low : at.slot < shard.slots.geometry.spec.children
  pub there : IsNamed shard.slots at name
  pub may : MayDetach shard.slots at

-- and an event and room are reserved for it, and no group is closing
pub record MayLeave {R A : Type 0} (rack : Ghosts R) (at : ArmAt) (name : ArmName) (shard : Shard R A) : Type 0 where
  pub valid : Valid rack shard
  pub reserved : 0 < reserved_of shard.history
  pub room : HasArmRoom shard
  pub idle : shard.closing ≡ None
  pub may : MayGo at name shard

-- it left
pub record Leaves {R A : Type 0} (rack : Ghosts R) (at : ArmAt) (name : ArmName) (old new : Shard R A) : Type 0 where
  pub valid : Valid rack new
  pub kit : SameKit old new
  pub does : Does old new (event.Detach at.slot name)
  pub acts : (pieces : Pieces) → ActsOn rack old new (event.Detach at.slot name) pieces
  pub keeps : KeepsBlocks old new
  pub slots : HasDetached old.slots new.slots at old.open_group
  pub logs : KeepsLeafLogs old.slots new.slots at
  pub pass : new.pass ≡ old.pass
  pub reserve : Uses old.history new.history 1

-- ---- the pool

-- the arm goes from its slot in each metaslab, and a sync comes
abbrev pub Going : Geometry → Perms → ℕ → ArmName → ℕ → ℕ → List Hold → End → Type 0
Going geometry perms slot name group thin =
    Chain (arms.ReservePhase geometry perms (arms.one_event geometry perms)) (Chain (arms.EventPhase geometry perms (event.Detach slot name)) (groups.Syncs geometry perms group thin))

abbrev pub LeaveDoes : State → ℕ → ArmName → Result ℕ SyncFault → List Hold → Store → Type 0
LeaveDoes x slot name (Ok group) holds new = (new ≡ x.store) × ((thin : ℕ) × Going x.geometry x.perms slot name group thin holds (end_of (Ok group)))
LeaveDoes x slot name (Err why) holds new = (new ≡ x.store) × ((group : ℕ) × (thin : ℕ) × Going x.geometry x.perms slot name group thin holds (end_of {T = ℕ} (Err why)))

-- a detachment: the group that it committed; the rule that is broken first; or why no group was committed
abbrev pub DetachDoes : State → ArmName → Result ℕ DetachFault → List Hold → Store → Type 0
DetachDoes x name (Ok group) holds new = (new ≡ x.store) × arms.LosesArm x.geometry x.perms name group holds (end_of (Ok group))
DetachDoes x name (Err (fault.Slot why)) holds new = (new ≡ x.store) × arms.Refuses x.geometry x.perms (arms.BreaksDetach x.geometry x.perms name) why holds
DetachDoes x name (Err (fault.Sync why)) holds new = (new ≡ x.store) × ((group : ℕ) × arms.LosesArm x.geometry x.perms name group holds (end_of {T = ℕ} (Err why)))
