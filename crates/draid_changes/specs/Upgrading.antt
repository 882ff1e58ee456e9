-- How version 2 is asked for in the metaslabs of a pool, and what an upgrade says by its answer.
use Rattle.std.specs.Prelude.{◌≡◌, ◌≢◌, ◌<◌, ◌⊎◌, ℕ, List, None, Result, Ok, Err}
use Rattle.draid_rack.specs.declared.Rack.{Ghosts}
use Rattle.draid_machine.specs.declared.event.Event.TheVariants as event
use Rattle.draid_segments.specs.Segments.{Pieces}
use Rattle.draid_entries.specs.History.{reserved_of}
use Rattle.draid_shard.specs.Alike.{KeepsArms}
use Rattle.draid_shard.specs.Calls.{ActsOn, SameKit}
use Rattle.draid_shard.specs.Changes.{KeepsBlocks}
use Rattle.draid_shard.specs.Fits.{Valid}
use Rattle.draid_shard.specs.States.{Does}
use Rattle.draid_shard.specs.declared.shard.Shard.{Shard}
use Rattle.draid_disks.specs.Disks.{Uses}
use Rattle.draid_session.specs.Holds.{Hold}
use Rattle.draid_session.specs.State.{State, Store}
use Rattle.draid_session.specs.Versions as versions
use Rattle.draid_pool.specs.Syncing.{end_of}
use Rattle.draid_pool.specs.declared.fault.SyncFault.{SyncFault}
use Rattle.draid_changes.specs.declared.upgrading.UpgradeFault.{UpgradeFault}
use Rattle.draid_changes.specs.declared.upgrading.UpgradeFault.TheVariants as fault

-- ---- metaslabs

-- version 2 may be asked for in a metaslab: an event is reserved for it, and no group is closing
pub record MayUpgrade {R A : Type 0} (rack : Ghosts R) (shard : Shard R A) : Type 0 where
  pub valid : Valid rack shard
  pub reserved : 0 < reserved_of shard.history
  pub idle : shard.closing ≡ None

-- it was asked for there
pub record Upgrades {R A : Type 0} (rack : Ghosts R) (old new : Shard R A) : Type 0 where
  pub valid : Valid rack new
  pub kit : SameKit old new
  pub does : Does old new event.Upgrade
  pub acts : (pieces : Pieces) → ActsOn rack old new event.Upgrade pieces
  pub keeps : KeepsBlocks old new
  pub slots : KeepsArms old.slots new.slots
  pub asked : new.asked ≡ 2
  pub reserve : Uses old.history new.history 1

-- it is asked for there: only just, or it was already
abbrev pub UpgradesIn : {R A : Type 0} → Ghosts R → Shard R A → Shard R A → Type 0
UpgradesIn rack old new = Upgrades rack old new ⊎ ((new ≡ old) × (old.asked ≢ 1) × Valid rack old)

-- ---- the pool

-- version 2 is asked for in each metaslab and of the uberblock, and a sync comes to this end
abbrev pub RaiseDoes : State → Result ℕ SyncFault → List Hold → Store → Type 0
RaiseDoes x (Ok group) holds new = (new ≡ x.store) × ((thin : ℕ) × versions.Asked x.geometry x.perms group thin holds (end_of (Ok group)))
RaiseDoes x (Err why) holds new = (new ≡ x.store) × ((group : ℕ) × (thin : ℕ) × versions.Asked x.geometry x.perms group thin holds (end_of {T = ℕ} (Err why)))

-- an upgrade: the group that it committed; that version 2 is asked for already; or why no group was committed
abbrev pub UpgradeDoes : State → Result ℕ UpgradeFault → List Hold → Store → Type 0
UpgradeDoes x (Ok group) holds new = (new ≡ x.store) × versions.Upgrades x.geometry x.perms group holds (end_of (Ok group))
UpgradeDoes x (Err fault.Already) holds new = (new ≡ x.store) × versions.IsAlready x.geometry x.perms holds
UpgradeDoes x (Err (fault.Sync why)) holds new = (new ≡ x.store) × ((group : ℕ) × versions.Upgrades x.geometry x.perms group holds (end_of {T = ℕ} (Err why)))
