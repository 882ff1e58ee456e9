-- The parts of a sync.
use Rattle.std.specs.Prelude.{◌≡◌, ◌<◌, ◌≤◌, ℕ, List, true, Option, Some, None, Result, Ok, Err, length, slice_get}
use Rattle.draid_rack.specs.declared.Rack as racks
use Rattle.draid_area.specs.declared.Area as areas
use Rattle.draid_machine.specs.declared.event.Event.TheVariants as event
use Rattle.draid_machine.specs.Images.{IsImage}
use Rattle.draid_machine.specs.State as machine
use Rattle.draid_segments.specs.Segments.{Pieces}
use Rattle.draid_entries.specs.Entries.{SameEntries}
use Rattle.draid_slots.specs.Changes.{Commits as CommitsSlots}
use Rattle.draid_session.specs.Follows.{MetaslabActs}
use Rattle.draid_session.specs.Groups as groups
use Rattle.draid_session.specs.Holds.{Act, Hold, On, view_of}
use Rattle.draid_session.specs.Phases.{End, Went, WasWorn, WasLast, Starved, Broke}
use Rattle.draid_session.specs.State.{Metaslab, State, Store}
use Rattle.draid_shard.specs.Alike.{KeepsArms}
use Rattle.draid_shard.specs.Calls.{ActsOn, SameAreas, SameReserve}
use Rattle.draid_pool.specs.Changes.{CommitsGroup}
use Rattle.draid_shard.specs.Fits.{Valid}
use Rattle.draid_pool.specs.Groups.{DropsDetached}
use Rattle.draid_shard.specs.Part.{Part, layout_in}
use Rattle.draid_shard.specs.States.{Does, part_of}
use Rattle.draid_shard.specs.declared.shard.Shard.{Shard}
use Rattle.draid_pool.specs.Importable.{IsAlike, Shared}
use Rattle.draid_pool.specs.Keeping.{ArmsStay, KeepsEach}
use Rattle.draid_pool.specs.Metaslabs.{IsMetaslab}
use Rattle.draid_pool.specs.Passes.{KeepsPass}
use Rattle.draid_pool.specs.Records.{LeavesAreBelow}
use Rattle.draid_pool.specs.declared.fault.SyncFault.{SyncFault}
use Rattle.draid_pool.specs.declared.fault.SyncFault.TheVariants as sync
use Rattle.draid_pool.specs.declared.fault.Synced.{Synced}
use Rattle.draid_pool.specs.declared.pool.Pool.{Pool}

-- how a phase ended, by its answer
abbrev pub end_of : {T : Type 0} → Result T SyncFault → End
end_of (Ok it) = Went
end_of (Err sync.Worn) = WasWorn
end_of (Err sync.Last) = WasLast
end_of (Err sync.Shelf) = Broke
end_of (Err sync.NoMemory) = Starved

-- a phase, with nothing else of the pool's own changed
abbrev pub Phase : State → (List Hold → End → Type 0) → End → List Hold → Store → Type 0
Phase x does end holds new = (new ≡ x.store) × does holds end

-- a group was committed, and so many of its blocks are thin; or it was stopped
abbrev pub GroupDoes : State → ℕ → Result ℕ SyncFault → List Hold → Store → Type 0
GroupDoes x group (Ok thin) = Phase x (groups.Group x.geometry x.perms group thin) Went
GroupDoes x group (Err why) = Phase x (λ holds end. (thin : ℕ) × groups.Group x.geometry x.perms group thin holds end) (end_of {T = ℕ} (Err why))

-- a group was sealed in each metaslab, and so many of its blocks are thin; or it was stopped
abbrev pub SealDoes : State → ℕ → Result ℕ SyncFault → List Hold → Store → Type 0
SealDoes x group (Ok thin) = Phase x (groups.SealPhase x.geometry x.perms group thin) Went
SealDoes x group (Err why) = Phase x (λ holds end. (thin : ℕ) × groups.SealPhase x.geometry x.perms group thin holds end) (end_of {T = ℕ} (Err why))

-- a group is closing in each of the shards
abbrev pub AreClosing : {R A : Type 0} → List (Shard R A) → ℕ → Type 0
AreClosing {R = R} {A = A} shards group = (m : ℕ) (shard : Shard R A) → slice_get shards m ≡ Some shard → shard.closing ≡ Some group

-- and is sealed there
abbrev pub AreSealed : {R A : Type 0} → List (Shard R A) → ℕ → Type 0
AreSealed {R = R} {A = A} shards group = (m : ℕ) (shard : Shard R A) → slice_get shards m ≡ Some shard → (shard.closing ≡ Some group) × (shard.sealed ≡ true)

-- no group is closing in any of the shards
abbrev pub AreIdle : {R A : Type 0} → List (Shard R A) → Type 0
AreIdle {R = R} {A = A} shards = (m : ℕ) (shard : Shard R A) → slice_get shards m ≡ Some shard → shard.closing ≡ None

-- ---- one metaslab

-- One hold of a metaslab led to one for which the shard stands, with these pieces.
pub record Turns {R A : Type 0} (rack : racks.Ghosts R) (area : areas.Ghosts A) (part : Part) (pieces : Pieces) (x : Metaslab) (new : Shard R A) (does : Hold → Metaslab → Type 0) : Type 0 where
  pub act : Act
  pub reached : Metaslab
  pub acts : MetaslabActs (layout_in part) act x reached
  pub done : does (On (view_of part.number x) act) reached
  pub is : IsMetaslab rack area part pieces new reached

-- What the closing and the sealing of a group leave: what is held, the committed group, the images that were there, that leaves have low numbers,
-- and what all metaslabs have in common.
pub record KeepsCommitted (old new : machine.State) : Type 0 where
  pub held : new.core.held ≡ old.core.held
  pub committed : new.committed ≡ old.committed
  pub images : (image : machine.Image) → IsImage old image → IsImage new image
  pub leaves : (kept_leaf next_leaf : ℕ) → LeavesAreBelow kept_leaf next_leaf old → LeavesAreBelow kept_leaf next_leaf new
  pub alike : (shared : Shared) → IsAlike shared old → IsAlike shared new
  pub opens : old.open_group ≤ new.open_group

-- all blocks, tickets, arms and the committed group are as they were, whatever the state
pub record KeepsTable {R A : Type 0} (old new : Shard R A) : Type 0 where
  pub part : part_of new ≡ part_of old
  pub entries : SameEntries old.entries new.entries
  pub committed : new.committed ≡ old.committed
  pub opens : old.open_group ≤ new.open_group
  pub slots : KeepsArms old.slots new.slots

-- its pass, its arms and the version that it asks for are as they were, and the count of its rack as a whole didn't fall
pub record KeepsShard {R A : Type 0} (faults : R → Option ℕ → ℕ) (old new : Shard R A) : Type 0 where
  pub pass : KeepsPass old.pass new.pass
  pub rack : faults old.rack None ≤ faults new.rack None
  pub arms : ArmsStay old.slots new.slots
  pub asked : new.asked ≡ old.asked

-- so in each metaslab
abbrev pub KeepsShards : {R A : Type 0} → (R → Option ℕ → ℕ) → Pool R A → Pool R A → Type 0
KeepsShards faults old new = KeepsEach (KeepsShard faults) old new

-- a metaslab's group was closed, or why it wasn't
abbrev pub CloseIs : Part → ℕ → Result Unit SyncFault → Hold → Type 0
CloseIs part group (Ok done) hold = groups.Closes part.geometry part.perms group part.number hold 0
CloseIs part group (Err why) hold = groups.CloseStops part.geometry part.perms group part.number hold (end_of {T = Unit} (Err why))

-- a metaslab's group was sealed, and so many of its blocks are thin; or why it wasn't
abbrev pub SealIs : Part → ℕ → Result ℕ SyncFault → Hold → Type 0
SealIs part group (Ok thin) hold = groups.Seals part.geometry part.perms group part.number hold thin
SealIs part group (Err why) hold = groups.SealStops part.geometry part.perms group part.number hold (end_of {T = ℕ} (Err why))

-- a shard committed its group
pub record Commits {R A : Type 0} (rack : racks.Ghosts R) (group : ℕ) (old new : Shard R A) : Type 0 where
  pub valid : Valid rack new
  pub areas : SameAreas old new
  pub does : Does old new (event.Commit group)
  pub commits : CommitsGroup old new group
  pub acts : (pieces : Pieces) → ActsOn rack old new (event.Commit group) pieces
  pub leaves : DropsDetached rack old new group
  pub slots : CommitsSlots old.slots new.slots group
  pub reserve : SameReserve old new
  pub stays : KeepsShard rack.faults old new
  pub version : new.version ≡ new.asked

-- ---- all metaslabs

-- each shard below a number committed its group, and the others are as they were
pub record CommitsBelow {R A : Type 0} (rack : racks.Ghosts R) (group m : ℕ) (old new : List (Shard R A)) : Type 0 where
  pub many : length new ≡ length old
  pub below : (k : ℕ) (shard : Shard R A) → k < m → slice_get old k ≡ Some shard → (after : Shard R A) × (slice_get new k ≡ Some after) × Commits rack group shard after
  pub others : (k : ℕ) → m ≤ k → slice_get new k ≡ slice_get old k

-- a group that is closing in one of the shards, or None where none is
abbrev pub FoundClosing : {R A : Type 0} → List (Shard R A) → Option ℕ → Type 0
FoundClosing shards None = AreIdle shards
FoundClosing {R = R} {A = A} shards (Some group) = (m : ℕ) × (shard : Shard R A) × (slice_get shards m ≡ Some shard) × (shard.closing ≡ Some group)

-- a sync, and why it was stopped
abbrev pub SyncDoes : State → Result Synced SyncFault → List Hold → Store → Type 0
SyncDoes x (Ok it) holds new = (new ≡ x.store) × groups.Syncs x.geometry x.perms it.group it.thin holds Went
SyncDoes x (Err sync.Worn) holds new = (new ≡ x.store) × groups.SyncStops x.geometry x.perms holds WasWorn
SyncDoes x (Err sync.Last) holds new = (new ≡ x.store) × groups.SyncStops x.geometry x.perms holds WasLast
SyncDoes x (Err sync.Shelf) holds new = (new ≡ x.store) × groups.SyncStops x.geometry x.perms holds Broke
SyncDoes x (Err sync.NoMemory) holds new = (new ≡ x.store) × groups.SyncStops x.geometry x.perms holds Starved
