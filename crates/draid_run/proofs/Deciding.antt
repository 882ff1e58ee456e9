-- What is asked of the open pool alone is done so whatever the policy of spares is.
use Rattle.std.proofs.Common.{◌≡◌, ℕ, List, Option, Some, None, Result, Ok, Err}
use Rattle.draid_names.specs.declared.room.Room.{Room}
use Rattle.draid_names.specs.declared.refusal.SlotFault.TheVariants as slot_fault
use Rattle.draid_rack.specs.declared.Rack as racks
use Rattle.draid_area.specs.declared.Area as areas
use Rattle.draid_spec.specs.declared.layout.Geometry.{Geometry}
use Rattle.draid_perm.specs.declared.perms.Perms.{Perms}
use Rattle.draid_script.specs.Line.{Command, CreatePool, ImportPool, ExportPool, SyncPool, CancelPasses, CrashPool, WriteObject, FillObjects, ReadObject, FreeObject, SumObjects, TakeOffline, TakeOnline, DamageSector, AttachSpare, ReplaceDisk, DetachArm, RebuildPool, ScrubPool, RebalanceSlot, ShowStatus, TakeCheckpoint, UpgradePool, DiscardCheckpoint, RewindPool, RunAgent, ShowJournal}
use Rattle.draid_script.specs.declared.name.CommandName.{CommandName}
use Rattle.draid_script.specs.declared.name.CommandName.TheVariants as name
use Rattle.draid_reply.specs.declared.reply.Reply.{Reply}
use Rattle.draid_reply.specs.declared.reply.Reply.TheVariants.{PoolOpen, NoMemory, Worn, Last, PassThere, Exported, Crashed, Synced, Written, NoSpace, Missed, WriteLast, Filled, FillRefused, Contents, NoObject, Unreadable, ReadWorn, Summed, SumRefused, Freed, FreeNoObject, Damaged, DamageRefused, DamageFailed, DamageWorn, OfflineDone, OfflineRefused, OfflineWorn, OnlineDone, OnlineRefused, OnlineWorn, Spared, SpareRefused, SpareWorn, Replaced, ReplaceRefused, ReplaceWorn, Detached, DetachRefused, DetachWorn, DetachLast, Rebuilt, RebuildNothing, Scrubbed, Rebalanced, RebalanceRefused, RebalanceWorn, RebalanceLast, Cancelled, Status, Upgraded, UpgradeAlready, Checkpointed, CheckpointThere, Discarded, NoCheckpoint, Rewound, Journal}
use Rattle.draid_session.specs.Choices.{choices_by, choices_with}
use Rattle.draid_session.specs.Does.{Does}
use Rattle.draid_session.specs.Holds.{Hold}
use Rattle.draid_session.specs.Making.{content_of}
use Rattle.draid_session.specs.Session.{Bare, Desk, Foreign, Made, Open, Shut, Unknown, Untouched}
use Rattle.draid_session.specs.State.{Store}
use Rattle.draid_pool.specs.Carries.{ReplyDoes}
use Rattle.draid_pool.specs.declared.pool.Pool.{Pool}
use Rattle.draid_pool.proofs.Steps.{carries_so}
use Rattle.draid_run.specs.Desks.{PoolDid, asked_in}
use Rattle.draid_run.specs.Serve.{AskIs}
use Rattle.draid_run.specs.declared.answer.Stop.{Stop}
use Rattle.draid_run.specs.declared.answer.Stop.TheVariants as stop

module _ (room : List Room → Option ℕ → Type 0) (spare : ℕ → ℕ → List ℕ → Option ℕ → Type 0) (geometry : Geometry) (perms : Perms) where
  pub with_spare : (command : Command) (called : CommandName) → asked_in command ≡ Some called → (old : Store) (holds : List Hold) (reply : Reply) (new : Store)
      → Does geometry perms (choices_by room) content_of command old holds reply new → Does geometry perms (choices_with room spare) content_of command old holds reply new
  with_spare SyncPool named is old holds (Synced group thin) new done = done
  with_spare SyncPool named is old holds (Worn name.Sync) new done = done
  with_spare SyncPool named is old holds (Last name.Sync) new done = done
  with_spare SyncPool named is old holds (NoMemory name.Sync) new done = done
  with_spare ExportPool named is old holds (Exported group) new done = done
  with_spare ExportPool named is old holds (Worn name.Export) new done = done
  with_spare ExportPool named is old holds (Last name.Export) new done = done
  with_spare ExportPool named is old holds (NoMemory name.Export) new done = done
  with_spare CrashPool named is old holds Crashed new done = done
  with_spare (WriteObject object bytes) named is old holds (Written o) new done = done
  with_spare (WriteObject object bytes) named is old holds (NoSpace o run disabled full worn) new done = done
  with_spare (WriteObject object bytes) named is old holds (Missed o columns) new done = done
  with_spare (WriteObject object bytes) named is old holds (WriteLast o) new done = done
  with_spare (WriteObject object bytes) named is old holds (NoMemory name.Write) new done = done
  with_spare (FillObjects first count len seed) named is old holds (Filled f written) new done = done
  with_spare (FillObjects first count len seed) named is old holds (FillRefused f written why) new done = done
  with_spare (ReadObject object) named is old holds (Contents o bytes) new done = done
  with_spare (ReadObject object) named is old holds (NoObject o) new done = done
  with_spare (ReadObject object) named is old holds (Unreadable o absent tried) new done = done
  with_spare (ReadObject object) named is old holds (ReadWorn o) new done = done
  with_spare (ReadObject object) named is old holds (NoMemory name.Read) new done = done
  with_spare (SumObjects first count) named is old holds (Summed f c digest) new done = done
  with_spare (SumObjects first count) named is old holds (SumRefused object why) new done = done
  with_spare (SumObjects first count) named is old holds (NoMemory name.Sum) new done = done
  with_spare (FreeObject object) named is old holds (Freed o) new done = done
  with_spare (FreeObject object) named is old holds (FreeNoObject o) new done = done
  with_spare (DamageSector leaf sector) named is old holds (Damaged l s) new done = done
  with_spare (DamageSector leaf sector) named is old holds (DamageFailed l s) new done = done
  with_spare (DamageSector leaf sector) named is old holds (DamageRefused l s) new done = done
  with_spare (DamageSector leaf sector) named is old holds (DamageWorn l s) new done = done
  with_spare (DamageSector leaf sector) named is old holds (NoMemory name.Damage) new done = done
  with_spare (TakeOffline leaf) named is old holds (OfflineDone l) new done = done
  with_spare (TakeOffline leaf) named is old holds (OfflineRefused l) new done = done
  with_spare (TakeOffline leaf) named is old holds (OfflineWorn l) new done = done
  with_spare (TakeOffline leaf) named is old holds (NoMemory name.Offline) new done = done
  with_spare (TakeOnline leaf) named is old holds (OnlineDone l) new done = done
  with_spare (TakeOnline leaf) named is old holds (OnlineRefused l) new done = done
  with_spare (TakeOnline leaf) named is old holds (OnlineWorn l) new done = done
  with_spare (TakeOnline leaf) named is old holds (NoMemory name.Online) new done = done
  with_spare (AttachSpare slot spare) named is old holds (Spared s called) new done = done
  with_spare (AttachSpare slot spare) named is old holds (SpareRefused s why) new done = done
  with_spare (AttachSpare slot spare) named is old holds (SpareWorn s) new done = done
  with_spare (AttachSpare slot spare) named is old holds (NoMemory name.Spare) new done = done
  with_spare (ReplaceDisk slot sectors) named is old holds (Replaced s leaf) new done = done
  with_spare (ReplaceDisk slot sectors) named is old holds (ReplaceRefused s why) new done = done
  with_spare (ReplaceDisk slot sectors) named is old holds (ReplaceWorn s) new done = done
  with_spare (ReplaceDisk slot sectors) named is old holds (NoMemory name.Replace) new done = done
  with_spare (DetachArm arm) named is old holds (Detached a group) new done = done
  with_spare (DetachArm arm) named is old holds (DetachRefused a why) new done = done
  with_spare (DetachArm arm) named is old holds (DetachWorn a) new done = done
  with_spare (DetachArm arm) named is old holds (DetachLast a) new done = done
  with_spare (DetachArm arm) named is old holds (NoMemory name.Detach) new done = done
  with_spare (RebuildPool limit) named is old holds (Rebuilt from stripes errors paused) new done = done
  with_spare (RebuildPool limit) named is old holds RebuildNothing new done = done
  with_spare (RebuildPool limit) named is old holds (PassThere name.Rebuild metaslab number) new done = done
  with_spare (RebuildPool limit) named is old holds (Worn name.Rebuild) new done = done
  with_spare (RebuildPool limit) named is old holds (Last name.Rebuild) new done = done
  with_spare (RebuildPool limit) named is old holds (NoMemory name.Rebuild) new done = done
  with_spare (ScrubPool limit) named is old holds (Scrubbed from blocks repaired errors paused) new done = done
  with_spare (ScrubPool limit) named is old holds (PassThere name.Scrub metaslab number) new done = done
  with_spare (ScrubPool limit) named is old holds (Worn name.Scrub) new done = done
  with_spare (ScrubPool limit) named is old holds (Last name.Scrub) new done = done
  with_spare (ScrubPool limit) named is old holds (NoMemory name.Scrub) new done = done
  with_spare CancelPasses named is old holds (Cancelled ended) new done = done
  with_spare (RebalanceSlot slot) named is old holds (Rebalanced s blocks repaired errors group) new done = done
  with_spare (RebalanceSlot slot) named is old holds (RebalanceRefused s slot_fault.NoSuch) new done = done
  with_spare (RebalanceSlot slot) named is old holds (RebalanceRefused s (slot_fault.PassRunning metaslab number)) new done = done
  with_spare (RebalanceSlot slot) named is old holds (RebalanceWorn s) new done = done
  with_spare (RebalanceSlot slot) named is old holds (RebalanceLast s) new done = done
  with_spare (RebalanceSlot slot) named is old holds (NoMemory name.Rebalance) new done = done
  with_spare UpgradePool named is old holds (Upgraded group) new done = done
  with_spare UpgradePool named is old holds UpgradeAlready new done = done
  with_spare UpgradePool named is old holds (Worn name.Upgrade) new done = done
  with_spare UpgradePool named is old holds (Last name.Upgrade) new done = done
  with_spare UpgradePool named is old holds (NoMemory name.Upgrade) new done = done
  with_spare (ShowStatus form) named is old holds (Status text) new done = done
  with_spare (ShowStatus form) named is old holds (NoMemory name.Status) new done = done
  with_spare TakeCheckpoint named is old holds (Checkpointed group) new done = done
  with_spare TakeCheckpoint named is old holds (CheckpointThere group) new done = done
  with_spare TakeCheckpoint named is old holds (Worn name.Checkpoint) new done = done
  with_spare TakeCheckpoint named is old holds (Last name.Checkpoint) new done = done
  with_spare TakeCheckpoint named is old holds (NoMemory name.Checkpoint) new done = done
  with_spare DiscardCheckpoint named is old holds (Discarded freed group) new done = done
  with_spare DiscardCheckpoint named is old holds (NoCheckpoint name.Discard) new done = done
  with_spare DiscardCheckpoint named is old holds (Worn name.Discard) new done = done
  with_spare DiscardCheckpoint named is old holds (Last name.Discard) new done = done
  with_spare DiscardCheckpoint named is old holds (NoMemory name.Discard) new done = done
  with_spare RewindPool named is old holds (Rewound group many) new done = done
  with_spare RewindPool named is old holds (NoCheckpoint name.Rewind) new done = done
  with_spare RewindPool named is old holds (Worn name.Rewind) new done = done
  with_spare RewindPool named is old holds (Last name.Rewind) new done = done
  with_spare RewindPool named is old holds (NoMemory name.Rewind) new done = done
  with_spare (RunAgent least) named is old holds reply new done = absurd (cc is)
  with_spare ShowJournal named is old holds (Journal parity entries) new done = done
  with_spare ShowJournal named is old holds (NoMemory name.Agent) new done = done
  with_spare (CreatePool text children keys) named is old holds (PoolOpen name.Create) new done = done
  with_spare ImportPool named is old holds (PoolOpen name.Import) new done = done
  with_spare command named is old holds reply new done = absurd done

module _ {R A : Type 0} (rack : racks.Ghosts R) (area : areas.Ghosts A) (room : List Room → Option ℕ → Type 0) (spare : ℕ → ℕ → List ℕ → Option ℕ → Type 0) (command : Command) where
  did_with : (called : CommandName) → asked_in command ≡ Some called → (x : Desk) (reply : Reply) (new : Option (Pool R A)) → PoolDid rack area (choices_by room) command called x reply new
      → PoolDid rack area (choices_with room spare) command called x reply new
  did_with called is (Open x) reply None did = did
  did_with called is (Foreign known) reply None did = did
  did_with called is (Open x) reply (Some pool) did = (
    did.0,
    did.1,
    carries_so rack area pool x (ReplyDoes x (choices_by room) command reply) (ReplyDoes x (choices_with room spare) command reply) did.2
        (λ holds store done. with_spare room spare x.geometry x.perms command called is x.store holds reply store done),
  )
  did_with called is (Foreign known) reply (Some pool) did = did
  did_with called is Untouched reply new did = did
  did_with called is Bare reply new did = did
  did_with called is (Made told failed geometry) reply new did = did
  did_with called is (Shut crash x) reply new did = did
  did_with called is Unknown reply new did = did

  pub asked_with : (pool : Option (Pool R A)) (x : Desk) (new : Option (Pool R A)) (given : Result Reply Stop) → AskIs rack area (choices_by room) command pool x new given → AskIs rack area (choices_with room spare) command pool x new given
  asked_with pool x new (Ok reply) did = (did.0, did.1, did_with did.0 did.1 x reply new did.2)
  asked_with pool x new (Err stop.Shelf) did = did
  asked_with pool x new (Err (stop.Record metaslab place kind)) did = did
