-- A command that writes and frees nothing leaves what its thread has of its own.
use Rattle.std.proofs.Common.{◌≡◌, ℕ, List, Option}
use Rattle.std.specs.Prelude.{⊤}
use Rattle.draid_names.specs.declared.refusal.SlotFault.TheVariants as slot_fault
use Rattle.draid_spec.specs.declared.layout.Geometry.{Geometry}
use Rattle.draid_perm.specs.declared.perms.Perms.{Perms}
use Rattle.draid_script.specs.Line.{Command, SyncPool, ExportPool, CrashPool, WriteObject, FillObjects, ReadObject, SumObjects, FreeObject, DamageSector, TakeOffline, TakeOnline, AttachSpare, ReplaceDisk, DetachArm, RebuildPool, ScrubPool, CancelPasses, RebalanceSlot, UpgradePool, ShowStatus, CreatePool, ImportPool, TakeCheckpoint, DiscardCheckpoint, RewindPool, RunAgent, ShowJournal}
use Rattle.draid_script.specs.declared.line.ArmArgument.{ArmArgument}
use Rattle.draid_script.specs.declared.line.PoolKeys.{PoolKeys}
use Rattle.draid_script.specs.declared.line.StatusFormat.{StatusFormat}
use Rattle.draid_script.specs.declared.name.CommandName.TheVariants as name
use Rattle.draid_reply.specs.declared.reply.Reply.{Reply}
use Rattle.draid_reply.specs.declared.reply.Reply.TheVariants.{Cancelled, Contents, Crashed, DamageFailed, DamageRefused, DamageWorn, Damaged, DetachLast, DetachRefused, DetachWorn, Detached, Exported, Last, NoMemory, NoObject, OfflineDone, OfflineRefused, OfflineWorn, OnlineDone, OnlineRefused, OnlineWorn, PassThere, PoolOpen, ReadWorn, RebalanceLast, RebalanceRefused, RebalanceWorn, Rebalanced, RebuildNothing, Rebuilt, ReplaceRefused, ReplaceWorn, Replaced, Scrubbed, SpareRefused, SpareWorn, Spared, Status, SumRefused, Summed, Synced, Unreadable, UpgradeAlready, Upgraded, Worn, Acted, AgentIdle, Journal}
use Rattle.draid_session.specs.Choices.{Choices}
use Rattle.draid_session.specs.Does.{Does}
use Rattle.draid_session.specs.Holds.{Hold}
use Rattle.draid_session.specs.Making.{content_of}
use Rattle.draid_session.specs.State.{Store}

-- the command writes and frees nothing
abbrev pub IsNoChange : Command → Type 0
IsNoChange (WriteObject object bytes) = ⊥
IsNoChange (FillObjects first count len seed) = ⊥
IsNoChange (FreeObject object) = ⊥
IsNoChange TakeCheckpoint = ⊥
IsNoChange DiscardCheckpoint = ⊥
IsNoChange RewindPool = ⊥
IsNoChange command = ⊤

module _ (geometry : Geometry) (perms : Perms) (choices : Choices) (old new : Store) (holds : List Hold) where
  abbrev DoesTo : Command → Reply → Type 0
  DoesTo command reply = Does geometry perms choices content_of command old holds reply new

  same_sync_pool : (reply : Reply) → DoesTo SyncPool reply → new ≡ old
  same_sync_pool (Synced group thin) d = d.0
  same_sync_pool (Worn name.Sync) d = d.0
  same_sync_pool (Last name.Sync) d = d.0
  same_sync_pool (NoMemory name.Sync) d = d.0
  same_sync_pool reply d = absurd d

  same_export_pool : (reply : Reply) → DoesTo ExportPool reply → new ≡ old
  same_export_pool (Exported group) d = d.0
  same_export_pool (Worn name.Export) d = d.0
  same_export_pool (Last name.Export) d = d.0
  same_export_pool (NoMemory name.Export) d = d.0
  same_export_pool reply d = absurd d

  same_crash_pool : (reply : Reply) → DoesTo CrashPool reply → new ≡ old
  same_crash_pool Crashed d = d.0
  same_crash_pool reply d = absurd d

  same_read_object : (object : ℕ) (reply : Reply) → DoesTo (ReadObject object) reply → new ≡ old
  same_read_object object (Contents o bytes) d = d.1
  same_read_object object (NoObject o) d = d.1
  same_read_object object (Unreadable o absent tried) d = d.1
  same_read_object object (ReadWorn o) d = d.1
  same_read_object object (NoMemory name.Read) d = d.0
  same_read_object object reply d = absurd d

  same_sum_objects : (first : ℕ) (count : ℕ) (reply : Reply) → DoesTo (SumObjects first count) reply → new ≡ old
  same_sum_objects first count (Summed f c digest) d = d.2
  same_sum_objects first count (SumRefused object why) d = d.0
  same_sum_objects first count (NoMemory name.Sum) d = d.0
  same_sum_objects first count reply d = absurd d

  same_damage_sector : (leaf : ℕ) (sector : ℕ) (reply : Reply) → DoesTo (DamageSector leaf sector) reply → new ≡ old
  same_damage_sector leaf sector (Damaged l s) d = d.2
  same_damage_sector leaf sector (DamageFailed l s) d = d.2
  same_damage_sector leaf sector (DamageRefused l s) d = d.2
  same_damage_sector leaf sector (DamageWorn l s) d = d.2
  same_damage_sector leaf sector (NoMemory name.Damage) d = d.0
  same_damage_sector leaf sector reply d = absurd d

  same_take_offline : (leaf : ℕ) (reply : Reply) → DoesTo (TakeOffline leaf) reply → new ≡ old
  same_take_offline leaf (OfflineDone l) d = d.1
  same_take_offline leaf (OfflineRefused l) d = d.1
  same_take_offline leaf (OfflineWorn l) d = d.1
  same_take_offline leaf (NoMemory name.Offline) d = d.0
  same_take_offline leaf reply d = absurd d

  same_take_online : (leaf : ℕ) (reply : Reply) → DoesTo (TakeOnline leaf) reply → new ≡ old
  same_take_online leaf (OnlineDone l) d = d.1
  same_take_online leaf (OnlineRefused l) d = d.1
  same_take_online leaf (OnlineWorn l) d = d.1
  same_take_online leaf (NoMemory name.Online) d = d.0
  same_take_online leaf reply d = absurd d

  same_attach_spare : (slot : ℕ) (spare : ℕ) (reply : Reply) → DoesTo (AttachSpare slot spare) reply → new ≡ old
  same_attach_spare slot spare (Spared s called) d = d.2
  same_attach_spare slot spare (SpareRefused s why) d = d.1
  same_attach_spare slot spare (SpareWorn s) d = d.1
  same_attach_spare slot spare (NoMemory name.Spare) d = d.0
  same_attach_spare slot spare reply d = absurd d

  same_replace_disk : (slot : ℕ) (sectors : Option ℕ) (reply : Reply) → DoesTo (ReplaceDisk slot sectors) reply → new ≡ old
  same_replace_disk slot sectors (Replaced s leaf) d = d.1
  same_replace_disk slot sectors (ReplaceRefused s why) d = d.1
  same_replace_disk slot sectors (ReplaceWorn s) d = d.1
  same_replace_disk slot sectors (NoMemory name.Replace) d = d.0
  same_replace_disk slot sectors reply d = absurd d

  same_detach_arm : (arm : ArmArgument) (reply : Reply) → DoesTo (DetachArm arm) reply → new ≡ old
  same_detach_arm arm (Detached a group) d = d.1
  same_detach_arm arm (DetachRefused a why) d = d.1
  same_detach_arm arm (DetachWorn a) d = d.1
  same_detach_arm arm (DetachLast a) d = d.1
  same_detach_arm arm (NoMemory name.Detach) d = d.0
  same_detach_arm arm reply d = absurd d

  same_rebuild_pool : (limit : Option ℕ) (reply : Reply) → DoesTo (RebuildPool limit) reply → new ≡ old
  same_rebuild_pool limit (Rebuilt from stripes errors paused) d = d.0
  same_rebuild_pool limit RebuildNothing d = d.0
  same_rebuild_pool limit (PassThere name.Rebuild metaslab number) d = d.0
  same_rebuild_pool limit (Worn name.Rebuild) d = d.0
  same_rebuild_pool limit (Last name.Rebuild) d = d.0
  same_rebuild_pool limit (NoMemory name.Rebuild) d = d.0
  same_rebuild_pool limit reply d = absurd d

  same_scrub_pool : (limit : Option ℕ) (reply : Reply) → DoesTo (ScrubPool limit) reply → new ≡ old
  same_scrub_pool limit (Scrubbed from blocks repaired errors paused) d = d.0
  same_scrub_pool limit (PassThere name.Scrub metaslab number) d = d.0
  same_scrub_pool limit (Worn name.Scrub) d = d.0
  same_scrub_pool limit (Last name.Scrub) d = d.0
  same_scrub_pool limit (NoMemory name.Scrub) d = d.0
  same_scrub_pool limit reply d = absurd d

  same_cancel_passes : (reply : Reply) → DoesTo CancelPasses reply → new ≡ old
  same_cancel_passes (Cancelled ended) d = d.0
  same_cancel_passes reply d = absurd d

  same_rebalance_slot : (slot : ℕ) (reply : Reply) → DoesTo (RebalanceSlot slot) reply → new ≡ old
  same_rebalance_slot slot (Rebalanced s blocks repaired errors group) d = d.1
  same_rebalance_slot slot (RebalanceRefused s slot_fault.NoSuch) d = d.1
  same_rebalance_slot slot (RebalanceRefused s (slot_fault.PassRunning metaslab number)) d = d.1
  same_rebalance_slot slot (RebalanceWorn s) d = d.1
  same_rebalance_slot slot (RebalanceLast s) d = d.1
  same_rebalance_slot slot (NoMemory name.Rebalance) d = d.0
  same_rebalance_slot slot reply d = absurd d

  same_upgrade_pool : (reply : Reply) → DoesTo UpgradePool reply → new ≡ old
  same_upgrade_pool (Upgraded group) d = d.0
  same_upgrade_pool UpgradeAlready d = d.0
  same_upgrade_pool (Worn name.Upgrade) d = d.0
  same_upgrade_pool (Last name.Upgrade) d = d.0
  same_upgrade_pool (NoMemory name.Upgrade) d = d.0
  same_upgrade_pool reply d = absurd d

  same_show_status : (form : StatusFormat) (reply : Reply) → DoesTo (ShowStatus form) reply → new ≡ old
  same_show_status form (Status text) d = d.0
  same_show_status form (NoMemory name.Status) d = d.0
  same_show_status form reply d = absurd d

  same_run_agent : (least : ℕ) (reply : Reply) → DoesTo (RunAgent least) reply → new ≡ old
  same_run_agent least (Acted parity entries errors) d = d.0
  same_run_agent least AgentIdle d = d.0
  same_run_agent least (PassThere name.Agent metaslab number) d = d.0
  same_run_agent least (Worn name.Agent) d = d.0
  same_run_agent least (Last name.Agent) d = d.0
  same_run_agent least (NoMemory name.Agent) d = d.0
  same_run_agent least reply d = absurd d

  same_show_journal : (reply : Reply) → DoesTo ShowJournal reply → new ≡ old
  same_show_journal (Journal parity entries) d = d.0
  same_show_journal (NoMemory name.Agent) d = d.0
  same_show_journal reply d = absurd d

  same_create_pool : (text : List ℕ) (children : ℕ) (keys : PoolKeys) (reply : Reply) → DoesTo (CreatePool text children keys) reply → new ≡ old
  same_create_pool text children keys (PoolOpen name.Create) d = d.0
  same_create_pool text children keys reply d = absurd d

  same_import_pool : (reply : Reply) → DoesTo ImportPool reply → new ≡ old
  same_import_pool (PoolOpen name.Import) d = d.0
  same_import_pool reply d = absurd d

  -- a command that writes and frees nothing leaves what its thread has
  pub same_store : (command : Command) (reply : Reply) → IsNoChange command → DoesTo command reply → new ≡ old
  same_store SyncPool reply is d = same_sync_pool reply d
  same_store ExportPool reply is d = same_export_pool reply d
  same_store CrashPool reply is d = same_crash_pool reply d
  same_store (ReadObject object) reply is d = same_read_object object reply d
  same_store (SumObjects first count) reply is d = same_sum_objects first count reply d
  same_store (DamageSector leaf sector) reply is d = same_damage_sector leaf sector reply d
  same_store (TakeOffline leaf) reply is d = same_take_offline leaf reply d
  same_store (TakeOnline leaf) reply is d = same_take_online leaf reply d
  same_store (AttachSpare slot spare) reply is d = same_attach_spare slot spare reply d
  same_store (ReplaceDisk slot sectors) reply is d = same_replace_disk slot sectors reply d
  same_store (DetachArm arm) reply is d = same_detach_arm arm reply d
  same_store (RebuildPool limit) reply is d = same_rebuild_pool limit reply d
  same_store (ScrubPool limit) reply is d = same_scrub_pool limit reply d
  same_store CancelPasses reply is d = same_cancel_passes reply d
  same_store (RebalanceSlot slot) reply is d = same_rebalance_slot slot reply d
  same_store UpgradePool reply is d = same_upgrade_pool reply d
  same_store (ShowStatus form) reply is d = same_show_status form reply d
  same_store (CreatePool text children keys) reply is d = same_create_pool text children keys reply d
  same_store ImportPool reply is d = same_import_pool reply d
  same_store (RunAgent least) reply is d = same_run_agent least reply d
  same_store ShowJournal reply is d = same_show_journal reply d
  same_store (FillObjects first count len seed) reply is d = absurd is
  same_store (FreeObject object) reply is d = absurd is
  same_store (WriteObject object bytes) reply is d = absurd is
  same_store TakeCheckpoint reply is d = absurd is
  same_store RewindPool reply is d = absurd is
  same_store DiscardCheckpoint reply is d = absurd is
  same_store command reply is d = absurd d
