-- The last group that a reply named never goes back.
use Rattle.std.proofs.Common.{◌≡◌, ◌∙◌, ◌<◌, ◌≤◌, ℕ, zero, suc, List, Option, Some, None, inl, inr, refl, ap, arith}
use Rattle.draid_script.specs.Line.{Command, WriteObject, FillObjects, FreeObject, ReadObject, SumObjects, SyncPool, ExportPool, CrashPool, CreatePool, ImportPool, DamageSector, TakeOffline, TakeOnline, AttachSpare, ReplaceDisk, DetachArm, RebuildPool, ScrubPool, CancelPasses, RebalanceSlot, UpgradePool, ShowStatus, TakeCheckpoint, DiscardCheckpoint, RewindPool, RunAgent, ShowJournal}
use Rattle.draid_script.specs.declared.line.ArmArgument.{ArmArgument}
use Rattle.draid_script.specs.declared.line.PoolKeys.{PoolKeys}
use Rattle.draid_script.specs.declared.line.StatusFormat.{StatusFormat}
use Rattle.draid_script.specs.declared.name.CommandName.TheVariants as name
use Rattle.draid_reply.specs.declared.reply.Reply.{Reply}
use Rattle.draid_reply.specs.declared.reply.Reply.TheVariants.{Cancelled, Contents, Crashed, DamageFailed, DamageRefused, DamageWorn, Damaged, DetachLast, DetachRefused, DetachWorn, Detached, Exported, FillRefused, Filled, FreeNoObject, Freed, Last, Missed, NoMemory, NoObject, NoSpace, OfflineDone, OfflineRefused, OfflineWorn, OnlineDone, OnlineRefused, OnlineWorn, PassThere, PoolOpen, ReadWorn, RebalanceLast, RebalanceRefused, RebalanceWorn, Rebalanced, RebuildNothing, Rebuilt, ReplaceRefused, ReplaceWorn, Replaced, Scrubbed, SpareRefused, SpareWorn, Spared, Status, SumRefused, Summed, Synced, Unreadable, UpgradeAlready, Upgraded, Worn, WriteLast, Written, Checkpointed, CheckpointThere, Discarded, NoCheckpoint, Rewound, Acted, AgentIdle, Journal}
use Rattle.draid_session.specs.Book.{Book, NamesKept, OpenAnswers, closed, filled, synced, MayHaveReverted}
use Rattle.draid_session.specs.Making.{content_of}

rises_same : (old new : Book) → new.group ≡ old.group → old.group ≤ new.group
rises_same old new same = omega (arith, same)

rises_after : (old new : Book) (group : ℕ) → old.group < group → new.group ≡ group → old.group ≤ new.group
rises_after old new group less same = omega (arith, less, same)

rises_kept : (old new : Book) (group : ℕ) → NamesKept old group → new ≡ closed (synced group old) → old.group ≤ new.group
rises_kept old new group (inl next) is = rises_after old new group next.0 (ap (λ (b : Book). b.group) is)
rises_kept old new group (inr same) is = (let at : new.group ≡ group = ap (λ (b : Book). b.group) is in let own = same.0 in omega (arith, at, own))

filled_group : (content : ℕ → List ℕ) (first n : ℕ) (old : Book) → (filled content first n old).group ≡ old.group
filled_group content first zero old = refl
filled_group content first (suc n) old = filled_group content first n old

rises_filled : (content : ℕ → List ℕ) (first n : ℕ) (old new : Book) → new ≡ filled content first n old → old.group ≤ new.group
rises_filled content first n old new is = rises_same old new (ap (λ (b : Book). b.group) is ∙ filled_group content first n old)

module _ (old new : Book) where
  rises_write_object : (object : ℕ) (bytes : List ℕ) (reply : Reply) → OpenAnswers old (WriteObject object bytes) reply new → old.group ≤ new.group
  rises_write_object object bytes (Written o) d = rises_same old new (ap (λ (b : Book). b.group) d.1)
  rises_write_object object bytes (NoSpace o run disabled full worn) d = rises_same old new (ap (λ (b : Book). b.group) d.1)
  rises_write_object object bytes (Missed o columns) d = rises_same old new (ap (λ (b : Book). b.group) d.1)
  rises_write_object object bytes (WriteLast o) d = rises_same old new (ap (λ (b : Book). b.group) d.1)
  rises_write_object object bytes (NoMemory name.Write) d = rises_same old new (ap (λ (b : Book). b.group) d)
  rises_write_object object bytes reply d = absurd d

  rises_fill_objects : (first : ℕ) (count : ℕ) (len : ℕ) (seed : ℕ) (reply : Reply) → OpenAnswers old (FillObjects first count len seed) reply new → old.group ≤ new.group
  rises_fill_objects first count len seed (Filled f written) d = rises_filled (λ object. content_of seed object len) first count old new d.2
  rises_fill_objects first count len seed (FillRefused f written why) d = rises_filled (λ object. content_of seed object len) first written old new d.2
  rises_fill_objects first count len seed reply d = absurd d

  rises_free_object : (object : ℕ) (reply : Reply) → OpenAnswers old (FreeObject object) reply new → old.group ≤ new.group
  rises_free_object object (Freed o) d = rises_same old new (ap (λ (b : Book). b.group) d.2)
  rises_free_object object (FreeNoObject o) d = rises_same old new (ap (λ (b : Book). b.group) d.2)
  rises_free_object object reply d = absurd d

  rises_read_object : (object : ℕ) (reply : Reply) → OpenAnswers old (ReadObject object) reply new → old.group ≤ new.group
  rises_read_object object (Contents o bytes) d = rises_same old new (ap (λ (b : Book). b.group) d.2)
  rises_read_object object (NoObject o) d = rises_same old new (ap (λ (b : Book). b.group) d.2)
  rises_read_object object (Unreadable o absent tried) d = rises_same old new (ap (λ (b : Book). b.group) d.2)
  rises_read_object object (ReadWorn o) d = rises_same old new (ap (λ (b : Book). b.group) d.2)
  rises_read_object object (NoMemory name.Read) d = rises_same old new (ap (λ (b : Book). b.group) d)
  rises_read_object object reply d = absurd d

  rises_sum_objects : (first : ℕ) (count : ℕ) (reply : Reply) → OpenAnswers old (SumObjects first count) reply new → old.group ≤ new.group
  rises_sum_objects first count (Summed f c digest) d = rises_same old new (ap (λ (b : Book). b.group) d.3)
  rises_sum_objects first count (SumRefused object why) d = rises_same old new (ap (λ (b : Book). b.group) d.1)
  rises_sum_objects first count (NoMemory name.Sum) d = rises_same old new (ap (λ (b : Book). b.group) d)
  rises_sum_objects first count reply d = absurd d

  rises_sync_pool : (reply : Reply) → OpenAnswers old SyncPool reply new → old.group ≤ new.group
  rises_sync_pool (Synced group thin) d = rises_after old new group d.0.0 (ap (λ (b : Book). b.group) d.1)
  rises_sync_pool (Worn name.Sync) d = rises_same old new (ap (λ (b : Book). b.group) d)
  rises_sync_pool (Last name.Sync) d = rises_same old new (ap (λ (b : Book). b.group) d)
  rises_sync_pool (NoMemory name.Sync) d = rises_same old new (ap (λ (b : Book). b.group) d)
  rises_sync_pool reply d = absurd d

  rises_export_pool : (reply : Reply) → OpenAnswers old ExportPool reply new → old.group ≤ new.group
  rises_export_pool (Exported group) d = rises_kept old new group d.0 d.1
  rises_export_pool (Worn name.Export) d = rises_same old new (ap (λ (b : Book). b.group) d)
  rises_export_pool (Last name.Export) d = rises_same old new (ap (λ (b : Book). b.group) d)
  rises_export_pool (NoMemory name.Export) d = rises_same old new (ap (λ (b : Book). b.group) d)
  rises_export_pool reply d = absurd d

  rises_crash_pool : (reply : Reply) → OpenAnswers old CrashPool reply new → old.group ≤ new.group
  rises_crash_pool Crashed d = rises_same old new (ap (λ (b : Book). b.group) d)
  rises_crash_pool reply d = absurd d

  rises_create_pool : (text : List ℕ) (children : ℕ) (keys : PoolKeys) (reply : Reply) → OpenAnswers old (CreatePool text children keys) reply new → old.group ≤ new.group
  rises_create_pool text children keys (PoolOpen name.Create) d = rises_same old new (ap (λ (b : Book). b.group) d)
  rises_create_pool text children keys reply d = absurd d

  rises_import_pool : (reply : Reply) → OpenAnswers old ImportPool reply new → old.group ≤ new.group
  rises_import_pool (PoolOpen name.Import) d = rises_same old new (ap (λ (b : Book). b.group) d)
  rises_import_pool reply d = absurd d

  rises_damage_sector : (leaf : ℕ) (sector : ℕ) (reply : Reply) → OpenAnswers old (DamageSector leaf sector) reply new → old.group ≤ new.group
  rises_damage_sector leaf sector (Damaged l s) d = rises_same old new (ap (λ (b : Book). b.group) d.2)
  rises_damage_sector leaf sector (DamageFailed l s) d = rises_same old new (ap (λ (b : Book). b.group) d.2)
  rises_damage_sector leaf sector (DamageRefused l s) d = rises_same old new (ap (λ (b : Book). b.group) d.2)
  rises_damage_sector leaf sector (DamageWorn l s) d = rises_same old new (ap (λ (b : Book). b.group) d.2)
  rises_damage_sector leaf sector (NoMemory name.Damage) d = rises_same old new (ap (λ (b : Book). b.group) d)
  rises_damage_sector leaf sector reply d = absurd d

  rises_take_offline : (leaf : ℕ) (reply : Reply) → OpenAnswers old (TakeOffline leaf) reply new → old.group ≤ new.group
  rises_take_offline leaf (OfflineDone l) d = rises_same old new (ap (λ (b : Book). b.group) d.1)
  rises_take_offline leaf (OfflineRefused l) d = rises_same old new (ap (λ (b : Book). b.group) d.1)
  rises_take_offline leaf (OfflineWorn l) d = rises_same old new (ap (λ (b : Book). b.group) d.1)
  rises_take_offline leaf (NoMemory name.Offline) d = rises_same old new (ap (λ (b : Book). b.group) d)
  rises_take_offline leaf reply d = absurd d

  rises_take_online : (leaf : ℕ) (reply : Reply) → OpenAnswers old (TakeOnline leaf) reply new → old.group ≤ new.group
  rises_take_online leaf (OnlineDone l) d = rises_same old new (ap (λ (b : Book). b.group) d.1)
  rises_take_online leaf (OnlineRefused l) d = rises_same old new (ap (λ (b : Book). b.group) d.1)
  rises_take_online leaf (OnlineWorn l) d = rises_same old new (ap (λ (b : Book). b.group) d.1)
  rises_take_online leaf (NoMemory name.Online) d = rises_same old new (ap (λ (b : Book). b.group) d)
  rises_take_online leaf reply d = absurd d

  rises_attach_spare : (slot : ℕ) (spare : ℕ) (reply : Reply) → OpenAnswers old (AttachSpare slot spare) reply new → old.group ≤ new.group
  rises_attach_spare slot spare (Spared s called) d = rises_same old new (ap (λ (b : Book). b.group) d.1)
  rises_attach_spare slot spare (SpareRefused s why) d = rises_same old new (ap (λ (b : Book). b.group) d.1)
  rises_attach_spare slot spare (SpareWorn s) d = rises_same old new (ap (λ (b : Book). b.group) d.1)
  rises_attach_spare slot spare (NoMemory name.Spare) d = rises_same old new (ap (λ (b : Book). b.group) d)
  rises_attach_spare slot spare reply d = absurd d

  rises_replace_disk : (slot : ℕ) (sectors : Option ℕ) (reply : Reply) → OpenAnswers old (ReplaceDisk slot sectors) reply new → old.group ≤ new.group
  rises_replace_disk slot sectors (Replaced s leaf) d = rises_same old new (ap (λ (b : Book). b.group) d.1)
  rises_replace_disk slot sectors (ReplaceRefused s why) d = rises_same old new (ap (λ (b : Book). b.group) d.1)
  rises_replace_disk slot sectors (ReplaceWorn s) d = rises_same old new (ap (λ (b : Book). b.group) d.1)
  rises_replace_disk slot sectors (NoMemory name.Replace) d = rises_same old new (ap (λ (b : Book). b.group) d)
  rises_replace_disk slot sectors reply d = absurd d

  rises_detach_arm : (arm : ArmArgument) (reply : Reply) → OpenAnswers old (DetachArm arm) reply new → old.group ≤ new.group
  rises_detach_arm arm (Detached a group) d = rises_after old new group d.1.0 (ap (λ (b : Book). b.group) d.2)
  rises_detach_arm arm (DetachRefused a why) d = rises_same old new (ap (λ (b : Book). b.group) d.1)
  rises_detach_arm arm (DetachWorn a) d = rises_same old new (ap (λ (b : Book). b.group) d.1)
  rises_detach_arm arm (DetachLast a) d = rises_same old new (ap (λ (b : Book). b.group) d.1)
  rises_detach_arm arm (NoMemory name.Detach) d = rises_same old new (ap (λ (b : Book). b.group) d)
  rises_detach_arm arm reply d = absurd d

  rises_rebuild_pool : (limit : Option ℕ) (reply : Reply) → OpenAnswers old (RebuildPool limit) reply new → old.group ≤ new.group
  rises_rebuild_pool limit (Rebuilt from stripes errors paused) d = rises_same old new (ap (λ (b : Book). b.group) (d.2))
  rises_rebuild_pool limit RebuildNothing d = rises_same old new (ap (λ (b : Book). b.group) d)
  rises_rebuild_pool limit (PassThere name.Rebuild metaslab number) d = rises_same old new (ap (λ (b : Book). b.group) d)
  rises_rebuild_pool limit (Worn name.Rebuild) d = rises_same old new (ap (λ (b : Book). b.group) (d.2))
  rises_rebuild_pool limit (Last name.Rebuild) d = rises_same old new (ap (λ (b : Book). b.group) (d.2))
  rises_rebuild_pool limit (NoMemory name.Rebuild) d = rises_same old new (ap (λ (b : Book). b.group) (d.2))
  rises_rebuild_pool limit reply d = absurd d

  rises_scrub_pool : (limit : Option ℕ) (reply : Reply) → OpenAnswers old (ScrubPool limit) reply new → old.group ≤ new.group
  rises_scrub_pool limit (Scrubbed from blocks repaired errors paused) d = rises_same old new (ap (λ (b : Book). b.group) d)
  rises_scrub_pool limit (PassThere name.Scrub metaslab number) d = rises_same old new (ap (λ (b : Book). b.group) d)
  rises_scrub_pool limit (Worn name.Scrub) d = rises_same old new (ap (λ (b : Book). b.group) d)
  rises_scrub_pool limit (Last name.Scrub) d = rises_same old new (ap (λ (b : Book). b.group) d)
  rises_scrub_pool limit (NoMemory name.Scrub) d = rises_same old new (ap (λ (b : Book). b.group) d)
  rises_scrub_pool limit reply d = absurd d

  rises_cancel_passes : (reply : Reply) → OpenAnswers old CancelPasses reply new → old.group ≤ new.group
  rises_cancel_passes (Cancelled passes) d = rises_same old new (ap (λ (b : Book). b.group) d)
  rises_cancel_passes reply d = absurd d

  rises_rebalance_slot : (slot : ℕ) (reply : Reply) → OpenAnswers old (RebalanceSlot slot) reply new → old.group ≤ new.group
  rises_rebalance_slot slot (Rebalanced s blocks repaired errors None) d = rises_same old new (ap (λ (b : Book). b.group) d.1)
  rises_rebalance_slot slot (Rebalanced s blocks repaired errors (Some group)) d = rises_after old new group d.1.0 (ap (λ (b : Book). b.group) d.2)
  rises_rebalance_slot slot (RebalanceRefused s why) d = rises_same old new (ap (λ (b : Book). b.group) d.1)
  rises_rebalance_slot slot (RebalanceWorn s) d = rises_same old new (ap (λ (b : Book). b.group) (d.1.2))
  rises_rebalance_slot slot (RebalanceLast s) d = rises_same old new (ap (λ (b : Book). b.group) (d.1.2))
  rises_rebalance_slot slot (NoMemory name.Rebalance) d = rises_same old new (ap (λ (b : Book). b.group) (d.2))
  rises_rebalance_slot slot reply d = absurd d

  rises_upgrade_pool : (reply : Reply) → OpenAnswers old UpgradePool reply new → old.group ≤ new.group
  rises_upgrade_pool (Upgraded group) d = rises_after old new group d.0.0 (ap (λ (b : Book). b.group) d.1)
  rises_upgrade_pool UpgradeAlready d = rises_same old new (ap (λ (b : Book). b.group) d)
  rises_upgrade_pool (Worn name.Upgrade) d = rises_same old new (ap (λ (b : Book). b.group) d)
  rises_upgrade_pool (Last name.Upgrade) d = rises_same old new (ap (λ (b : Book). b.group) d)
  rises_upgrade_pool (NoMemory name.Upgrade) d = rises_same old new (ap (λ (b : Book). b.group) d)
  rises_upgrade_pool reply d = absurd d

  rises_show_status : (format : StatusFormat) (reply : Reply) → OpenAnswers old (ShowStatus format) reply new → old.group ≤ new.group
  rises_show_status format (Status text) d = rises_same old new (ap (λ (b : Book). b.group) d.1)
  rises_show_status format (NoMemory name.Status) d = rises_same old new (ap (λ (b : Book). b.group) d)
  rises_show_status format reply d = absurd d

  rises_take_checkpoint : (reply : Reply) → OpenAnswers old TakeCheckpoint reply new → old.group ≤ new.group
  rises_take_checkpoint (Checkpointed group) d = rises_after old new group d.0.0 (ap (λ (b : Book). b.group) d.1)
  rises_take_checkpoint (CheckpointThere group) d = rises_same old new (ap (λ (b : Book). b.group) d)
  rises_take_checkpoint (Worn name.Checkpoint) d = rises_same old new (ap (λ (b : Book). b.group) d)
  rises_take_checkpoint (Last name.Checkpoint) d = rises_same old new (ap (λ (b : Book). b.group) d)
  rises_take_checkpoint (NoMemory name.Checkpoint) d = rises_same old new (ap (λ (b : Book). b.group) d)
  rises_take_checkpoint reply d = absurd d

  rises_discard_checkpoint : (reply : Reply) → OpenAnswers old DiscardCheckpoint reply new → old.group ≤ new.group
  rises_discard_checkpoint (Discarded freed group) d = rises_after old new group d.0.0 (ap (λ (b : Book). b.group) d.1)
  rises_discard_checkpoint (NoCheckpoint name.Discard) d = rises_same old new (ap (λ (b : Book). b.group) d)
  rises_discard_checkpoint (Worn name.Discard) d = rises_same old new (ap (λ (b : Book). b.group) d)
  rises_discard_checkpoint (Last name.Discard) d = rises_same old new (ap (λ (b : Book). b.group) d)
  rises_discard_checkpoint (NoMemory name.Discard) d = rises_same old new (ap (λ (b : Book). b.group) d)
  rises_discard_checkpoint reply d = absurd d

  rises_reverted : MayHaveReverted old new → old.group ≤ new.group
  rises_reverted (inl is) = rises_same old new (ap (λ (b : Book). b.group) is)
  rises_reverted (inr (objects, is)) = rises_same old new (ap (λ (b : Book). b.group) is)

  rises_rewind_pool : (reply : Reply) → OpenAnswers old RewindPool reply new → old.group ≤ new.group
  rises_rewind_pool (Rewound group many) (objects, count, next, is) = rises_after old new group next.0 (ap (λ (b : Book). b.group) is)
  rises_rewind_pool (NoCheckpoint name.Rewind) d = rises_same old new (ap (λ (b : Book). b.group) d)
  rises_rewind_pool (Worn name.Rewind) d = rises_reverted d
  rises_rewind_pool (Last name.Rewind) d = rises_reverted d
  rises_rewind_pool (NoMemory name.Rewind) d = rises_reverted d
  rises_rewind_pool reply d = absurd d

  rises_run_agent : (least : ℕ) (reply : Reply) → OpenAnswers old (RunAgent least) reply new → old.group ≤ new.group
  rises_run_agent least (Acted parity entries None) d = rises_same old new (ap (λ (b : Book). b.group) d)
  rises_run_agent least (Acted parity entries (Some errors)) d = rises_same old new (ap (λ (b : Book). b.group) d.2)
  rises_run_agent least AgentIdle d = rises_same old new (ap (λ (b : Book). b.group) d)
  rises_run_agent least (PassThere name.Agent metaslab number) d = rises_same old new (ap (λ (b : Book). b.group) d)
  rises_run_agent least (Worn name.Agent) d = rises_same old new (ap (λ (b : Book). b.group) d.2)
  rises_run_agent least (Last name.Agent) d = rises_same old new (ap (λ (b : Book). b.group) d.2)
  rises_run_agent least (NoMemory name.Agent) d = rises_same old new (ap (λ (b : Book). b.group) d.2)
  rises_run_agent least reply d = absurd d

  rises_show_journal : (reply : Reply) → OpenAnswers old ShowJournal reply new → old.group ≤ new.group
  rises_show_journal (Journal parity entries) d = rises_same old new (ap (λ (b : Book). b.group) d)
  rises_show_journal (NoMemory name.Agent) d = rises_same old new (ap (λ (b : Book). b.group) d)
  rises_show_journal reply d = absurd d

  -- no answer where a pool is open takes the last group back that a reply named
  pub group_rises : (command : Command) (reply : Reply) → OpenAnswers old command reply new → old.group ≤ new.group
  group_rises (WriteObject object bytes) reply d = rises_write_object object bytes reply d
  group_rises (FillObjects first count len seed) reply d = rises_fill_objects first count len seed reply d
  group_rises (FreeObject object) reply d = rises_free_object object reply d
  group_rises (ReadObject object) reply d = rises_read_object object reply d
  group_rises (SumObjects first count) reply d = rises_sum_objects first count reply d
  group_rises SyncPool reply d = rises_sync_pool reply d
  group_rises ExportPool reply d = rises_export_pool reply d
  group_rises CrashPool reply d = rises_crash_pool reply d
  group_rises (CreatePool text children keys) reply d = rises_create_pool text children keys reply d
  group_rises ImportPool reply d = rises_import_pool reply d
  group_rises (DamageSector leaf sector) reply d = rises_damage_sector leaf sector reply d
  group_rises (TakeOffline leaf) reply d = rises_take_offline leaf reply d
  group_rises (TakeOnline leaf) reply d = rises_take_online leaf reply d
  group_rises (AttachSpare slot spare) reply d = rises_attach_spare slot spare reply d
  group_rises (ReplaceDisk slot sectors) reply d = rises_replace_disk slot sectors reply d
  group_rises (DetachArm arm) reply d = rises_detach_arm arm reply d
  group_rises (RebuildPool limit) reply d = rises_rebuild_pool limit reply d
  group_rises (ScrubPool limit) reply d = rises_scrub_pool limit reply d
  group_rises CancelPasses reply d = rises_cancel_passes reply d
  group_rises (RebalanceSlot slot) reply d = rises_rebalance_slot slot reply d
  group_rises UpgradePool reply d = rises_upgrade_pool reply d
  group_rises (ShowStatus format) reply d = rises_show_status format reply d
  group_rises TakeCheckpoint reply d = rises_take_checkpoint reply d
  group_rises DiscardCheckpoint reply d = rises_discard_checkpoint reply d
  group_rises RewindPool reply d = rises_rewind_pool reply d
  group_rises (RunAgent least) reply d = rises_run_agent least reply d
  group_rises ShowJournal reply d = rises_show_journal reply d
  group_rises command reply d = absurd d
