-- What each command does leaves no metaslab with an earlier group open: by its replies, and where a device ends it.
use Rattle.std.proofs.Common.{ℕ, Bool, true, false, List, [], ◌∷◌, Option, inl, inr, sym, subst}
use Rattle.draid_names.specs.declared.refusal.SlotFault.TheVariants as slot_fault
use Rattle.draid_spec.specs.declared.layout.Geometry.{Geometry}
use Rattle.draid_perm.specs.declared.perms.Perms.{Perms}
use Rattle.draid_script.specs.Line.{Command, SyncPool, ExportPool, CrashPool, WriteObject, FillObjects, ReadObject, SumObjects, FreeObject, DamageSector, TakeOffline, TakeOnline, AttachSpare, ReplaceDisk, DetachArm, RebuildPool, ScrubPool, CancelPasses, RebalanceSlot, UpgradePool, ShowStatus, CreatePool, ImportPool, TakeCheckpoint, DiscardCheckpoint, RewindPool, RunAgent, ShowJournal}
use Rattle.draid_script.specs.declared.line.ArmArgument.{ArmArgument}
use Rattle.draid_script.specs.declared.line.PoolKeys.{PoolKeys}
use Rattle.draid_script.specs.declared.line.StatusFormat.{StatusFormat}
use Rattle.draid_script.specs.declared.name.CommandName.TheVariants as name
use Rattle.draid_reply.specs.declared.reply.Reply.{Reply}
use Rattle.draid_reply.specs.declared.reply.Reply.TheVariants.{Cancelled, Crashed, DamageFailed, DamageRefused, DamageWorn, Damaged, DetachLast, DetachRefused, DetachWorn, Detached, Exported, Last, NoMemory, OfflineDone, OfflineRefused, OfflineWorn, OnlineDone, OnlineRefused, OnlineWorn, PassThere, PoolOpen, RebalanceLast, RebalanceRefused, RebalanceWorn, Rebalanced, ReplaceRefused, ReplaceWorn, Replaced, SpareRefused, SpareWorn, Spared, Status, Synced, UpgradeAlready, Upgraded, Worn, Checkpointed, CheckpointThere, Discarded, NoCheckpoint, Rewound, Acted, AgentIdle, Journal}
use Rattle.draid_session.specs.Agent.{AnySpare}
use Rattle.draid_session.specs.Arms as arms
use Rattle.draid_session.specs.Balance as balance
use Rattle.draid_session.specs.Choices.{Choices}
use Rattle.draid_session.specs.Damage as damage
use Rattle.draid_session.specs.Discarding.{DiscardStops}
use Rattle.draid_session.specs.Does.{Broken, Does}
use Rattle.draid_session.specs.GoingBack.{BackStops}
use Rattle.draid_session.specs.Groups as groups
use Rattle.draid_session.specs.Holds.{Hold, LookedUber, OnUber}
use Rattle.draid_session.specs.Looks.{AllOf}
use Rattle.draid_session.specs.Making.{content_of}
use Rattle.draid_session.specs.Phases.{Broke, End, Starved, WasLast, WasWorn, Went}
use Rattle.draid_session.specs.State.{Store}
use Rattle.draid_session.specs.Status as statuses
use Rattle.draid_session.specs.Taking.{StopsBefore, TakeStops}
use Rattle.draid_session.proofs.Changing.{looks_from_calm}
use Rattle.draid_session.proofs.Groupwise.{IsSteadyHold}
use Rattle.draid_session.proofs.Lanewise.{does_calm}
use Rattle.draid_session.proofs.Phased.{all_both}
use Rattle.draid_session.proofs.Taking.{before_stops, take_stops}
use Rattle.draid_marked.proofs.Steadies.{already_steady, back_steady, calm_steady, cancels_steady, discards_steady, disk_steady, exports_steady, finishes_steady, found_steady, idle_steady, looks_steady, loses_steady, none_steady, offline_steady, online_steady, rebalances_steady, rebuild_breaks_steady, rebuild_steady, refuses_steady, repair_starves_steady, repair_stops_steady, repairs_steady, spare_steady, syncs_steady, upgrades_steady}

module _ (geometry : Geometry) (perms : Perms) (holds : List Hold) where
  abbrev S : Type 0
  S = AllOf IsSteadyHold holds

  stops_sync : (end : End) → groups.SyncStops geometry perms holds end → S
  stops_sync end s = syncs_steady geometry perms s.group s.thin holds end s.syncs

  stops_take : (old new : Store) (end : End) → TakeStops geometry perms old holds end new → S
  stops_take old new end t = stops_sync end (take_stops geometry perms old holds end new t).0

  stops_before : (old : Store) (end : End) → StopsBefore geometry perms old holds end → S
  stops_before old end s = stops_sync end (before_stops geometry perms old holds end s)

  stops_discard : (old new : Store) (end : End) → DiscardStops geometry perms old holds end new → S
  stops_discard old new end (inl (same, other, ends)) = finishes_steady geometry perms holds end ends
  stops_discard old new end (inr (at, group, thin, frees, made, other, d)) = discards_steady geometry perms old at group thin frees holds end d

  stops_back : (old new : Store) (end : End) → BackStops geometry perms old holds end new → S
  stops_back old new end (inl (same, other, ends)) = finishes_steady geometry perms holds end ends
  stops_back old new end (inr (group, thin, other, d)) = back_steady geometry perms old new group thin holds end d

  damages : (leaf sector : ℕ) (failed : Bool) → damage.Damages geometry leaf sector failed holds → S
  damages leaf sector failed d = subst (AllOf IsSteadyHold) (sym d.are) (tt, (tt, tt))

  not_there : (leaf sector : ℕ) → damage.IsNotThere geometry leaf sector holds → S
  not_there leaf sector (inl none) = none_steady holds none.1
  not_there leaf sector (inr l) = subst (AllOf IsSteadyHold) (sym l.are) (subst IsSteadyHold (sym l.looked.looked) tt, tt)

  damages_worn : (leaf sector : ℕ) → damage.DamagesWorn geometry leaf sector holds → S
  damages_worn leaf sector d = subst (AllOf IsSteadyHold) (sym d.are) (subst IsSteadyHold (sym d.looked.looked) tt, tt)

  tells : (store : Store) (form : StatusFormat) (text : List ℕ) → statuses.Tells geometry perms store form text holds → S
  tells store form text t = subst (AllOf IsSteadyHold) (sym t.holds_are) (all_both IsSteadyHold t.looks (OnUber t.u LookedUber ∷ []) (calm_steady t.looks (looks_from_calm 0 geometry.props.metaslabs t.looks t.views t.each)) (tt, tt))

  module _ (choices : Choices) (old new : Store) where
    abbrev DoesTo : Command → Reply → Type 0
    DoesTo command r = Does geometry perms choices content_of command old holds r new

    does_sync : (r : Reply) → DoesTo SyncPool r → S
    does_sync (Synced group thin) d = syncs_steady geometry perms group thin holds Went d.1
    does_sync (Worn name.Sync) d = stops_sync WasWorn d.1
    does_sync (Last name.Sync) d = stops_sync WasLast d.1
    does_sync (NoMemory name.Sync) d = elim d.1 [ inl s ↦ stops_sync Starved s | inr looks ↦ looks_steady holds looks ]
    does_sync r d = absurd d

    does_export : (r : Reply) → DoesTo ExportPool r → S
    does_export (Exported group) d = exports_steady geometry perms old.marks group holds Went d.1
    does_export (Worn name.Export) d = exports_steady geometry perms old.marks d.1.group holds WasWorn d.1.exports
    does_export (Last name.Export) d = exports_steady geometry perms old.marks d.1.group holds WasLast d.1.exports
    does_export (NoMemory name.Export) d = elim d.1 [ inl s ↦ exports_steady geometry perms old.marks s.group holds Starved s.exports | inr looks ↦ looks_steady holds looks ]
    does_export r d = absurd d

    does_crash : (r : Reply) → DoesTo CrashPool r → S
    does_crash Crashed d = none_steady holds d.1
    does_crash r d = absurd d

    does_damage : (leaf sector : ℕ) (r : Reply) → DoesTo (DamageSector leaf sector) r → S
    does_damage leaf sector (Damaged l s) d = damages leaf sector false d.3
    does_damage leaf sector (DamageFailed l s) d = damages leaf sector true d.3
    does_damage leaf sector (DamageRefused l s) d = not_there leaf sector d.3
    does_damage leaf sector (DamageWorn l s) d = damages_worn leaf sector d.3
    does_damage leaf sector (NoMemory name.Damage) d = looks_steady holds d.1
    does_damage leaf sector r d = absurd d

    does_offline : (leaf : ℕ) (r : Reply) → DoesTo (TakeOffline leaf) r → S
    does_offline leaf (OfflineDone l) d = offline_steady geometry perms leaf holds Went d.2
    does_offline leaf (OfflineRefused l) d = refuses_steady geometry perms (arms.NoLeaf geometry perms leaf) slot_fault.NoSuch holds d.2
    does_offline leaf (OfflineWorn l) d = offline_steady geometry perms leaf holds WasWorn d.2
    does_offline leaf (NoMemory name.Offline) d = elim d.1 [ inl c ↦ offline_steady geometry perms leaf holds Starved c | inr looks ↦ looks_steady holds looks ]
    does_offline leaf r d = absurd d

    does_online : (leaf : ℕ) (r : Reply) → DoesTo (TakeOnline leaf) r → S
    does_online leaf (OnlineDone l) d = online_steady geometry perms leaf holds Went d.2
    does_online leaf (OnlineRefused l) d = refuses_steady geometry perms (arms.NoLeaf geometry perms leaf) slot_fault.NoSuch holds d.2
    does_online leaf (OnlineWorn l) d = online_steady geometry perms leaf holds WasWorn d.2
    does_online leaf (NoMemory name.Online) d = elim d.1 [ inl c ↦ online_steady geometry perms leaf holds Starved c | inr looks ↦ looks_steady holds looks ]
    does_online leaf r d = absurd d

    does_spare : (slot spare : ℕ) (r : Reply) → DoesTo (AttachSpare slot spare) r → S
    does_spare slot spare (Spared s called) d = spare_steady geometry perms slot spare holds Went d.3
    does_spare slot spare (SpareRefused s why) d = refuses_steady geometry perms (arms.BreaksSpare geometry perms slot spare) why holds d.2
    does_spare slot spare (SpareWorn s) d = spare_steady geometry perms slot spare holds WasWorn d.2
    does_spare slot spare (NoMemory name.Spare) d = elim d.1 [ inl c ↦ spare_steady geometry perms slot spare holds Starved c | inr looks ↦ looks_steady holds looks ]
    does_spare slot spare r d = absurd d

    does_replace : (slot : ℕ) (sectors : Option ℕ) (r : Reply) → DoesTo (ReplaceDisk slot sectors) r → S
    does_replace slot sectors (Replaced s leaf) d = disk_steady geometry perms slot sectors leaf holds Went d.2
    does_replace slot sectors (ReplaceRefused s why) d = refuses_steady geometry perms (arms.BreaksDisk geometry perms slot sectors) why holds d.2
    does_replace slot sectors (ReplaceWorn s) d = disk_steady geometry perms slot sectors d.2.0 holds WasWorn d.2.1
    does_replace slot sectors (NoMemory name.Replace) d = elim d.1 [ inl c ↦ disk_steady geometry perms slot sectors c.0 holds Starved c.1 | inr looks ↦ looks_steady holds looks ]
    does_replace slot sectors r d = absurd d

    does_detach : (arm : ArmArgument) (r : Reply) → DoesTo (DetachArm arm) r → S
    does_detach arm (Detached a group) d = loses_steady geometry perms (arms.arm_of arm) group holds Went d.2
    does_detach arm (DetachRefused a why) d = refuses_steady geometry perms (arms.BreaksDetach geometry perms (arms.arm_of arm)) why holds d.2
    does_detach arm (DetachWorn a) d = loses_steady geometry perms (arms.arm_of arm) d.2.0 holds WasWorn d.2.1
    does_detach arm (DetachLast a) d = loses_steady geometry perms (arms.arm_of arm) d.2.0 holds WasLast d.2.1
    does_detach arm (NoMemory name.Detach) d = elim d.1 [ inl c ↦ loses_steady geometry perms (arms.arm_of arm) c.0 holds Starved c.1 | inr looks ↦ looks_steady holds looks ]
    does_detach arm r d = absurd d

    does_cancel : (r : Reply) → DoesTo CancelPasses r → S
    does_cancel (Cancelled ended) d = cancels_steady geometry perms ended holds d.1
    does_cancel r d = absurd d

    does_rebalance : (slot : ℕ) (r : Reply) → DoesTo (RebalanceSlot slot) r → S
    does_rebalance slot (Rebalanced s blocks repaired errors group) d = rebalances_steady geometry perms slot holds d.2.0 (balance.balance_of group) d.2.1
    does_rebalance slot (RebalanceRefused s slot_fault.NoSuch) d = none_steady holds d.3
    does_rebalance slot (RebalanceRefused s (slot_fault.PassRunning metaslab number)) d = calm_steady holds (looks_from_calm 0 geometry.props.metaslabs holds d.2.1.views d.2.1.looked)
    does_rebalance slot (RebalanceWorn s) d = rebalances_steady geometry perms slot holds d.2.0 (balance.Halted WasWorn) d.2.2
    does_rebalance slot (RebalanceLast s) d = rebalances_steady geometry perms slot holds d.2.0 (balance.Halted WasLast) d.2.2
    does_rebalance slot (NoMemory name.Rebalance) d = elim d.1 [ inl c ↦ rebalances_steady geometry perms slot holds c.0 (balance.Halted Starved) c.2 | inr looks ↦ looks_steady holds looks ]
    does_rebalance slot r d = absurd d

    does_upgrade : (r : Reply) → DoesTo UpgradePool r → S
    does_upgrade (Upgraded group) d = upgrades_steady geometry perms group holds Went d.1
    does_upgrade UpgradeAlready d = already_steady geometry perms holds d.1
    does_upgrade (Worn name.Upgrade) d = upgrades_steady geometry perms d.1.0 holds WasWorn d.1.1
    does_upgrade (Last name.Upgrade) d = upgrades_steady geometry perms d.1.0 holds WasLast d.1.1
    does_upgrade (NoMemory name.Upgrade) d = elim d.1 [ inl c ↦ upgrades_steady geometry perms c.0 holds Starved c.1 | inr looks ↦ looks_steady holds looks ]
    does_upgrade r d = absurd d

    does_status : (form : StatusFormat) (r : Reply) → DoesTo (ShowStatus form) r → S
    does_status form (Status text) d = tells old form text.items d.1
    does_status form (NoMemory name.Status) d = none_steady holds d.1
    does_status form r d = absurd d

    does_agent : (least : ℕ) (r : Reply) → DoesTo (RunAgent least) r → S
    does_agent least (Acted parity entries errors) d = repairs_steady geometry perms choices.spare least d.2.number entries.items errors holds d.2.repairs
    does_agent least AgentIdle d = idle_steady geometry perms choices.spare least holds d.1
    does_agent least (PassThere name.Agent metaslab number) d = found_steady geometry perms choices.spare holds metaslab number d.1
    does_agent least (Worn name.Agent) d = repair_stops_steady geometry perms choices.spare least d.1.number d.1.entries holds WasWorn d.1.stops
    does_agent least (Last name.Agent) d = repair_stops_steady geometry perms choices.spare least d.1.number d.1.entries holds WasLast d.1.stops
    does_agent least (NoMemory name.Agent) d = repair_starves_steady geometry perms choices.spare least d.1.number d.1.entries holds d.1.starves
    does_agent least r d = absurd d

    does_journal : (r : Reply) → DoesTo ShowJournal r → S
    does_journal (Journal parity entries) d = none_steady holds d.2
    does_journal (NoMemory name.Agent) d = none_steady holds d.1
    does_journal r d = absurd d

    does_create : (text : List ℕ) (children : ℕ) (keys : PoolKeys) (r : Reply) → DoesTo (CreatePool text children keys) r → S
    does_create text children keys (PoolOpen name.Create) d = none_steady holds d.1
    does_create text children keys r d = absurd d

    does_import : (r : Reply) → DoesTo ImportPool r → S
    does_import (PoolOpen name.Import) d = none_steady holds d.1
    does_import r d = absurd d

    does_take : (r : Reply) → DoesTo TakeCheckpoint r → S
    does_take (Checkpointed group) d = syncs_steady geometry perms group d.0 holds Went d.3
    does_take (CheckpointThere group) d = finishes_steady geometry perms holds Went d.2
    does_take (Worn name.Checkpoint) d = stops_before old WasWorn d.1
    does_take (Last name.Checkpoint) d = stops_before old WasLast d.1
    does_take (NoMemory name.Checkpoint) (inl d) = stops_take old new Starved d
    does_take (NoMemory name.Checkpoint) (inr (same, inl looks)) = looks_steady holds looks
    does_take (NoMemory name.Checkpoint) (inr (same, inr (none, ends))) = finishes_steady geometry perms holds Went ends
    does_take r d = absurd d

    does_discard : (r : Reply) → DoesTo DiscardCheckpoint r → S
    does_discard (Discarded freed group) (at, thin, frees, many, made, d) = discards_steady geometry perms old at group thin frees holds Went d
    does_discard (NoCheckpoint name.Discard) d = finishes_steady geometry perms holds Went d.2
    does_discard (Worn name.Discard) d = stops_discard old new WasWorn d
    does_discard (Last name.Discard) d = stops_discard old new WasLast d
    does_discard (NoMemory name.Discard) d = stops_discard old new Starved d
    does_discard r d = absurd d

    does_rewind : (r : Reply) → DoesTo RewindPool r → S
    does_rewind (Rewound group many) (thin, has, d) = back_steady geometry perms old new group thin holds Went d
    does_rewind (NoCheckpoint name.Rewind) d = finishes_steady geometry perms holds Went d.2
    does_rewind (Worn name.Rewind) d = stops_back old new WasWorn d
    does_rewind (Last name.Rewind) d = stops_back old new WasLast d
    does_rewind (NoMemory name.Rewind) (inl d) = stops_back old new Starved d
    does_rewind (NoMemory name.Rewind) (inr d) = finishes_steady geometry perms holds Went d.2
    does_rewind r d = absurd d

    pub does_steady : (command : Command) (r : Reply) → DoesTo command r → S
    does_steady SyncPool r d = does_sync r d
    does_steady ExportPool r d = does_export r d
    does_steady CrashPool r d = does_crash r d
    does_steady (WriteObject object bytes) r d = calm_steady holds (does_calm geometry perms choices (WriteObject object bytes) r old new holds tt d)
    does_steady (FillObjects first count len seed) r d = calm_steady holds (does_calm geometry perms choices (FillObjects first count len seed) r old new holds tt d)
    does_steady (FreeObject object) r d = calm_steady holds (does_calm geometry perms choices (FreeObject object) r old new holds tt d)
    does_steady (ReadObject object) r d = calm_steady holds (does_calm geometry perms choices (ReadObject object) r old new holds tt d)
    does_steady (SumObjects first count) r d = calm_steady holds (does_calm geometry perms choices (SumObjects first count) r old new holds tt d)
    does_steady (ScrubPool limit) r d = calm_steady holds (does_calm geometry perms choices (ScrubPool limit) r old new holds tt d)
    does_steady (RebuildPool limit) r d = rebuild_steady geometry perms choices limit r old new holds d
    does_steady (DamageSector leaf sector) r d = does_damage leaf sector r d
    does_steady (TakeOffline leaf) r d = does_offline leaf r d
    does_steady (TakeOnline leaf) r d = does_online leaf r d
    does_steady (AttachSpare slot spare) r d = does_spare slot spare r d
    does_steady (ReplaceDisk slot sectors) r d = does_replace slot sectors r d
    does_steady (DetachArm arm) r d = does_detach arm r d
    does_steady CancelPasses r d = does_cancel r d
    does_steady (RebalanceSlot slot) r d = does_rebalance slot r d
    does_steady UpgradePool r d = does_upgrade r d
    does_steady (ShowStatus form) r d = does_status form r d
    does_steady (RunAgent least) r d = does_agent least r d
    does_steady ShowJournal r d = does_journal r d
    does_steady (CreatePool text children keys) r d = does_create text children keys r d
    does_steady ImportPool r d = does_import r d
    does_steady TakeCheckpoint r d = does_take r d
    does_steady DiscardCheckpoint r d = does_discard r d
    does_steady RewindPool r d = does_rewind r d
    does_steady command r d = absurd d

  pub broken_steady : (command : Command) (old new : Store) → Broken geometry perms command old holds new → S
  broken_steady SyncPool old new d = stops_sync Broke d.1
  broken_steady ExportPool old new d = exports_steady geometry perms old.marks d.1.group holds Broke d.1.exports
  broken_steady (TakeOffline leaf) old new d = offline_steady geometry perms leaf holds Broke d.1
  broken_steady (TakeOnline leaf) old new d = online_steady geometry perms leaf holds Broke d.1
  broken_steady (AttachSpare slot spare) old new d = spare_steady geometry perms slot spare holds Broke d.1
  broken_steady (ReplaceDisk slot sectors) old new d = disk_steady geometry perms slot sectors d.1.0 holds Broke d.1.1
  broken_steady (DetachArm arm) old new d = loses_steady geometry perms (arms.arm_of arm) d.1.0 holds Broke d.1.1
  broken_steady (RebuildPool limit) old new d = rebuild_breaks_steady geometry perms limit old new holds d
  broken_steady (RebalanceSlot slot) old new d = rebalances_steady geometry perms slot holds d.1.0 (balance.Halted Broke) d.1.2
  broken_steady UpgradePool old new d = upgrades_steady geometry perms d.1.0 holds Broke d.1.1
  broken_steady TakeCheckpoint old new d = stops_take old new Broke d
  broken_steady DiscardCheckpoint old new d = stops_discard old new Broke d
  broken_steady RewindPool old new d = stops_back old new Broke d
  broken_steady (RunAgent least) old new d = repair_stops_steady geometry perms AnySpare least d.1.number d.1.entries holds Broke d.1.stops
  broken_steady command old new d = absurd d
