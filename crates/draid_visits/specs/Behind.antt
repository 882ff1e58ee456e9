-- What the passes of a pool's metaslabs are behind a command on them, whatever is known of the pool.
use Rattle.std.specs.Prelude.{⊤}
use Rattle.draid_names.specs.declared.pass_kind.PassKind.TheVariants.{Heal, Rebuild}
use Rattle.draid_names.specs.declared.refusal.SlotFault.TheVariants as slot_fault
use Rattle.draid_script.specs.Line.{Command, Silent, CreatePool, ImportPool, ExportPool, SyncPool, CancelPasses, CrashPool, WriteObject, FillObjects, ReadObject, FreeObject, SumObjects, TakeOffline, TakeOnline, DamageSector, AttachSpare, ReplaceDisk, DetachArm, RebuildPool, ScrubPool, RebalanceSlot, ShowStatus, OpenLanes, UpgradePool, RunAgent, ShowJournal, TakeCheckpoint, RewindPool, DiscardCheckpoint}
use Rattle.draid_script.specs.declared.name.CommandName.TheVariants as name
use Rattle.draid_reply.specs.declared.reply.Reply.{Reply}
use Rattle.draid_reply.specs.declared.reply.Reply.TheVariants.{Cancelled, PassThere, Rebalanced, RebalanceRefused, RebuildNothing, Rebuilt, Scrubbed}
use Rattle.draid_pool.specs.declared.pool.Pool.{Pool}
use Rattle.draid_visits.specs.Rebuilding.{IsLowestPass, NothingToRebuild, RunsWhere}
use Rattle.draid_visits.specs.Visiting.{NoPasses}

-- Nothing is said of a command that has nothing to do with passes, nor of a reply that tells nothing of them. One that isn't built has no reply.
abbrev pub PassesBehind : {R A : Type 0} → Command → Reply → Pool R A → Type 0
PassesBehind Silent reply pool = ⊤
PassesBehind (CreatePool text children keys) reply pool = ⊤
PassesBehind ImportPool reply pool = ⊤
PassesBehind ExportPool reply pool = ⊤
PassesBehind SyncPool reply pool = ⊤
PassesBehind CancelPasses (Cancelled passes) pool = NoPasses pool
PassesBehind CancelPasses reply pool = ⊤
PassesBehind CrashPool reply pool = ⊤
PassesBehind (WriteObject object bytes) reply pool = ⊤
PassesBehind (FillObjects first count len seed) reply pool = ⊤
PassesBehind (ReadObject object) reply pool = ⊤
PassesBehind (FreeObject object) reply pool = ⊤
PassesBehind (SumObjects first count) reply pool = ⊤
PassesBehind (TakeOffline leaf) reply pool = ⊤
PassesBehind (TakeOnline leaf) reply pool = ⊤
PassesBehind (DamageSector leaf sector) reply pool = ⊤
PassesBehind (AttachSpare slot spare) reply pool = ⊤
PassesBehind (ReplaceDisk slot sectors) reply pool = ⊤
PassesBehind (DetachArm arm) reply pool = ⊤
PassesBehind (RebuildPool limit) (Rebuilt from stripes errors paused) pool = RunsWhere Rebuild paused pool
PassesBehind (RebuildPool limit) RebuildNothing pool = NothingToRebuild pool
PassesBehind (RebuildPool limit) (PassThere name.Rebuild metaslab number) pool = IsLowestPass Heal metaslab number pool
PassesBehind (RebuildPool limit) reply pool = ⊤
PassesBehind (ScrubPool limit) (Scrubbed from blocks repaired errors paused) pool = RunsWhere Heal paused pool
PassesBehind (ScrubPool limit) (PassThere name.Scrub metaslab number) pool = IsLowestPass Rebuild metaslab number pool
PassesBehind (ScrubPool limit) reply pool = ⊤
PassesBehind (RebalanceSlot slot) (Rebalanced s blocks repaired errors group) pool = NoPasses pool
PassesBehind (RebalanceSlot slot) (RebalanceRefused s (slot_fault.PassRunning metaslab number)) pool = IsLowestPass Rebuild metaslab number pool
PassesBehind (RebalanceSlot slot) reply pool = ⊤
PassesBehind (ShowStatus form) reply pool = ⊤
PassesBehind (OpenLanes count) reply pool = ⊤
PassesBehind UpgradePool reply pool = ⊤
PassesBehind (RunAgent least) reply pool = ⊤
PassesBehind ShowJournal reply pool = ⊤
PassesBehind TakeCheckpoint reply pool = ⊤
PassesBehind RewindPool reply pool = ⊤
PassesBehind DiscardCheckpoint reply pool = ⊤
