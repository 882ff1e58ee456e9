-- Which replies leave the pool open.
use Rattle.std.proofs.Common.{◌≡◌, refl, Some}
use Rattle.std.specs.Prelude.{⊤}
use Rattle.draid_script.specs.Line.{Command, SyncPool, WriteObject, FillObjects, ReadObject, FreeObject, SumObjects, TakeOffline, TakeOnline, DamageSector, AttachSpare, ShowStatus, DetachArm, UpgradePool, RebuildPool, ScrubPool, RebalanceSlot, ReplaceDisk, CancelPasses, TakeCheckpoint, RewindPool, DiscardCheckpoint}
use Rattle.draid_script.specs.declared.name.CommandName.{CommandName}
use Rattle.draid_reply.specs.declared.reply.Reply.{Reply}
use Rattle.draid_reply.specs.declared.reply.Reply.TheVariants.{Crashed, Exported}
use Rattle.draid_session.specs.Known.{Known}
use Rattle.draid_session.specs.Replies.{IsReplyTo}
use Rattle.draid_session.specs.Session.{Open, Foreign, desk_behind, foreign_behind}
use Rattle.draid_session.specs.State.{State}
use Rattle.draid_run.specs.Desks.{asked_in}

abbrev pub KeepsOpen : Reply → Type 0
KeepsOpen (Exported group) = ⊥
KeepsOpen Crashed = ⊥
KeepsOpen reply = ⊤

pub open_behind : (reply : Reply) (x : State) → KeepsOpen reply → Open x ≡ desk_behind reply x
open_behind (Exported group) x keeps = absurd keeps
open_behind Crashed x keeps = absurd keeps
open_behind reply x keeps = refl

pub still_foreign : (reply : Reply) (known : Known) → KeepsOpen reply → Foreign known ≡ foreign_behind reply known
still_foreign (Exported group) known keeps = absurd keeps
still_foreign Crashed known keeps = absurd keeps
still_foreign reply known keeps = refl

-- a command that is carried out on the open pool gives none back
pub asked_keeps : (command : Command) (called : CommandName) (reply : Reply) → asked_in command ≡ Some called → IsReplyTo command reply → KeepsOpen reply
asked_keeps (WriteObject o bytes) called (Exported group) asked is = absurd is
asked_keeps (WriteObject o bytes) called Crashed asked is = absurd is
asked_keeps (WriteObject o bytes) called reply asked is = tt
asked_keeps (FillObjects first count len seed) called (Exported group) asked is = absurd is
asked_keeps (FillObjects first count len seed) called Crashed asked is = absurd is
asked_keeps (FillObjects first count len seed) called reply asked is = tt
asked_keeps (ReadObject o) called (Exported group) asked is = absurd is
asked_keeps (ReadObject o) called Crashed asked is = absurd is
asked_keeps (ReadObject o) called reply asked is = tt
asked_keeps (FreeObject o) called (Exported group) asked is = absurd is
asked_keeps (FreeObject o) called Crashed asked is = absurd is
asked_keeps (FreeObject o) called reply asked is = tt
asked_keeps (SumObjects first count) called (Exported group) asked is = absurd is
asked_keeps (SumObjects first count) called Crashed asked is = absurd is
asked_keeps (SumObjects first count) called reply asked is = tt
asked_keeps (TakeOnline leaf) called (Exported group) asked is = absurd is
asked_keeps (TakeOnline leaf) called Crashed asked is = absurd is
asked_keeps (TakeOnline leaf) called reply asked is = tt
asked_keeps (TakeOffline leaf) called (Exported group) asked is = absurd is
asked_keeps (TakeOffline leaf) called Crashed asked is = absurd is
asked_keeps (TakeOffline leaf) called reply asked is = tt
asked_keeps (DamageSector leaf sector) called (Exported group) asked is = absurd is
asked_keeps (DamageSector leaf sector) called Crashed asked is = absurd is
asked_keeps (DamageSector leaf sector) called reply asked is = tt
asked_keeps (AttachSpare slot spare) called (Exported group) asked is = absurd is
asked_keeps (AttachSpare slot spare) called Crashed asked is = absurd is
asked_keeps (AttachSpare slot spare) called reply asked is = tt
asked_keeps (ReplaceDisk slot sectors) called (Exported group) asked is = absurd is
asked_keeps (ReplaceDisk slot sectors) called Crashed asked is = absurd is
asked_keeps (ReplaceDisk slot sectors) called reply asked is = tt
asked_keeps (ShowStatus form) called (Exported group) asked is = absurd is
asked_keeps (ShowStatus form) called Crashed asked is = absurd is
asked_keeps (ShowStatus form) called reply asked is = tt
asked_keeps (DetachArm arm) called (Exported group) asked is = absurd is
asked_keeps (DetachArm arm) called Crashed asked is = absurd is
asked_keeps (DetachArm arm) called reply asked is = tt
asked_keeps (RebuildPool limit) called (Exported group) asked is = absurd is
asked_keeps (RebuildPool limit) called Crashed asked is = absurd is
asked_keeps (RebuildPool limit) called reply asked is = tt
asked_keeps (ScrubPool limit) called (Exported group) asked is = absurd is
asked_keeps (ScrubPool limit) called Crashed asked is = absurd is
asked_keeps (ScrubPool limit) called reply asked is = tt
asked_keeps (RebalanceSlot slot) called (Exported group) asked is = absurd is
asked_keeps (RebalanceSlot slot) called Crashed asked is = absurd is
asked_keeps (RebalanceSlot slot) called reply asked is = tt
asked_keeps CancelPasses called (Exported group) asked is = absurd is
asked_keeps CancelPasses called Crashed asked is = absurd is
asked_keeps CancelPasses called reply asked is = tt
asked_keeps UpgradePool called (Exported group) asked is = absurd is
asked_keeps UpgradePool called Crashed asked is = absurd is
asked_keeps UpgradePool called reply asked is = tt
asked_keeps SyncPool called (Exported group) asked is = absurd is
asked_keeps SyncPool called Crashed asked is = absurd is
asked_keeps SyncPool called reply asked is = tt
asked_keeps TakeCheckpoint called (Exported group) asked is = absurd is
asked_keeps TakeCheckpoint called Crashed asked is = absurd is
asked_keeps TakeCheckpoint called reply asked is = tt
asked_keeps RewindPool called (Exported group) asked is = absurd is
asked_keeps RewindPool called Crashed asked is = absurd is
asked_keeps RewindPool called reply asked is = tt
asked_keeps DiscardCheckpoint called (Exported group) asked is = absurd is
asked_keeps DiscardCheckpoint called Crashed asked is = absurd is
asked_keeps DiscardCheckpoint called reply asked is = tt
asked_keeps command called reply asked is = absurd (cc asked)
