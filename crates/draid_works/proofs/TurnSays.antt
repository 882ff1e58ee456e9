-- What a lane's command that holds the uberblock does, in a session's words, by its reply or where it has none.
use Rattle.std.proofs.Common.{◌≡◌, ◌∙◌, inl, ℕ, true, false, List, Option, Result, Ok, Err, ap, refl, subst, sym}
use Rattle.draid_names.specs.declared.fault.Failed.{Failed}
use Rattle.draid_names.specs.declared.pass_kind.PassKind.TheVariants.{Heal, Rebuild}
use Rattle.draid_names.specs.declared.refusal.SlotFault.{SlotFault}
use Rattle.draid_names.specs.declared.refusal.SlotFault.TheVariants as slot
use Rattle.draid_script.specs.Line.{Command, RebuildPool, ScrubPool, SyncPool, TakeOffline, TakeOnline}
use Rattle.draid_script.specs.declared.name.CommandName.TheVariants as name
use Rattle.draid_reply.specs.declared.reply.Reply.{Reply}
use Rattle.draid_reply.specs.declared.reply.Reply.TheVariants.{Last, NoMemory, OfflineDone, OfflineRefused, OfflineWorn, OnlineDone, OnlineRefused, OnlineWorn, PassThere, RebuildNothing, Rebuilt, Scrubbed, Synced, Worn}
use Rattle.draid_session.specs.Arms as arms
use Rattle.draid_session.specs.Choices.{Choices}
use Rattle.draid_session.specs.Does.{Broken, Does}
use Rattle.draid_session.specs.Holds.{Hold}
use Rattle.draid_session.specs.Lanes.{LeavesLooks}
use Rattle.draid_session.specs.Making.{content_of}
use Rattle.draid_session.specs.State.{State, Store}
use Rattle.draid_pool.specs.Says.{IsSyncReply}
use Rattle.draid_pool.specs.declared.fault.SyncFault.{SyncFault}
use Rattle.draid_pool.specs.declared.fault.SyncFault.TheVariants as syncing
use Rattle.draid_pool.specs.declared.fault.Synced.{Synced as Group}
use Rattle.draid_changes.specs.Says.{IsSwitchReply}
use Rattle.draid_changes.specs.declared.fault.ArmFault.{ArmFault}
use Rattle.draid_changes.specs.declared.fault.ArmFault.TheVariants as changing
use Rattle.draid_visits.specs.Says.{IsRebuildReply, IsScrubReply}
use Rattle.draid_visits.specs.declared.rebuilding.MendFault.{MendFault}
use Rattle.draid_visits.specs.declared.rebuilding.MendFault.TheVariants as mending
use Rattle.draid_visits.specs.declared.rebuilding.Mended.{Mended}
use Rattle.draid_lanes.specs.Told.{SyncLane}
use Rattle.draid_works.specs.Told.{MendBut, MendLane, SwitchLane}

-- by its reply, or where an area failed it
abbrev pub SaidDoes : State → Choices → Command → Result Reply Failed → Store → List Hold → Store → Type 0
SaidDoes x choices command (Ok reply) old holds new = Does x.geometry x.perms choices content_of command old holds reply new
SaidDoes x choices command (Err failed) old holds new = Broken x.geometry x.perms command old holds new

-- but for looks
abbrev pub SaidBut : State → Choices → Command → Result Reply Failed → Store → List Hold → Store → Type 0
SaidBut x choices command said old holds new = (left : List Hold) × LeavesLooks holds left × SaidDoes x choices command said old left new

-- a leaf that is no arm is the only rule that a switch breaks
no_leaf : (x : State) (leaf : ℕ) (holds : List Hold) (why : SlotFault) → arms.Refuses x.geometry x.perms (arms.NoLeaf x.geometry x.perms leaf) why holds → arms.Refuses x.geometry x.perms (arms.NoLeaf x.geometry x.perms leaf) slot.NoSuch holds
no_leaf x leaf holds slot.NoSuch refused = refused
no_leaf x leaf holds why refused = absurd refused.broken

module _ (x : State) (choices : Choices) (old : Store) (hs : List Hold) (new : Store) where
  abbrev SaysIt : Command → Result Reply Failed → Type 0
  SaysIt command said = SaidBut x choices command said old hs new

  replied : (command : Command) (reply : Reply) (said : Result Reply Failed) → said ≡ Ok reply → SaysIt command (Ok reply) → SaysIt command said
  replied command reply said is so = subst (SaysIt command) (sym is) so

  pub sync_said : (answer : Result Group SyncFault) (said : Result Reply Failed) → IsSyncReply answer said → SyncLane x answer old hs new → SaysIt SyncPool said
  sync_said (Ok it) said is d = replied SyncPool (Synced it.group it.thin) said is (d.0.0, d.0.1, (d.1, d.0.2))
  sync_said (Err syncing.Worn) said is d = replied SyncPool (Worn name.Sync) said is (d.0.0, d.0.1, (d.1, d.0.2))
  sync_said (Err syncing.Last) said is d = replied SyncPool (Last name.Sync) said is (d.0.0, d.0.1, (d.1, d.0.2))
  sync_said (Err syncing.NoMemory) said is d = replied SyncPool (NoMemory name.Sync) said is (d.0.0, d.0.1, (d.1, inl d.0.2))
  sync_said (Err syncing.Shelf) (Ok reply) is d = absurd is
  sync_said (Err syncing.Shelf) (Err failed) is d = (d.0.0, d.0.1, (d.1, d.0.2))

  pub offline_said : (leaf : ℕ) (answer : Result Unit ArmFault) (said : Result Reply Failed) → IsSwitchReply leaf true answer said → SwitchLane x leaf true answer old hs new → SaysIt (TakeOffline leaf) said
  offline_said leaf (Ok done) said is d = replied (TakeOffline leaf) (OfflineDone leaf) said (is.1 ∙ ap Ok is.2) (d.0.0, d.0.1, (refl, d.1, d.0.2.1))
  offline_said leaf (Err (changing.Slot why)) said is d = replied (TakeOffline leaf) (OfflineRefused leaf) said is (d.0.0, d.0.1, (refl, d.1, no_leaf x leaf d.0.0 why d.0.2.1))
  offline_said leaf (Err changing.Worn) said is d = replied (TakeOffline leaf) (OfflineWorn leaf) said is (d.0.0, d.0.1, (refl, d.1, d.0.2.1))
  offline_said leaf (Err changing.NoMemory) said is d = replied (TakeOffline leaf) (NoMemory name.Offline) said is (d.0.0, d.0.1, (d.1, d.0.2.1))
  offline_said leaf (Err changing.Shelf) (Ok reply) is d = absurd is
  offline_said leaf (Err changing.Shelf) (Err failed) is d = (d.0.0, d.0.1, (d.1, d.0.2.1))

  pub online_said : (leaf : ℕ) (answer : Result Unit ArmFault) (said : Result Reply Failed) → IsSwitchReply leaf false answer said → SwitchLane x leaf false answer old hs new → SaysIt (TakeOnline leaf) said
  online_said leaf (Ok done) said is d = replied (TakeOnline leaf) (OnlineDone leaf) said (is.1 ∙ ap Ok is.2) (d.0.0, d.0.1, (refl, d.1, d.0.2.1))
  online_said leaf (Err (changing.Slot why)) said is d = replied (TakeOnline leaf) (OnlineRefused leaf) said is (d.0.0, d.0.1, (refl, d.1, no_leaf x leaf d.0.0 why d.0.2.1))
  online_said leaf (Err changing.Worn) said is d = replied (TakeOnline leaf) (OnlineWorn leaf) said is (d.0.0, d.0.1, (refl, d.1, d.0.2.1))
  online_said leaf (Err changing.NoMemory) said is d = replied (TakeOnline leaf) (NoMemory name.Online) said is (d.0.0, d.0.1, (d.1, d.0.2.1))
  online_said leaf (Err changing.Shelf) (Ok reply) is d = absurd is
  online_said leaf (Err changing.Shelf) (Err failed) is d = (d.0.0, d.0.1, (d.1, d.0.2.1))

  pub rebuild_said : (saw : Type 0) (limit : Option ℕ) (answer : Result Mended MendFault) (said : Result Reply Failed) → IsRebuildReply answer said → MendLane x Rebuild saw limit answer old hs new → SaysIt (RebuildPool limit) said
  rebuild_said saw limit (Ok it) said is d = replied (RebuildPool limit) (Rebuilt it.from it.units it.errors it.paused) said is (d.0.0, d.0.1, (d.1, d.0.2.1))
  rebuild_said saw limit (Err mending.Nothing) said is d = replied (RebuildPool limit) RebuildNothing said is (d.0.0, d.0.1, (d.1, d.0.2.1))
  rebuild_said saw limit (Err (mending.PassThere metaslab number)) said is d = replied (RebuildPool limit) (PassThere name.Rebuild metaslab number) said is (d.0.0, d.0.1, (d.1, d.0.2.1))
  rebuild_said saw limit (Err mending.Worn) said is d = replied (RebuildPool limit) (Worn name.Rebuild) said is (d.0.0, d.0.1, (d.1, d.0.2.1))
  rebuild_said saw limit (Err mending.Last) said is d = replied (RebuildPool limit) (Last name.Rebuild) said is (d.0.0, d.0.1, (d.1, d.0.2.1))
  rebuild_said saw limit (Err mending.NoMemory) said is d = replied (RebuildPool limit) (NoMemory name.Rebuild) said is (d.0.0, d.0.1, (d.1, d.0.2.1))
  rebuild_said saw limit (Err mending.Shelf) (Ok reply) is d = absurd is
  rebuild_said saw limit (Err mending.Shelf) (Err failed) is d = (d.0.0, d.0.1, (d.1, d.0.2.1))

  -- where the blocks had bytes in all that the lane saw
  pub scrub_said : (saw : Type 0) (limit : Option ℕ) (answer : Result Mended MendFault) (reply : Reply) → IsScrubReply answer reply → MendLane x Heal saw limit answer old hs new → saw → SaysIt (ScrubPool limit) (Ok reply)
  scrub_said saw limit answer reply is d so = by answer is (d.0 so)
    where
      by : (given : Result Mended MendFault) → IsScrubReply given reply → MendBut x Heal limit given hs → SaysIt (ScrubPool limit) (Ok reply)
      by (Ok it) is b = replied (ScrubPool limit) (Scrubbed it.from it.units it.repaired it.errors it.paused) (Ok reply) (ap Ok is) (b.0, b.1, (d.1, b.2.1))
      by (Err mending.Nothing) is b = absurd is
      by (Err (mending.PassThere metaslab number)) is b = replied (ScrubPool limit) (PassThere name.Scrub metaslab number) (Ok reply) (ap Ok is) (b.0, b.1, (d.1, b.2.1))
      by (Err mending.Worn) is b = replied (ScrubPool limit) (Worn name.Scrub) (Ok reply) (ap Ok is) (b.0, b.1, (d.1, b.2.1))
      by (Err mending.Last) is b = replied (ScrubPool limit) (Last name.Scrub) (Ok reply) (ap Ok is) (b.0, b.1, (d.1, b.2.1))
      by (Err mending.NoMemory) is b = replied (ScrubPool limit) (NoMemory name.Scrub) (Ok reply) (ap Ok is) (b.0, b.1, (d.1, inl b.2.1))
      by (Err mending.Shelf) is b = absurd is
