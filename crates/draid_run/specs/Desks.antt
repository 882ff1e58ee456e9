-- For which desk the pool and the shelf stand between lines, and what a command comes to.
use Rattle.std.specs.Prelude.{◌≡◌, ◌++◌, ◌⊎◌, ⊤, List, Option, Some, None, Result, Ok, Err}
use Rattle.draid_names.specs.declared.fault.Failed.{Failed}
use Rattle.draid_names.specs.declared.journal.Entry.{Entry}
use Rattle.draid_rack.specs.declared.Rack as racks
use Rattle.draid_area.specs.declared.Area as areas
use Rattle.draid_script.specs.Line.{Command, Silent, CreatePool, ImportPool, ExportPool, SyncPool, CancelPasses, CrashPool, WriteObject, FillObjects, ReadObject, FreeObject, SumObjects, TakeOffline, TakeOnline, DamageSector, AttachSpare, ReplaceDisk, DetachArm, RebuildPool, ScrubPool, RebalanceSlot, ShowStatus, OpenLanes, UpgradePool, RunAgent, ShowJournal, TakeCheckpoint, RewindPool, DiscardCheckpoint}
use Rattle.draid_script.specs.declared.fault.LineFault.{LineFault}
use Rattle.draid_script.specs.declared.name.CommandName.{CommandName}
use Rattle.draid_script.specs.declared.name.CommandName.TheVariants as name
use Rattle.draid_reply.specs.declared.reply.Reply.{Reply}
use Rattle.draid_reply.specs.declared.reply.Reply.TheVariants.{NoPool}
use Rattle.draid_session.specs.Said.{Said}
use Rattle.draid_session.specs.Certain.{MakesLeaves}
use Rattle.draid_session.specs.Choices.{Choices}
use Rattle.draid_session.specs.Does as session
use Rattle.draid_session.specs.Holds.{Hold}
use Rattle.draid_session.specs.Known.{Known, MayHaveBroken}
use Rattle.draid_session.specs.State.{State, Store}
use Rattle.draid_session.specs.Replies.{IsReplyTo}
use Rattle.draid_session.specs.Session.{Desk, Open, Foreign, Breaks, Cause, MayBreak, Notes, RecordFails, ShelfFails, TurnsBy, left_of}
use Rattle.draid_pool.specs.Carries.{CarriesOut, ReplyDoes}
use Rattle.draid_pool.specs.Failing.{RackFails}
use Rattle.draid_pool.specs.Pools.{Represents}
use Rattle.draid_pool.specs.Whole.{IsWhole}
use Rattle.draid_pool.specs.declared.pool.Pool.{Pool}
use Rattle.draid_pool.specs.Knows.{KnowsBehind, KnowsPointers}
use Rattle.draid_changes.specs.Behind.{ArmsBehind}
use Rattle.draid_visits.specs.Behind.{PassesBehind}
use Rattle.draid_pool.specs.Shelves.{OnShelf}
use Rattle.draid_run.specs.Shelves.{FailsIn, FaultIn, HasFailed, HasFault, HoldsDesk, IsClosed, IsOut, MayFind, PoolFails, RackFailedOn, RackFault}

-- ---- desks

-- the pool that is open, if one is, is whole and stands for the state of the desk, if that says one, or what the desk knows of its objects is so
abbrev pub IsPool : {R A : Type 0} → racks.Ghosts R → areas.Ghosts A → Option (Pool R A) → Desk → Type 0
IsPool rack area None (Open x) = ⊥
IsPool rack area None (Foreign known) = ⊥
IsPool rack area None desk = ⊤
IsPool rack area (Some pool) (Open x) = IsWhole rack area pool × Represents rack area pool x
IsPool rack area (Some pool) (Foreign known) = IsWhole rack area pool × KnowsPointers pool known
IsPool rack area (Some pool) desk = ⊥

-- the shelf, where it held this at the entry
abbrev pub IsShelf : Desk → OnShelf → OnShelf → Type 0
IsShelf (Open x) entry now = IsOut x now
IsShelf (Foreign known) entry now = ⊤
IsShelf desk entry now = HoldsDesk desk entry now

-- both
pub record IsDesk {R A : Type 0} (rack : racks.Ghosts R) (area : areas.Ghosts A) (entry now : OnShelf) (pool : Option (Pool R A)) (desk : Desk) : Type 0 where
  pub stands : IsPool rack area pool desk
  pub shelf : IsShelf desk entry now

-- ---- commands

-- what a command did to the open pool that a failing device ended
abbrev pub BreaksBy : State → Command → List Hold → Store → Type 0
BreaksBy x command holds store = session.Broken x.geometry x.perms command x.store holds store

-- What a command that leaves the shelf alone came to: it was carried out on the open pool and has a reply that it may have, or its reply is that it wants one. Of a pool
-- of which no state is known it says what became of its objects, of its arms and of its passes.
abbrev pub PoolDid : {R A : Type 0} → racks.Ghosts R → areas.Ghosts A → Choices → Command → CommandName → Desk → Reply → Option (Pool R A) → Type 0
PoolDid rack area choices command called (Open x) reply None = ⊥
PoolDid rack area choices command called (Foreign known) reply None = ⊥
PoolDid rack area choices command called (Open x) reply (Some pool) = IsWhole rack area pool × IsReplyTo command reply × CarriesOut rack area pool x (ReplyDoes x choices command reply)
PoolDid rack area choices command called (Foreign known) reply (Some pool) =
    IsWhole rack area pool × IsReplyTo command reply × KnowsBehind command reply known pool × ArmsBehind command reply pool × PassesBehind command reply pool
PoolDid rack area choices command called desk reply pool = (reply ≡ NoPool called) × (pool ≡ None)

-- what a command did to the open pool, by its reply, or where it has none
abbrev pub AnswerDoes : State → Choices → Command → Result Reply Failed → List Hold → Store → Type 0
AnswerDoes x choices command (Ok reply) holds store = ReplyDoes x choices command reply holds store
AnswerDoes x choices command (Err failed) holds store = BreaksBy x command holds store

-- what was known of the objects is so behind a command that a failing device ended, but for a rewind
abbrev pub BreaksKnown : {R A : Type 0} → Command → Pool R A → Pool R A → Type 0
BreaksKnown command old new = (known : Known) → KnowsPointers old known → (behind : Known) × MayHaveBroken command known behind × KnowsPointers new behind

-- What such a command came to that a failing device of the open pool ended: the pool stands for the state to which it came so far, or its objects are as they were known, but behind a rewind.
abbrev pub PoolBroke : {R A : Type 0} → racks.Ghosts R → areas.Ghosts A → Command → Desk → Option (Pool R A) → Type 0
PoolBroke rack area command (Open x) (Some pool) = IsWhole rack area pool × CarriesOut rack area pool x (BreaksBy x command)
PoolBroke rack area command (Foreign known) (Some pool) =
    IsWhole rack area pool × MayBreak command × (PoolFails area (Some pool) ⊎ (MakesLeaves command × RackFails rack.faults pool))
    × ((behind : Known) × MayHaveBroken command known behind × KnowsPointers pool behind)
PoolBroke rack area command desk pool = ⊥

-- The name of a command that is carried out on the pool that is open alone, and leaves it open. The agent's two have to do with the journal as well.
abbrev pub asked_in : Command → Option CommandName
asked_in Silent = None
asked_in (CreatePool text children keys) = None
asked_in ImportPool = None
asked_in ExportPool = None
asked_in CrashPool = None
asked_in (WriteObject object bytes) = Some name.Write
asked_in (FillObjects first count len seed) = Some name.Fill
asked_in (ReadObject object) = Some name.Read
asked_in (FreeObject object) = Some name.Free
asked_in (SumObjects first count) = Some name.Sum
asked_in (TakeOffline leaf) = Some name.Offline
asked_in (TakeOnline leaf) = Some name.Online
asked_in (DamageSector leaf sector) = Some name.Damage
asked_in (AttachSpare slot spare) = Some name.Spare
asked_in (ReplaceDisk slot sectors) = Some name.Replace
asked_in (ShowStatus form) = Some name.Status
asked_in (DetachArm arm) = Some name.Detach
asked_in UpgradePool = Some name.Upgrade
asked_in SyncPool = Some name.Sync
asked_in (RebuildPool limit) = Some name.Rebuild
asked_in (ScrubPool limit) = Some name.Scrub
asked_in (RebalanceSlot slot) = Some name.Rebalance
asked_in CancelPasses = Some name.Cancel
asked_in (OpenLanes count) = None
asked_in (RunAgent least) = None
asked_in ShowJournal = None
asked_in TakeCheckpoint = Some name.Checkpoint
asked_in RewindPool = Some name.Rewind
asked_in DiscardCheckpoint = Some name.Discard

-- A line was done, and these are the replies to it.
pub record Turned {R A : Type 0} (rack : racks.Ghosts R) (area : areas.Ghosts A) (choices : Choices) (command : Result Command LineFault) (entry : OnShelf) (old : Desk)
    (saids : List Said) (now : OnShelf) (pool : Option (Pool R A)) : Type 0 where
  pub new : Desk
  pub desk : IsDesk rack area entry now pool new
  pub turns : TurnsBy choices (MayFind rack area entry) command old saids new

-- What it added to the journal, which was this before.
abbrev pub Noted : {R A : Type 0} → (rack : racks.Ghosts R) (area : areas.Ghosts A) (choices : Choices) (command : Result Command LineFault) (entry : OnShelf) (old : Desk)
    (saids : List Said) (now : OnShelf) (pool : Option (Pool R A)) → Turned rack area choices command entry old saids now pool → List Entry → List Entry → Type 0
Noted rack area choices command entry old saids now pool turned before after =
    (more : List Entry) × Notes choices (MayFind rack area entry) before command old saids turned.new turned.turns more × (after ≡ before ++ more)

-- What is left of a desk as the pool is given back to the shelf. What had failed shows there; where none is open the shelf is as it was.
pub record LeavesDesk {R A : Type 0} (rack : racks.Ghosts R) (area : areas.Ghosts A) (entry before now : OnShelf) (pool : Option (Pool R A)) (desk : Desk) : Type 0 where
  pub shelf : HoldsDesk (left_of desk) entry now
  pub failed : HasFault area entry before pool desk → HasFailed entry now
  pub racks : RackFault rack pool desk → RackFailedOn now
  pub same : IsClosed desk → now ≡ before

-- What shows why a command broke off: what failed, by whether it found a pool open, which stays open then; or no more than what the record's fault is.
abbrev pub CauseShows : {R A : Type 0} → racks.Ghosts R → areas.Ghosts A → Cause → Command → OnShelf → Desk → OnShelf → Option (Pool R A) → Desk → Type 0
CauseShows rack area RecordFails command before old now pool new = ⊤
CauseShows rack area ShelfFails command before (Open x) now pool new = FaultIn rack area command before now pool new
CauseShows rack area ShelfFails command before (Foreign known) now pool new = FaultIn rack area command before now pool new
CauseShows rack area ShelfFails command before old now pool new = IsClosed new × FailsIn area command before now

-- A command broke off, since a call of the shelf or on an area failed, or since a record has a fault.
pub record Broken {R A : Type 0} (rack : racks.Ghosts R) (area : areas.Ghosts A) (why : Cause) (command : Command) (entry before : OnShelf) (old : Desk) (now : OnShelf) (pool : Option (Pool R A)) : Type 0 where
  pub new : Desk
  pub desk : IsDesk rack area entry now pool new
  pub breaks : Breaks why old command new
  pub cause : CauseShows rack area why command before old now pool new
