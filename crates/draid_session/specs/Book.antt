-- The book of a session, in words of objects alone: which objects there are, with their bytes, what a group keeps of them, and what each reply says of that.
use Rattle.std.specs.Prelude.{◌≡◌, ◌≢◌, ◌==◌, ◌+◌, ◌<◌, ◌≤◌, ◌⊎◌, ◌↔◌, ⊤, ℕ, zero, suc, Bool, true, false, List, [], ◌∷◌, Option, Some, None, Result, Ok, Contains, flat_map, length, if◌then◌else◌}
use Rattle.std.specs.List.Sorted.{IsStrictlyIncreasing}
use Rattle.sha2.specs.Sha256.{sha256}
use Rattle.draid_names.specs.declared.refusal.ObjectFault.{ObjectFault}
use Rattle.draid_names.specs.declared.refusal.ObjectFault.TheVariants as fault
use Rattle.draid_script.specs.Grammar.{line_of}
use Rattle.draid_script.specs.Line.{Command, Silent, CreatePool, ImportPool, ExportPool, SyncPool, CancelPasses, CrashPool, WriteObject, FillObjects, ReadObject, FreeObject, SumObjects, TakeOffline, TakeOnline, DamageSector, AttachSpare, ReplaceDisk, DetachArm, RebuildPool, ScrubPool, RebalanceSlot, ShowStatus, TakeCheckpoint, UpgradePool, DiscardCheckpoint, RewindPool, RunAgent, ShowJournal}
use Rattle.draid_script.specs.declared.fault.LineFault.{LineFault}
use Rattle.draid_script.specs.declared.line.StatusFormat.{StatusFormat}
use Rattle.draid_script.specs.declared.line.StatusFormat.TheVariants as format
use Rattle.draid_script.specs.declared.name.CommandName.TheVariants as name
use Rattle.draid_report.specs.Text.{text_of}
use Rattle.draid_report.specs.Tree.{json_of}
use Rattle.draid_report.specs.declared.view.View.{View}
use Rattle.draid_reply.specs.declared.reply.Reply.{Reply}
use Rattle.draid_reply.specs.declared.reply.Reply.TheVariants.{NoPool, PoolOpen, NoMemory, Worn, Last, PassThere, Created, CreateRefused, Imported, Exported, Crashed, Synced, Written, NoSpace, Missed, WriteLast, Filled, FillRefused, Contents, NoObject, Unreadable, ReadWorn, Summed, SumRefused, Freed, FreeNoObject, Damaged, DamageRefused, DamageFailed, DamageWorn, OfflineDone, OfflineRefused, OfflineWorn, OnlineDone, OnlineRefused, OnlineWorn, Spared, SpareRefused, SpareWorn, Replaced, ReplaceRefused, ReplaceWorn, Detached, DetachRefused, DetachWorn, DetachLast, Rebuilt, RebuildNothing, Scrubbed, Rebalanced, RebalanceRefused, RebalanceWorn, RebalanceLast, Cancelled, Status, Upgraded, UpgradeAlready, Checkpointed, CheckpointThere, Discarded, NoCheckpoint, Rewound, Acted, AgentIdle, Journal}
use Rattle.draid_session.specs.Said.{Said}
use Rattle.draid_session.specs.Making.{content_of}
use Rattle.draid_session.specs.Reads.{ReadsAs}
use Rattle.draid_session.specs.Session.{name_of}

-- ---- objects

-- the bytes of each object, where there is one
abbrev pub Objects : Type 0
Objects = ℕ → Option (List ℕ)

abbrev pub no_objects : Objects
no_objects object = None

-- one of them gets these bytes, or goes
abbrev pub with_object : ℕ → Option (List ℕ) → Objects → Objects
with_object object bytes objects = λ o. if object == o then bytes else objects o

-- an object is read as these bytes: as many as it has, of the same digest
abbrev pub HasContents : Objects → ℕ → List ℕ → Type 0
HasContents objects object bytes = (own : List ℕ) × (objects object ≡ Some own) × ReadsAs own bytes

-- as many objects from one on are read as these
abbrev pub HaveContents : Objects → ℕ → List (List ℕ) → Type 0
HaveContents objects first [] = ⊤
HaveContents objects first (bytes ∷ more) = HasContents objects first bytes × HaveContents objects (first + 1) more

-- so many objects there are
pub record AreMany (objects : Objects) (many : ℕ) : Type 0 where
  pub names : List ℕ
  pub ascending : IsStrictlyIncreasing names
  pub each : (object : ℕ) → Contains names object ↔ (objects object ≢ None)
  pub many_is : many ≡ length names

-- ---- the book

-- Whether a pool is open. The objects as they are now. The last group that a reply named, 0 where none did; the objects as it keeps them; and as they were after each
-- change since, the newest first. And how many groups may be there of which no reply told: those that were refused since, and those of rebuilds.
pub record Book : Type 0 where
  pub is_open : Bool
  pub now : Objects
  pub group : ℕ
  pub kept : Objects
  pub since : List Objects
  pub untold : ℕ

-- no pool is open, and there is none
abbrev pub blank : Book
blank = record { is_open = false; now = no_objects; group = 0; kept = no_objects; since = []; untold = 0 }

-- one is open, with these objects, which this group keeps
abbrev pub opened : ℕ → Objects → Book
opened group objects = record { is_open = true; now = objects; group = group; kept = objects; since = []; untold = 0 }

-- an object is written, or freed
abbrev pub changed : ℕ → Option (List ℕ) → Book → Book
changed object bytes book = record book { now = with_object object bytes book.now; since = with_object object bytes book.now ∷ book.since }

-- so many objects from one on are written, one after another
abbrev pub filled : (ℕ → List ℕ) → ℕ → ℕ → Book → Book
filled content first zero book = book
filled content first (suc n) book = changed (first + n) (Some (content (first + n))) (filled content first n book)

-- a group keeps the objects as they are now
abbrev pub synced : ℕ → Book → Book
synced group book = record book { group = group; kept = book.now; since = []; untold = 0 }

-- a group was refused, which may be there all the same, untold
abbrev pub doubtful : Book → Book
doubtful book = record book { untold = book.untold + 1 }

-- no group is there but those that a reply told of
abbrev pub certain : Book → Book
certain book = record book { untold = 0 }

-- each object is as it was at a checkpoint
abbrev pub reverted : Objects → Book → Book
reverted objects book = record book { now = objects; since = objects ∷ book.since }

-- the pool is given back
abbrev pub closed : Book → Book
closed book = record book { is_open = false }

-- ---- what may be found

-- after some change all objects were so
abbrev pub WereSo : List Objects → Objects → Type 0
WereSo [] objects = ⊥
WereSo (once ∷ more) objects = ((object : ℕ) → objects object ≡ once object) ⊎ WereSo more objects

-- they were so at some time since the last group that a reply named
abbrev pub HaveBeen : Book → Objects → Type 0
HaveBeen book objects = ((object : ℕ) → objects object ≡ book.kept object) ⊎ WereSo book.since objects

-- Which group may be found, with which objects: the last that a reply named, with what it keeps; or a later one, by at most as many as no reply told of, and then all objects are as they
-- were at one time since.
abbrev pub MayBeFound : Book → ℕ → Objects → Type 0
MayBeFound book group objects =
    ((group ≡ book.group) × ((object : ℕ) → objects object ≡ book.kept object))
    ⊎ ((book.group < group) × (group ≤ book.group + book.untold) × HaveBeen book objects)

-- an import takes up a group that is found, with so many objects
pub record TakesUp (old : Book) (group many : ℕ) (new : Book) : Type 0 where
  pub objects : Objects
  pub some : 0 < group
  pub may : MayBeFound old group objects
  pub are : AreMany objects many
  pub made : new ≡ opened group objects

-- ---- replies

-- Why an object gives no bytes. It has none just where the reply says so.
abbrev pub GivesNone : Objects → ℕ → ObjectFault → Type 0
GivesNone objects object fault.NoObject = objects object ≡ None
GivesNone objects object (fault.Unreadable absent tried) = objects object ≢ None
GivesNone objects object fault.Worn = objects object ≢ None
GivesNone objects object fault.NoMemory = ⊤

-- the first of so many objects from one on that gives no bytes
pub record IsFirstLost (objects : Objects) (first count object : ℕ) (why : ObjectFault) : Type 0 where
  pub contents : List (List ℕ)
  pub within : length contents < count
  pub object_is : object ≡ first + length contents
  pub have : HaveContents objects first contents
  pub none : GivesNone objects object why

-- the digest of the bytes of so many objects from one on, one after another
pub record IsDigest (objects : Objects) (first count : ℕ) (digest : List ℕ) : Type 0 where
  pub contents : List (List ℕ)
  pub many : length contents ≡ count
  pub have : HaveContents objects first contents
  pub is : digest ≡ sha256 (flat_map (λ bytes. bytes) contents)

-- A sync names the group behind the last that a reply named, or behind those since of which no reply told.
abbrev pub NamesNext : Book → ℕ → Type 0
NamesNext old group = (old.group < group) × (group ≤ old.group + old.untold + 1)

-- An export names such a one; or the last one again, where that keeps the objects as they are.
abbrev pub NamesKept : Book → ℕ → Type 0
NamesKept old group = NamesNext old group ⊎ ((group ≡ old.group) × ((object : ℕ) → old.kept object ≡ old.now object))

-- the text of a status in its format
abbrev pub text_in : StatusFormat → View → List ℕ
text_in format.Text view = text_of view
text_in format.Json view = json_of view

-- a pool was to be made and none was opened: nothing changed, or nothing is left of an earlier pool
abbrev pub LeavesNone : Book → Book → Type 0
LeavesNone old new = (new ≡ old) ⊎ (new ≡ doubtful blank)

-- A status tells how many objects there are, and which group is committed: the last that a reply named, or a later one, by at most as many as no reply told of.
pub record IsStatusOf (old : Book) (format : StatusFormat) (text : List ℕ) : Type 0 where
  pub view : View
  pub text_is : text ≡ text_in format view
  pub objects : AreMany old.now view.objects
  pub last : old.group ≤ view.group
  pub few : view.group ≤ old.group + old.untold

-- groups may have been committed of which the reply doesn't tell; no object changed
abbrev pub MayHaveSynced : Book → Book → Type 0
MayHaveSynced old new = (untold : ℕ) × (old.untold ≤ untold) × (new ≡ record old { untold = untold })

-- a rewind was refused before its change, or behind it
abbrev pub MayHaveReverted : Book → Book → Type 0
MayHaveReverted old new = (new ≡ doubtful old) ⊎ ((objects : Objects) × (new ≡ doubtful (reverted objects old)))

-- What a command does where a pool is open. One that changes arms or the version, and a pass, changes no object; a detachment and an upgrade end with a sync, a rebuild, a
-- rebalance and an agent that rebuilds may commit groups of which they don't tell, and the others name no group.
abbrev pub OpenAnswers : Book → Command → Reply → Book → Type 0
OpenAnswers old (WriteObject object bytes) (Written o) new = (o ≡ object) × (new ≡ changed object (Some bytes) old)
OpenAnswers old (WriteObject object bytes) (NoSpace o run disabled full worn) new = (o ≡ object) × (new ≡ old)
OpenAnswers old (WriteObject object bytes) (Missed o columns) new = (o ≡ object) × (new ≡ old)
OpenAnswers old (WriteObject object bytes) (WriteLast o) new = (o ≡ object) × (new ≡ old)
OpenAnswers old (WriteObject object bytes) (NoMemory name.Write) new = new ≡ old
OpenAnswers old (FillObjects first count len seed) (Filled f written) new =
    (f ≡ first) × (written ≡ count) × (new ≡ filled (λ object. content_of seed object len) first count old)
OpenAnswers old (FillObjects first count len seed) (FillRefused f written why) new =
    (f ≡ first) × (written < count) × (new ≡ filled (λ object. content_of seed object len) first written old)
OpenAnswers old (FreeObject object) (Freed o) new = (o ≡ object) × (old.now object ≢ None) × (new ≡ changed object None old)
OpenAnswers old (FreeObject object) (FreeNoObject o) new = (o ≡ object) × (old.now object ≡ None) × (new ≡ old)
OpenAnswers old (ReadObject object) (Contents o bytes) new = (o ≡ object) × HasContents old.now object bytes.items × (new ≡ old)
OpenAnswers old (ReadObject object) (NoObject o) new = (o ≡ object) × (old.now object ≡ None) × (new ≡ old)
OpenAnswers old (ReadObject object) (Unreadable o absent tried) new = (o ≡ object) × (old.now object ≢ None) × (new ≡ old)
OpenAnswers old (ReadObject object) (ReadWorn o) new = (o ≡ object) × (old.now object ≢ None) × (new ≡ old)
OpenAnswers old (ReadObject object) (NoMemory name.Read) new = new ≡ old
OpenAnswers old (SumObjects first count) (Summed f c digest) new = (f ≡ first) × (c ≡ count) × IsDigest old.now first count digest × (new ≡ old)
OpenAnswers old (SumObjects first count) (SumRefused object why) new = IsFirstLost old.now first count object why × (new ≡ old)
OpenAnswers old (SumObjects first count) (NoMemory name.Sum) new = new ≡ old
OpenAnswers old SyncPool (Synced group thin) new = NamesNext old group × (new ≡ synced group old)
OpenAnswers old SyncPool (Worn name.Sync) new = new ≡ doubtful old
OpenAnswers old SyncPool (Last name.Sync) new = new ≡ doubtful old
OpenAnswers old SyncPool (NoMemory name.Sync) new = new ≡ doubtful old
OpenAnswers old ExportPool (Exported group) new = NamesKept old group × (new ≡ closed (synced group old))
OpenAnswers old ExportPool (Worn name.Export) new = new ≡ doubtful old
OpenAnswers old ExportPool (Last name.Export) new = new ≡ doubtful old
OpenAnswers old ExportPool (NoMemory name.Export) new = new ≡ doubtful old
OpenAnswers old CrashPool Crashed new = new ≡ closed old
OpenAnswers old (CreatePool text children keys) (PoolOpen name.Create) new = new ≡ old
OpenAnswers old ImportPool (PoolOpen name.Import) new = new ≡ old
OpenAnswers old (DamageSector leaf sector) (Damaged l s) new = (l ≡ leaf) × (s ≡ sector) × (new ≡ old)
OpenAnswers old (DamageSector leaf sector) (DamageFailed l s) new = (l ≡ leaf) × (s ≡ sector) × (new ≡ old)
OpenAnswers old (DamageSector leaf sector) (DamageRefused l s) new = (l ≡ leaf) × (s ≡ sector) × (new ≡ old)
OpenAnswers old (DamageSector leaf sector) (DamageWorn l s) new = (l ≡ leaf) × (s ≡ sector) × (new ≡ old)
OpenAnswers old (DamageSector leaf sector) (NoMemory name.Damage) new = new ≡ old
OpenAnswers old (TakeOffline leaf) (OfflineDone l) new = (l ≡ leaf) × (new ≡ old)
OpenAnswers old (TakeOffline leaf) (OfflineRefused l) new = (l ≡ leaf) × (new ≡ old)
OpenAnswers old (TakeOffline leaf) (OfflineWorn l) new = (l ≡ leaf) × (new ≡ old)
OpenAnswers old (TakeOffline leaf) (NoMemory name.Offline) new = new ≡ old
OpenAnswers old (TakeOnline leaf) (OnlineDone l) new = (l ≡ leaf) × (new ≡ old)
OpenAnswers old (TakeOnline leaf) (OnlineRefused l) new = (l ≡ leaf) × (new ≡ old)
OpenAnswers old (TakeOnline leaf) (OnlineWorn l) new = (l ≡ leaf) × (new ≡ old)
OpenAnswers old (TakeOnline leaf) (NoMemory name.Online) new = new ≡ old
OpenAnswers old (AttachSpare slot spare) (Spared s called) new = (s ≡ slot) × (new ≡ old)
OpenAnswers old (AttachSpare slot spare) (SpareRefused s why) new = (s ≡ slot) × (new ≡ old)
OpenAnswers old (AttachSpare slot spare) (SpareWorn s) new = (s ≡ slot) × (new ≡ old)
OpenAnswers old (AttachSpare slot spare) (NoMemory name.Spare) new = new ≡ old
OpenAnswers old (ReplaceDisk slot sectors) (Replaced s leaf) new = (s ≡ slot) × (new ≡ old)
OpenAnswers old (ReplaceDisk slot sectors) (ReplaceRefused s why) new = (s ≡ slot) × (new ≡ old)
OpenAnswers old (ReplaceDisk slot sectors) (ReplaceWorn s) new = (s ≡ slot) × (new ≡ old)
OpenAnswers old (ReplaceDisk slot sectors) (NoMemory name.Replace) new = new ≡ old
OpenAnswers old (DetachArm arm) (Detached a group) new = (a ≡ arm) × NamesNext old group × (new ≡ synced group old)
OpenAnswers old (DetachArm arm) (DetachRefused a why) new = (a ≡ arm) × (new ≡ old)
OpenAnswers old (DetachArm arm) (DetachWorn a) new = (a ≡ arm) × (new ≡ doubtful old)
OpenAnswers old (DetachArm arm) (DetachLast a) new = (a ≡ arm) × (new ≡ doubtful old)
OpenAnswers old (DetachArm arm) (NoMemory name.Detach) new = new ≡ doubtful old
OpenAnswers old (RebuildPool limit) (Rebuilt from stripes errors paused) new = MayHaveSynced old new
OpenAnswers old (RebuildPool limit) RebuildNothing new = new ≡ old
OpenAnswers old (RebuildPool limit) (PassThere name.Rebuild metaslab number) new = new ≡ old
OpenAnswers old (RebuildPool limit) (Worn name.Rebuild) new = MayHaveSynced old new
OpenAnswers old (RebuildPool limit) (Last name.Rebuild) new = MayHaveSynced old new
OpenAnswers old (RebuildPool limit) (NoMemory name.Rebuild) new = MayHaveSynced old new
OpenAnswers old (ScrubPool limit) (Scrubbed from blocks repaired errors paused) new = new ≡ old
OpenAnswers old (ScrubPool limit) (PassThere name.Scrub metaslab number) new = new ≡ old
OpenAnswers old (ScrubPool limit) (Worn name.Scrub) new = new ≡ old
OpenAnswers old (ScrubPool limit) (Last name.Scrub) new = new ≡ old
OpenAnswers old (ScrubPool limit) (NoMemory name.Scrub) new = new ≡ old
OpenAnswers old CancelPasses (Cancelled passes) new = new ≡ old
OpenAnswers old (RebalanceSlot slot) (Rebalanced s blocks repaired errors None) new = (s ≡ slot) × (new ≡ doubtful old)
OpenAnswers old (RebalanceSlot slot) (Rebalanced s blocks repaired errors (Some group)) new =
    (s ≡ slot) × NamesNext (doubtful old) group × (new ≡ synced group (doubtful old))
OpenAnswers old (RebalanceSlot slot) (RebalanceRefused s why) new = (s ≡ slot) × (new ≡ old)
OpenAnswers old (RebalanceSlot slot) (RebalanceWorn s) new = (s ≡ slot) × MayHaveSynced old new
OpenAnswers old (RebalanceSlot slot) (RebalanceLast s) new = (s ≡ slot) × MayHaveSynced old new
OpenAnswers old (RebalanceSlot slot) (NoMemory name.Rebalance) new = MayHaveSynced old new
OpenAnswers old UpgradePool (Upgraded group) new = NamesNext old group × (new ≡ synced group old)
OpenAnswers old UpgradePool UpgradeAlready new = new ≡ old
OpenAnswers old UpgradePool (Worn name.Upgrade) new = new ≡ doubtful old
OpenAnswers old UpgradePool (Last name.Upgrade) new = new ≡ doubtful old
OpenAnswers old UpgradePool (NoMemory name.Upgrade) new = new ≡ doubtful old
OpenAnswers old (ShowStatus format) (Status text) new = IsStatusOf old format text.items × (new ≡ old)
OpenAnswers old (ShowStatus format) (NoMemory name.Status) new = new ≡ old
OpenAnswers old TakeCheckpoint (Checkpointed group) new = NamesNext old group × (new ≡ synced group old)
OpenAnswers old TakeCheckpoint (CheckpointThere group) new = new ≡ old
OpenAnswers old TakeCheckpoint (Worn name.Checkpoint) new = new ≡ doubtful old
OpenAnswers old TakeCheckpoint (Last name.Checkpoint) new = new ≡ doubtful old
OpenAnswers old TakeCheckpoint (NoMemory name.Checkpoint) new = new ≡ doubtful old
OpenAnswers old DiscardCheckpoint (Discarded freed group) new = NamesNext old group × (new ≡ synced group old)
OpenAnswers old DiscardCheckpoint (NoCheckpoint name.Discard) new = new ≡ old
OpenAnswers old DiscardCheckpoint (Worn name.Discard) new = new ≡ doubtful old
OpenAnswers old DiscardCheckpoint (Last name.Discard) new = new ≡ doubtful old
OpenAnswers old DiscardCheckpoint (NoMemory name.Discard) new = new ≡ doubtful old
OpenAnswers old RewindPool (Rewound group many) new = (objects : Objects) × AreMany objects many × NamesNext old group × (new ≡ synced group (reverted objects old))
OpenAnswers old RewindPool (NoCheckpoint name.Rewind) new = new ≡ old
OpenAnswers old RewindPool (Worn name.Rewind) new = MayHaveReverted old new
OpenAnswers old RewindPool (Last name.Rewind) new = MayHaveReverted old new
OpenAnswers old RewindPool (NoMemory name.Rewind) new = MayHaveReverted old new
OpenAnswers old (RunAgent least) (Acted parity entries None) new = new ≡ old
OpenAnswers old (RunAgent least) (Acted parity entries (Some errors)) new = MayHaveSynced old new
OpenAnswers old (RunAgent least) AgentIdle new = new ≡ old
OpenAnswers old (RunAgent least) (PassThere name.Agent metaslab number) new = new ≡ old
OpenAnswers old (RunAgent least) (Worn name.Agent) new = MayHaveSynced old new
OpenAnswers old (RunAgent least) (Last name.Agent) new = MayHaveSynced old new
OpenAnswers old (RunAgent least) (NoMemory name.Agent) new = MayHaveSynced old new
OpenAnswers old ShowJournal (Journal parity entries) new = new ≡ old
OpenAnswers old ShowJournal (NoMemory name.Agent) new = new ≡ old
OpenAnswers old command reply new = ⊥

-- What it does where none is. Where an import says that there is no pool, none is found till one is made.
abbrev pub ShutAnswers : Book → Command → Reply → Book → Type 0
ShutAnswers old (CreatePool text children keys) (Created called stripes) new = new ≡ opened 1 no_objects
ShutAnswers old (CreatePool text children keys) (CreateRefused why) new = new ≡ old
ShutAnswers old (CreatePool text children keys) (NoMemory name.Create) new = LeavesNone old new
ShutAnswers old (CreatePool text children keys) reply new = ⊥
ShutAnswers old ImportPool (Imported called group many) new = TakesUp old group many new
ShutAnswers old ImportPool (NoPool name.Import) new = (old.group ≡ 0) × (new ≡ certain old)
ShutAnswers old ImportPool (NoMemory name.Import) new = new ≡ old
ShutAnswers old ImportPool reply new = ⊥
ShutAnswers old command (NoPool called) new = (name_of command ≡ Some called) × (new ≡ old)
ShutAnswers old command reply new = ⊥

abbrev pub AnswersBy : Bool → Book → Command → Reply → Book → Type 0
AnswersBy true old command reply new = OpenAnswers old command reply new
AnswersBy false old command reply new = ShutAnswers old command reply new

abbrev pub Answers : Book → Command → Reply → Book → Type 0
Answers old command reply new = AnswersBy old.is_open old command reply new

-- ---- lines

-- an empty line and a comment have no reply, and every other line has one, outside a section
abbrev pub AnswersLine : Result Command LineFault → Book → List Said → Book → Type 0
AnswersLine (Ok Silent) old [] new = new ≡ old
AnswersLine (Ok Silent) old (said ∷ more) new = ⊥
AnswersLine (Ok command) old (said ∷ []) new = (said.lane ≡ None) × Answers old command said.reply new
AnswersLine line old saids new = ⊥

-- the lines are answered outside sections by the replies to each, one after another
abbrev pub AnswersAll : Book → List (List ℕ) → List (List Said) → Book → Type 0
AnswersAll old [] [] new = new ≡ old
AnswersAll old (line ∷ lines) (saids ∷ replies) new = (mid : Book) × AnswersLine (line_of line) old saids mid × AnswersAll mid lines replies new
AnswersAll old lines replies new = ⊥

-- ---- the end of a run

-- A failing device ends the run in a command, which has no reply: of a sync, an export, a detachment or an upgrade a group may be there, of a rebuild and an agent some; another change of arms and an import change no object;
-- and a create leaves what it does for want of memory. No other command breaks off.
abbrev pub OpenBreaks : Book → Command → Book → Type 0
OpenBreaks old SyncPool new = new ≡ doubtful old
OpenBreaks old ExportPool new = new ≡ doubtful old
OpenBreaks old (TakeOffline leaf) new = new ≡ old
OpenBreaks old (TakeOnline leaf) new = new ≡ old
OpenBreaks old (AttachSpare slot spare) new = new ≡ old
OpenBreaks old (ReplaceDisk slot sectors) new = new ≡ old
OpenBreaks old (DetachArm arm) new = new ≡ doubtful old
OpenBreaks old (RebuildPool limit) new = MayHaveSynced old new
OpenBreaks old (RebalanceSlot slot) new = MayHaveSynced old new
OpenBreaks old UpgradePool new = new ≡ doubtful old
OpenBreaks old TakeCheckpoint new = new ≡ doubtful old
OpenBreaks old DiscardCheckpoint new = new ≡ doubtful old
OpenBreaks old RewindPool new = MayHaveReverted old new
OpenBreaks old (RunAgent least) new = MayHaveSynced old new
OpenBreaks old command new = ⊥

abbrev pub ShutBreaks : Book → Command → Book → Type 0
ShutBreaks old ImportPool new = new ≡ old
ShutBreaks old (CreatePool text children keys) new = LeavesNone old new
ShutBreaks old command new = ⊥

abbrev pub BreaksBy : Bool → Book → Command → Book → Type 0
BreaksBy true old command new = OpenBreaks old command new
BreaksBy false old command new = ShutBreaks old command new

abbrev pub BreaksBook : Book → Command → Book → Type 0
BreaksBook old command new = BreaksBy old.is_open old command new

-- The run ends in a line. Outside a section nothing is said to it before.
abbrev pub BreaksAtLine : Result Command LineFault → Book → List Said → Book → Type 0
BreaksAtLine (Ok command) old saids new = (saids ≡ []) × BreaksBook old command new
BreaksAtLine line old saids new = ⊥

-- it ends behind its last reply, or in this line outside a section, behind what was said to it
abbrev pub EndsBook : Option (List ℕ) → Book → List Said → Book → Type 0
EndsBook None old saids new = (saids ≡ []) × (new ≡ old)
EndsBook (Some line) old saids new = BreaksAtLine (line_of line) old saids new
