-- The book beside a checkpoint: what objects it has, and what the commands on it say of that.
use Rattle.std.specs.Prelude.{◌≡◌, ◌≢◌, ◌<◌, ◌⊎◌, ⊤, ℕ, Bool, true, false, List, [], ◌∷◌, Option, Some, None, Result, Ok, Err, All, Contains, if◌then◌else◌}
use Rattle.draid_script.specs.Grammar.{line_of}
use Rattle.draid_script.specs.Line.{Command, CreatePool, DiscardCheckpoint, ImportPool, RewindPool, Silent, TakeCheckpoint}
use Rattle.draid_script.specs.declared.fault.LineFault.{LineFault}
use Rattle.draid_script.specs.declared.name.CommandName.TheVariants as name
use Rattle.draid_reply.specs.declared.reply.Reply.{Reply}
use Rattle.draid_reply.specs.declared.reply.Reply.TheVariants.{CheckpointThere, Checkpointed, Created, Detached, Discarded, Exported, Imported, Last, NoCheckpoint, NoMemory, NoPool, Rebalanced, Rewound, Synced, Upgraded, Worn}
use Rattle.draid_session.specs.Book.{Answers, AreMany, Book, NamesNext, Objects, doubtful, synced}
use Rattle.draid_session.specs.Said.{Said}

-- A book; the objects of the checkpoint, where there is one; those of the checkpoint that the last group has which a reply named; and those of the checkpoint behind each change of
-- that since, the newest first.
pub record Marked : Type 0 where
  pub book : Book
  pub mark : Option Objects
  pub kept_mark : Option Objects
  pub since_marks : List (Option Objects)

abbrev pub unmarked : Book → Marked
unmarked book = record { book = book; mark = None; kept_mark = None; since_marks = [] }

-- ---- what commands do to the checkpoint

-- a group keeps the objects and the checkpoint as they are
abbrev pub keeps_both : ℕ → Marked → Marked
keeps_both group m = record { book = synced group m.book; mark = m.mark; kept_mark = m.mark; since_marks = [] }

-- there is another checkpoint, or none any more
abbrev pub with_mark : Option Objects → Marked → Marked
with_mark mark m = record m { mark = mark; since_marks = mark ∷ m.since_marks }

-- each object is as it was at the checkpoint, which goes
abbrev pub rewound : Objects → Marked → Marked
rewound objects m = with_mark None (record m { book = record m.book { now = objects; since = objects ∷ m.book.since } })

-- a group may be there of which no reply told
abbrev pub doubts : Marked → Marked
doubts m = record m { book = doubtful m.book }

-- a sync was refused: behind the change, or before it
abbrev pub EitherWay : Marked → Marked → Marked → Type 0
EitherWay old changed new = (new ≡ doubts old) ⊎ (new ≡ doubts changed)

-- ---- the three commands, where a pool is open

abbrev pub TakesMark : Marked → Reply → Marked → Type 0
TakesMark old (Checkpointed group) new = (old.mark ≡ None) × NamesNext old.book group × (new ≡ keeps_both group (with_mark (Some old.book.now) old))
TakesMark old (CheckpointThere group) new = (old.mark ≢ None) × (new ≡ old)
TakesMark old (Worn name.Checkpoint) new = new ≡ doubts old
TakesMark old (Last name.Checkpoint) new = new ≡ doubts old
TakesMark old (NoMemory name.Checkpoint) new = (new ≡ doubts old) ⊎ ((old.mark ≡ None) × (new ≡ doubts (with_mark (Some old.book.now) old)))
TakesMark old reply new = ⊥

abbrev pub GoesBack : Marked → Reply → Marked → Type 0
GoesBack old (Rewound group many) new = (objects : Objects) × (old.mark ≡ Some objects) × AreMany objects many × NamesNext old.book group × (new ≡ keeps_both group (rewound objects old))
GoesBack old (NoCheckpoint name.Rewind) new = (old.mark ≡ None) × (new ≡ old)
GoesBack old (Worn name.Rewind) new = (new ≡ doubts old) ⊎ ((objects : Objects) × (old.mark ≡ Some objects) × (new ≡ doubts (rewound objects old)))
GoesBack old (Last name.Rewind) new = (new ≡ doubts old) ⊎ ((objects : Objects) × (old.mark ≡ Some objects) × (new ≡ doubts (rewound objects old)))
GoesBack old (NoMemory name.Rewind) new = (new ≡ doubts old) ⊎ ((objects : Objects) × (old.mark ≡ Some objects) × (new ≡ doubts (rewound objects old)))
GoesBack old reply new = ⊥

abbrev pub GivesUp : Marked → Reply → Marked → Type 0
GivesUp old (Discarded freed group) new = (old.mark ≢ None) × NamesNext old.book group × (new ≡ keeps_both group (with_mark None old))
GivesUp old (NoCheckpoint name.Discard) new = (old.mark ≡ None) × (new ≡ old)
GivesUp old (Worn name.Discard) new = EitherWay old (with_mark None old) new
GivesUp old (Last name.Discard) new = EitherWay old (with_mark None old) new
GivesUp old (NoMemory name.Discard) new = EitherWay old (with_mark None old) new
GivesUp old reply new = ⊥

-- without a pool they say so
abbrev pub IsOpenThen : Bool → (Marked → Reply → Marked → Type 0) → Marked → Reply → Marked → Type 0
IsOpenThen true does old reply new = does old reply new
IsOpenThen false does old (NoPool called) new = new ≡ old
IsOpenThen false does old reply new = ⊥

-- ---- every other command

-- a reply names a group, which keeps all as it is then
abbrev pub names_group : Reply → Bool
names_group (Synced group thin) = true
names_group (Exported group) = true
names_group (Detached arm group) = true
names_group (Upgraded group) = true
names_group (Rebalanced slot blocks repaired errors (Some group)) = true
names_group reply = false

-- the checkpoint stays, and the group that a reply named has it
pub record KeepsMark (old new : Marked) (named : Bool) : Type 0 where
  pub mark : new.mark ≡ old.mark
  pub kept : new.kept_mark ≡ (if named then old.mark else old.kept_mark)
  pub since : new.since_marks ≡ (if named then [] else old.since_marks)

-- the checkpoint of the group that an import found: that of the last which a reply named, or where the group is a later one, one that there was since
pub record FindsMark (old new : Marked) (group : ℕ) : Type 0 where
  pub found : ((group ≡ old.book.group) × (new.mark ≡ old.kept_mark)) ⊎ ((old.book.group < group) × Contains (old.kept_mark ∷ old.since_marks) new.mark)
  pub kept : new.kept_mark ≡ new.mark
  pub since : new.since_marks ≡ []

-- a new pool has none
pub record HasNoMark (new : Marked) : Type 0 where
  pub mark : new.mark ≡ None
  pub kept : new.kept_mark ≡ None
  pub since : new.since_marks ≡ []

abbrev pub ImportMarks : Reply → Marked → Marked → Type 0
ImportMarks (Imported called group many) old new = FindsMark old new group
ImportMarks reply old new = KeepsMark old new false

abbrev pub CreateMarks : Reply → Marked → Marked → Type 0
CreateMarks (Created called stripes) old new = HasNoMark new
CreateMarks (NoMemory called) old new = KeepsMark old new false ⊎ HasNoMark new
CreateMarks reply old new = KeepsMark old new false

abbrev pub MarkedAnswers : Marked → Command → Reply → Marked → Type 0
MarkedAnswers old TakeCheckpoint reply new = IsOpenThen old.book.is_open TakesMark old reply new
MarkedAnswers old RewindPool reply new = IsOpenThen old.book.is_open GoesBack old reply new
MarkedAnswers old DiscardCheckpoint reply new = IsOpenThen old.book.is_open GivesUp old reply new
MarkedAnswers old ImportPool reply new = Answers old.book ImportPool reply new.book × ImportMarks reply old new
MarkedAnswers old (CreatePool text children keys) reply new = Answers old.book (CreatePool text children keys) reply new.book × CreateMarks reply old new
MarkedAnswers old command reply new = Answers old.book command reply new.book × KeepsMark old new (names_group reply)

-- ---- lines

abbrev pub MarkedLine : Result Command LineFault → Marked → List Said → Marked → Type 0
MarkedLine (Ok Silent) old [] new = new ≡ old
MarkedLine (Ok Silent) old (said ∷ more) new = ⊥
MarkedLine (Ok command) old (said ∷ []) new = (said.lane ≡ None) × MarkedAnswers old command said.reply new
MarkedLine line old saids new = ⊥

-- so are lines outside sections
abbrev pub MarkedAll : Marked → List (List ℕ) → List (List Said) → Marked → Type 0
MarkedAll old [] [] new = new ≡ old
MarkedAll old (line ∷ lines) (saids ∷ replies) new = (mid : Marked) × MarkedLine (line_of line) old saids mid × MarkedAll mid lines replies new
MarkedAll old lines replies new = ⊥

-- ---- between a checkpoint and its rewind

-- a line neither gives a checkpoint up nor makes a pool
abbrev pub IsCareful : Command → Type 0
IsCareful RewindPool = ⊥
IsCareful DiscardCheckpoint = ⊥
IsCareful (CreatePool text children keys) = ⊥
IsCareful command = ⊤

abbrev pub LeavesMarkIn : Result Command LineFault → Type 0
LeavesMarkIn (Ok command) = IsCareful command
LeavesMarkIn (Err fault) = ⊤

abbrev pub LeavesMark : List ℕ → Type 0
LeavesMark line = LeavesMarkIn (line_of line)

-- whatever is found has a checkpoint of these objects
pub record HasMark (objects : Objects) (m : Marked) : Type 0 where
  pub mark : m.mark ≡ Some objects
  pub kept : m.kept_mark ≡ Some objects
  pub since : All (λ (mark : Option Objects). mark ≡ Some objects) m.since_marks
