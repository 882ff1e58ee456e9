-- How a run ends in a book beside a checkpoint.
use Rattle.std.specs.Prelude.{◌≡◌, ◌⊎◌, true, false}
use Rattle.draid_script.specs.Line.{Command, CreatePool, DiscardCheckpoint, RewindPool, TakeCheckpoint}
use Rattle.draid_script.specs.declared.name.CommandName.TheVariants as name
use Rattle.draid_reply.specs.declared.reply.Reply.TheVariants.{NoMemory}
use Rattle.draid_session.specs.Book.{BreaksBook, closed}
use Rattle.draid_session.specs.Marked.{GivesUp, GoesBack, HasNoMark, KeepsMark, Marked, TakesMark}

-- A failing device ends the run in a command: one on the checkpoint leaves what it does for want of memory, and every other leaves the checkpoint, or with the pool none.
abbrev pub MarkedBreaks : Marked → Command → Marked → Type 0
MarkedBreaks old TakeCheckpoint new = (old.book.is_open ≡ true) × TakesMark old (NoMemory name.Checkpoint) new
MarkedBreaks old RewindPool new = (old.book.is_open ≡ true) × GoesBack old (NoMemory name.Rewind) new
MarkedBreaks old DiscardCheckpoint new = (old.book.is_open ≡ true) × GivesUp old (NoMemory name.Discard) new
MarkedBreaks old (CreatePool text children keys) new = BreaksBook old.book (CreatePool text children keys) new.book × (KeepsMark old new false ⊎ HasNoMark new)
MarkedBreaks old command new = BreaksBook old.book command new.book × KeepsMark old new false

-- the pool is given back
abbrev pub shut_up : Marked → Marked
shut_up m = record m { book = closed m.book }
