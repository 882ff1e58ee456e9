-- How the program ends, by the words behind its name.
use Rattle.std.specs.Prelude.{◌≡◌, ℕ, List, Option, Some}
use Rattle.std.specs.Process.{exit_status}
use Rattle.std.specs.declared.process.ExitCode.{ExitCode}
use Rattle.draid_rack.specs.declared.Rack as racks
use Rattle.draid_area.specs.declared.Area as areas
use Rattle.draid_words.specs.Mode.{OfSession, asked}
use Rattle.draid_words.specs.declared.mode.WordsFault.{WordsFault}
use Rattle.draid_words.specs.declared.mode.WordsFault.TheVariants as fault
use Rattle.draid_session.specs.Book.{Book, blank}
use Rattle.draid_session.specs.Choices.{Choices}
use Rattle.draid_pool.specs.Shelves.{OnShelf}
use Rattle.draid_run.specs.Books.{KeepsBook}
use Rattle.draid_run.specs.Script.{EndsWithLine, RunIs}
use Rattle.draid_exits.specs.Status.{code_of}
use Rattle.draid_exits.specs.declared.status.Status.{Status}
use Rattle.draid_exits.specs.declared.status.Status.TheVariants.{NoMemory, Usage}

-- the status of words that can't be read
abbrev pub unread : WordsFault → Status
unread fault.NoMemory = NoMemory
unread fault.Usage = Usage

-- the words ask for a session in this folder
abbrev pub NamesFolder : List (List ℕ) → List ℕ → Type 0
NamesFolder words path = asked words ≡ Some (OfSession (Some path))

-- The program printed the last line of a status and exits with that, or with the sink's where the line couldn't be put.
pub record EndsBy (ended : Status) (exit : ExitCode) (old new : Option (List ℕ)) : Type 0 where
  pub status : Status
  pub exits : exit_status exit ≡ code_of status
  pub line : EndsWithLine ended status old new

-- It exits with the status of a run.
pub record EndsByRun {R A : Type 0} (rack : racks.Ghosts R) (area : areas.Ghosts A) (choices : Choices) (words : List (List ℕ)) (exit : ExitCode) (input old new : Option (List ℕ)) (entry now : OnShelf) : Type 0 where
  pub status : Status
  pub exits : exit_status exit ≡ code_of status
  pub run : RunIs rack area choices words status input old new entry now

-- It exits with the status of a run that begins with a blank book.
pub record EndsByBook (words : List (List ℕ)) (exit : ExitCode) (input old new : Option (List ℕ)) : Type 0 where
  pub status : Status
  pub exits : exit_status exit ≡ code_of status
  pub book : Book
  pub keeps : KeepsBook words status input old new blank book
