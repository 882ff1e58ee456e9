use Rattle.std.specs.Prelude.{ℕ, List, [], ◌∷◌, Option, None, Some, if◌then◌else◌, codes, option_map, string_bytes}
use Rattle.std.specs.Str.{bytes_eq}
use Rattle.clap.specs.Words.{Row, fault_of, first_of, matches_of}
use Rattle.clap.specs.Kinds.{Kinds}
use Rattle.draid_script.specs.Word.{number_of}
use Rattle.draid_words.specs.CommandLine.{command_line}
use Rattle.draid_words.specs.declared.mode.Mode.{Mode}
use Rattle.draid_words.specs.declared.mode.Mode.TheVariants.{Session, Workload}

-- What words may ask for: a session, with a folder or in memory, or the workload of a number.
pub data Asked : Type 0 where
  OfSession : Option (List ℕ) → Asked
  OfWorkload : ℕ → Asked

-- what a mode of the code is
abbrev pub asked_in : Mode → Asked
asked_in (Session dir) = OfSession (option_map string_bytes dir)
asked_in (Workload number) = OfWorkload number

-- a session has no number
abbrev pub session_by : Option (List ℕ) → Option (List ℕ) → Option Asked
session_by None dir = Some (OfSession dir)
session_by (Some number) dir = None

-- a workload has a number, below 2^64 in decimal digits, and no folder
abbrev pub workload_by : Option (List ℕ) → Option (List ℕ) → Option Asked
workload_by (Some number) None = option_map OfWorkload (number_of number)
workload_by number dir = None

-- what MODE, NUMBER and DIR ask for
abbrev pub asked_by : Option (List ℕ) → Option (List ℕ) → Option (List ℕ) → Option Asked
asked_by None number dir = None
asked_by (Some mode) number dir =
    if bytes_eq mode (codes "session") then session_by number dir
    else if bytes_eq mode (codes "workload") then workload_by number dir
    else None

-- what is asked for where the words are found to be MODE, NUMBER and DIR
abbrev pub asked_of : List Row → Option Asked
asked_of rows = asked_by (first_of (codes "mode") rows) (first_of (codes "number") rows) (first_of (codes "dir") rows)

-- the same where the words are no fault of the command line, else nothing
abbrev pub unless_fault : Kinds → Option Asked → Option Asked
unless_fault [] asked = asked
unless_fault (kind ∷ kinds) asked = None

-- What the words behind the program's name ask for: nothing where they are outside of what it takes.
unfoldable pub asked : List (List ℕ) → Option Asked
asked words = unless_fault (fault_of command_line words) (asked_of (matches_of command_line words))
