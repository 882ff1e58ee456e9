-- How a run ends that nothing stops before the end of its input.
use Rattle.std.specs.Prelude.{◌≡◌, ◌≢◌, ◌≤◌, ◌∷◌, ◌++◌, ⊤, ℕ, false, List, Result, Ok, Err, All, length}
use Rattle.draid_names.specs.declared.numbers.TheConstants.{LONGEST_LINE}
use Rattle.draid_lines.specs.Lines.{lines_of, most_lines}
use Rattle.draid_script.specs.Line.{Command}
use Rattle.draid_script.specs.declared.fault.LineFault.{LineFault}
use Rattle.draid_session.specs.Places.{IsOutside, Outside, line_behind, place_after}
use Rattle.draid_session.specs.Session.{Desk, Untouched, Made, Shut, Unknown}
use Rattle.draid_exits.specs.declared.status.Status.{Status}
use Rattle.draid_exits.specs.declared.status.Status.TheVariants.{Done, Record, SourceFault, SinkFault, NoMemory, ShelfFault}

-- a line is in the grammar
abbrev pub IsTaken : Result Command LineFault → Type 0
IsTaken (Ok command) = ⊤
IsTaken (Err fault) = ⊥

-- All lines of an input are so, none is too long, and there aren't too many. The last one isn't inside a section.
pub record CanRun (input : List ℕ) : Type 0 where
  pub few : length (lines_of input) ≤ most_lines
  pub short : All (λ line. length line ≤ LONGEST_LINE) (lines_of input)
  pub taken : (front : List (List ℕ)) (line : List ℕ) (rest : List (List ℕ)) → lines_of input ≡ front ++ (line ∷ rest) → IsTaken (line_behind front line)
  pub outside : IsOutside (place_after Outside (lines_of input))

-- no device failed, and memory wasn't wanting
pub record IsUndisturbed (status : Status) : Type 0 where
  pub source : status ≢ SourceFault
  pub sink : status ≢ SinkFault
  pub shelf : status ≢ ShelfFault
  pub memory : status ≢ NoMemory

-- no session knows what the shelf holds, or the shelf didn't tell it
abbrev pub IsUntold : Desk → Type 0
IsUntold Untouched = ⊤
IsUntold (Made told failed geometry) = told ≡ false
IsUntold (Shut crash state) = state.told ≡ false
IsUntold Unknown = ⊤
IsUntold desk = ⊥

-- The run ended with its input; or, where that was so before its last line, at a record's fault.
abbrev pub EndsWell : Status → Desk → Type 0
EndsWell Done mid = ⊤
EndsWell (Record which place kind) mid = IsUntold mid
EndsWell status mid = ⊥
