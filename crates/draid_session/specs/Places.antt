-- Where a run stands between its lines, by which it reads the next one.
use Rattle.std.specs.Prelude.{◌++◌, ⊤, ℕ, List, [], ◌∷◌, Result, Ok, Err, length, replicate, slice_index_or, slice_set}
use Rattle.draid_script.specs.Grammar.{lane_of, line_of}
use Rattle.draid_script.specs.Line.{Command, InLane, LaneCommand, OpenLanes, SectionEnd, Silent}
use Rattle.draid_script.specs.declared.fault.LineFault.{LineFault}

-- Where a run stands between lines: outside a section; inside one, by its lanes' commands so far; or behind one of which a failing device ended a lane, where the run ends.
pub data Place : Type 0 where
  Outside : Place
  Inside : List (List Command) → Place
  Ended : Place

-- a section opens
abbrev pub opened_lanes : ℕ → Place
opened_lanes count = Inside (replicate count [])

-- one of the lanes gets a command more
abbrev pub with_command : ℕ → Command → List (List Command) → List (List Command)
with_command lane command lanes = slice_set lanes lane (slice_index_or lanes lane [] ++ command ∷ [])

-- where a line outside a section leads
abbrev pub place_opened : Result Command LineFault → Place
place_opened (Ok (OpenLanes count)) = opened_lanes count
place_opened line = Outside

-- and one inside it
abbrev pub place_inside : List (List Command) → Result LaneCommand LineFault → Place
place_inside lanes (Ok (InLane lane command)) = Inside (with_command lane command lanes)
place_inside lanes (Ok SectionEnd) = Outside
place_inside lanes line = Inside lanes

-- Where a line leads. Behind the end of a section that is outside it, unless the run ends there.
abbrev pub place_behind : Place → List ℕ → Place
place_behind Outside line = place_opened (line_of line)
place_behind (Inside lanes) line = place_inside lanes (lane_of (length lanes) line)
place_behind Ended line = Ended

-- where lines lead, one after another
abbrev pub place_after : Place → List (List ℕ) → Place
place_after place [] = place
place_after place (line ∷ lines) = place_after (place_behind place line) lines

-- a line inside a section asks for nothing as long as the section isn't run
abbrev pub asked_inside : Result LaneCommand LineFault → Result Command LineFault
asked_inside (Err fault) = Err fault
asked_inside (Ok command) = Ok Silent

-- What a line asks for where the run stands, or its first fault.
abbrev pub line_at : Place → List ℕ → Result Command LineFault
line_at (Inside lanes) line = asked_inside (lane_of (length lanes) line)
line_at place line = line_of line

-- what a line asks for behind these, which are the first of a run
abbrev pub line_behind : List (List ℕ) → List ℕ → Result Command LineFault
line_behind lines line = line_at (place_after Outside lines) line

-- a run stands outside a section, or inside one
abbrev pub IsOutside : Place → Type 0
IsOutside Outside = ⊤
IsOutside place = ⊥

abbrev pub IsInside : Place → Type 0
IsInside (Inside lanes) = ⊤
IsInside place = ⊥
