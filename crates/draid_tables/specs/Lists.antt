-- The numbers that the lanes of a section hold, by their commands.
use Rattle.std.specs.Prelude.{◌≡◌, ◌≢◌, ◌+◌, ◌<◌, ◌≤◌, ◌⊎◌, ◌↔◌, ℕ, true, List, Option, Some, None, length, map, slice_get}
use Rattle.std.specs.declared.vec.Vec.{Vec}
use Rattle.std.specs.declared.alloc.Global.{Global}
use Rattle.draid_names.specs.declared.numbers.TheConstants.{OBJECTS}
use Rattle.draid_script.specs.Line.{Command, IsInRange, command_in}
use Rattle.draid_script.specs.declared.line.Line.{Line}
use Rattle.draid_session.specs.Lanes.{objects_in}
use Rattle.draid_session.specs.Sections.{Mends}
use Rattle.draid_turn.specs.Numbers.{holds, in_span, number_limit}
use Rattle.draid_turn.specs.declared.span.Span.{Span}
use Rattle.draid_holds.specs.Passes.{EachHoldsSome, shares}
use Rattle.draid_pool.specs.Drifts.{groups_number, passes_number}

-- Each lane holds a number, and no two lanes the same one. None holds that of the groups, nor the last of all numbers.
pub record AreLaneLists (lists : List (Vec Span Global)) : Type 0 where
  pub some : EachHoldsSome lists
  pub apart : (n : ℕ) → shares n lists ≤ 1
  pub inside : (n : ℕ) → 1 ≤ shares n lists → (n ≢ groups_number) × (n + 1 < number_limit)

-- ---- by commands

-- the number that the lane at this place has of its own; it is no object's
abbrev pub number_of_lane : ℕ → ℕ
number_of_lane lane = OBJECTS + lane

-- a lane wants a number for a command: an object that this names, or that of the passes where it mends
abbrev pub Wants : Command → ℕ → Type 0
Wants command n = (((objects_in command).0 ≤ n) × (n < (objects_in command).0 + (objects_in command).1)) ⊎ (Mends command × (n ≡ passes_number))

-- the numbers of a span are those that a command wants; or it wants none
abbrev pub IsSpanOf : Command → Option Span → Type 0
IsSpanOf command (Some span) = (n : ℕ) → (in_span n span ≡ true) ↔ Wants command n
IsSpanOf command None = (n : ℕ) → Wants command n → ⊥

-- one of a lane's commands wants a number
pub record WantsOne (commands : List Command) (n : ℕ) : Type 0 where
  pub k : ℕ
  pub command : Command
  pub in_it : slice_get commands k ≡ Some command
  pub wants : Wants command n

-- a list has just the numbers of the lane at this place: its own, and those that its commands want
abbrev pub ListsNumbers : ℕ → List Command → List Span → Type 0
ListsNumbers lane commands list = (n : ℕ) → (holds n list ≡ true) ↔ ((n ≡ number_of_lane lane) ⊎ WantsOne commands n)

-- the commands of lines
abbrev pub commands_of : List Line → List Command
commands_of lines = map command_in lines

abbrev pub commands_of_lanes : List (Vec Line Global) → List (List Command)
commands_of_lanes lanes = map (λ (lines : Vec Line Global). commands_of lines.items) lanes

-- all numbers in them are in their ranges
abbrev pub AreInRange : List Line → Type 0
AreInRange lines = (i : ℕ) (line : Line) → slice_get lines i ≡ Some line → IsInRange (command_in line)

abbrev pub AreAllInRange : List (Vec Line Global) → Type 0
AreAllInRange lanes = (i : ℕ) (lines : Vec Line Global) → slice_get lanes i ≡ Some lines → AreInRange lines.items

-- each list has the numbers of the lane at its place
pub record ListsEach (lanes : List (Vec Line Global)) (lists : List (Vec Span Global)) : Type 0 where
  pub many : length lists ≡ length lanes
  pub each : (i : ℕ) (lines : Vec Line Global) (list : Vec Span Global) → slice_get lanes i ≡ Some lines → slice_get lists i ≡ Some list → ListsNumbers i (commands_of lines.items) list.items
