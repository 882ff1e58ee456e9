-- Lines with sections in a book beside a checkpoint, and a run of them.
use Rattle.std.specs.Prelude.{⊤, ◌≡◌, ◌≢◌, ◌⊎◌, ◌||◌, ℕ, Bool, true, false, List, [], ◌∷◌, Option, Some, None, Result, Ok, Err, length}
use Rattle.draid_script.specs.Grammar.{lane_of}
use Rattle.draid_script.specs.Line.{Command, InLane, LaneCommand, OpenLanes, SectionEnd, SilentLane}
use Rattle.draid_script.specs.declared.fault.LineFault.{LineFault}
use Rattle.draid_script.specs.declared.name.CommandName.TheVariants as name
use Rattle.draid_reply.specs.declared.reply.Reply.{Reply}
use Rattle.draid_reply.specs.declared.reply.Reply.TheVariants.{NoPool}
use Rattle.draid_script.specs.Grammar.{line_of}
use Rattle.draid_session.specs.LaneBook.{AnswersSection}
use Rattle.draid_session.specs.Marked.{KeepsMark, LeavesMark, Marked, MarkedLine, names_group}
use Rattle.draid_session.specs.Places.{Ended, Inside, Outside, Place, line_at, opened_lanes, with_command}
use Rattle.draid_session.specs.Said.{Said, alone}
use Rattle.draid_session.specs.Sections.{RefusedOr, SaysCheckpoint}
use Rattle.draid_marked.specs.Ending.{MarkedBreaks, shut_up}

-- ---- sections

-- some lane's reply names a group
abbrev pub one_names : List Reply → Bool
one_names [] = false
one_names (reply ∷ replies) = names_group reply || one_names replies

abbrev pub some_name : List (List Reply) → Bool
some_name [] = false
some_name (replies ∷ more) = one_names replies || some_name more

-- A checkpoint stands, which is said just there; or there is none, and the section is refused, or its lanes are answered. Behind it there is none either.
abbrev pub MarkedSection : Bool → Marked → List (List Command) → List Said → Marked → Place → Type 0
MarkedSection false old lanes saids new place = (saids ≡ alone (NoPool name.Lanes)) × (new ≡ old) × (place ≡ Outside)
MarkedSection true old lanes saids new place =
    ((old.mark ≢ None) × SaysCheckpoint saids place (new ≡ old))
    ⊎ ((old.mark ≡ None) × RefusedOr lanes saids place (new ≡ old) (λ replies. AnswersSection old.book lanes replies new.book × KeepsMark old new (some_name replies)))

-- ---- lines

abbrev pub MarkedInLane : Result LaneCommand LineFault → Marked → List (List Command) → List Said → Marked → Place → Type 0
MarkedInLane (Err fault) old lanes saids new place = ⊥
MarkedInLane (Ok SilentLane) old lanes saids new place = (saids ≡ []) × (new ≡ old) × (place ≡ Inside lanes)
MarkedInLane (Ok (InLane lane command)) old lanes saids new place = (saids ≡ []) × (new ≡ old) × (place ≡ Inside (with_command lane command lanes))
MarkedInLane (Ok SectionEnd) old lanes saids new place = MarkedSection old.book.is_open old lanes saids new place

abbrev pub MarkedOutside : Result Command LineFault → Marked → List Said → Marked → Place → Type 0
MarkedOutside (Ok (OpenLanes count)) old saids new place = (saids ≡ []) × (new ≡ old) × (place ≡ opened_lanes count)
MarkedOutside line old saids new place = MarkedLine line old saids new × (place ≡ Outside)

abbrev pub MarkedAt : Place → List ℕ → Marked → List Said → Marked → Place → Type 0
MarkedAt Outside line old saids new place = MarkedOutside (line_at Outside line) old saids new place
MarkedAt (Inside lanes) line old saids new place = MarkedInLane (lane_of (length lanes) line) old lanes saids new place
MarkedAt Ended line old saids new place = ⊥

-- the lines were answered by the replies to each, one after another, from one place to another
abbrev pub MarkedOn : Place → Marked → List (List ℕ) → List (List Said) → Place → Marked → Type 0
MarkedOn from old [] [] to new = (new ≡ old) × (to ≡ from)
MarkedOn from old (line ∷ lines) (saids ∷ replies) to new = (mid : Marked) × (place : Place) × MarkedAt from line old saids mid place × MarkedOn place mid lines replies to new
MarkedOn from old lines replies to new = ⊥

-- ---- a run

-- The run ends in a line. Outside a section nothing is said to it before.
abbrev pub MarkedBreaksAt : Result Command LineFault → Marked → List Said → Marked → Type 0
MarkedBreaksAt (Ok command) old saids new = (saids ≡ []) × MarkedBreaks old command new
MarkedBreaksAt line old saids new = ⊥

abbrev pub EndsMarkedAt : Option (List ℕ) → Marked → List Said → Marked → Type 0
EndsMarkedAt None old saids new = (saids ≡ []) × (new ≡ old)
EndsMarkedAt (Some line) old saids new = MarkedBreaksAt (line_of line) old saids new

-- its lines are answered, with sections, it ends behind them, or in a line outside a section that breaks off, and a pool that is open is given back
pub record MarkedRun (old : Marked) (lines : List (List ℕ)) (replies : List (List Said)) (to : Place) (broken : Option (List ℕ)) (saids : List Said) (new : Marked) : Type 0 where
  pub mid : Marked
  pub last : Marked
  pub answers : MarkedOn Outside old lines replies to mid
  pub ends : EndsMarkedAt broken mid saids last
  pub made : new ≡ shut_up last

-- the line in which a run ended, if it ended in one, neither gives a checkpoint up nor makes a pool
abbrev pub LeavesMarkAt : Option (List ℕ) → Type 0
LeavesMarkAt None = ⊤
LeavesMarkAt (Some line) = LeavesMark line
