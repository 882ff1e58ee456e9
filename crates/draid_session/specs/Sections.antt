-- Sections in a session: lines between `lanes K` and `end` are read whole, and at `end` the lanes run, or one reply says why they don't.
use Rattle.std.specs.Prelude.{◌≡◌, ◌≢◌, ◌+◌, ◌<◌, ◌≤◌, ◌⊎◌, ⊤, ℕ, Bool, true, false, List, [], ◌∷◌, ◌++◌, None, Some, Option, Result, Ok, Err, length, map, slice_get}
use Rattle.draid_script.specs.Grammar.{lane_of}
use Rattle.draid_script.specs.Line.{Command, LaneCommand, InLane, OpenLanes, RebuildPool, ScrubPool, SectionEnd, SilentLane}
use Rattle.draid_script.specs.declared.fault.LineFault.{LineFault}
use Rattle.draid_script.specs.declared.name.CommandName.TheVariants as name
use Rattle.draid_reply.specs.declared.reply.Reply.{Reply}
use Rattle.draid_reply.specs.declared.reply.Reply.TheVariants.{LanesCheckpoint, LanesClash, LanesClashMend, NoMemory, NoPool}
use Rattle.draid_objects.specs.Marks.{check_by}
use Rattle.draid_session.specs.Book.{AnswersLine, Book, EndsBook, closed}
use Rattle.draid_session.specs.Choices.{Choices}
use Rattle.draid_session.specs.Known.{Known, Learns}
use Rattle.draid_session.specs.LaneBook.{AnswersSection}
use Rattle.draid_session.specs.Lanes.{Clashes, Section}
use Rattle.draid_session.specs.Places.{Ended, Inside, Outside, Place, line_at, opened_lanes, with_command}
use Rattle.draid_session.specs.Replies.{IsReplyTo}
use Rattle.draid_session.specs.Said.{Said, alone}
use Rattle.draid_session.specs.Session.{Agrees, Desk, Finding, Foreign, MayBreak, Open, Sitting, SittingTurns}
use Rattle.draid_session.specs.State.{State}

-- ---- what is refused

-- the least object that two lanes name
abbrev pub IsLeastClash : List (List Command) → ℕ → Type 0
IsLeastClash lanes object = Clashes lanes object × ((other : ℕ) → Clashes lanes other → object ≤ other)

abbrev pub Mends : Command → Type 0
Mends (RebuildPool limit) = ⊤
Mends (ScrubPool limit) = ⊤
Mends command = ⊥

-- a lane has a rebuild or a scrub
pub record LaneMends (lanes : List (List Command)) (i : ℕ) : Type 0 where
  pub lane : List Command
  pub there : slice_get lanes i ≡ Some lane
  pub k : ℕ
  pub command : Command
  pub in_it : slice_get lane k ≡ Some command
  pub mends : Mends command

-- two lanes have one
pub record ClashesMend (lanes : List (List Command)) : Type 0 where
  pub i : ℕ
  pub j : ℕ
  pub before : i < j
  pub first : LaneMends lanes i
  pub other : LaneMends lanes j

abbrev pub NoClash : List (List Command) → Type 0
NoClash lanes = (object : ℕ) → Clashes lanes object → ⊥

-- why a section isn't run, where a pool is open
abbrev pub RefusesSection : List (List Command) → Reply → Type 0
RefusesSection lanes (LanesClash object) = IsLeastClash lanes object
RefusesSection lanes LanesClashMend = NoClash lanes × ClashesMend lanes
RefusesSection lanes (NoMemory name.Lanes) = ⊤
RefusesSection lanes reply = ⊥

-- ---- what is said

abbrev pub to_lane : ℕ → List Reply → List Said
to_lane lane replies = map (λ reply. record { lane = Some lane; reply = reply }) replies

-- the replies of lane after lane, from one on
abbrev pub to_lanes : ℕ → List (List Reply) → List Said
to_lanes lane [] = []
to_lanes lane (replies ∷ more) = to_lane lane replies ++ to_lanes (lane + 1) more

-- each command of each lane has a reply
abbrev pub AllReplied : List (List Command) → List (List Reply) → Type 0
AllReplied [] [] = ⊤
AllReplied (commands ∷ lanes) (replies ∷ more) = (length replies ≡ length commands) × AllReplied lanes more
AllReplied lanes replies = ⊥

-- where the run stands behind a section: a lane that a failing device ended has a command without a reply
abbrev pub PlaceBehind : List (List Command) → List (List Reply) → Place → Type 0
PlaceBehind lanes replies Outside = AllReplied lanes replies
PlaceBehind lanes replies (Inside commands) = ⊥
PlaceBehind lanes replies Ended = AllReplied lanes replies → ⊥

-- ---- a section of a pool that no known session left

-- the lane's replies are such as its commands may have, by what is known of the objects, and add to that
abbrev pub LaneLearns : List Command → List Reply → Known → Known → Type 0
LaneLearns [] [] known new = new ≡ known
LaneLearns (command ∷ commands) (reply ∷ replies) known new = IsReplyTo command reply × ((mid : Known) × Learns command reply known mid × LaneLearns commands replies mid new)
LaneLearns (command ∷ commands) [] known new = MayBreak command × (new ≡ known)
LaneLearns [] (reply ∷ replies) known new = ⊥

-- no object is named by two lanes, so this is as one lane after the other
abbrev pub LanesLearn : List (List Command) → List (List Reply) → Known → Known → Type 0
LanesLearn [] [] known new = new ≡ known
LanesLearn (commands ∷ lanes) (replies ∷ more) known new = (mid : Known) × LaneLearns commands replies known mid × LanesLearn lanes more mid new
LanesLearn lanes replies known new = ⊥

-- ---- a section

-- what may be said to it where a pool is open: one reply, and nothing is done; or the lanes ran
abbrev pub RefusedOr : List (List Command) → List Said → Place → Type 0 → (List (List Reply) → Type 0) → Type 0
RefusedOr lanes saids place stays ran =
    ((reply : Reply) × (saids ≡ alone reply) × RefusesSection lanes reply × stays × (place ≡ Outside))
    ⊎ ((replies : List (List Reply)) × (saids ≡ to_lanes 0 replies) × NoClash lanes × (ClashesMend lanes → ⊥) × PlaceBehind lanes replies place × ran replies)

-- a checkpoint stands: that is said, whatever the lanes are, and nothing is done
abbrev pub SaysCheckpoint : List Said → Place → Type 0 → Type 0
SaysCheckpoint saids place stays = (saids ≡ alone LanesCheckpoint) × stays × (place ≡ Outside)

module _ (choices : Choices) where
  -- At its end. Of a pool that no known session left it isn't known whether there is a checkpoint.
  abbrev pub SectionTurns : Desk → List (List Command) → List Said → Desk → Place → Type 0
  SectionTurns (Open x) lanes saids new place =
      ((check_by x.store.marks ≢ None) × SaysCheckpoint saids place (new ≡ Open x))
      ⊎ ((check_by x.store.marks ≡ None) × RefusedOr lanes saids place (new ≡ Open x) (λ replies. (state : State) × Section x choices lanes replies state × (new ≡ Open state)))
  SectionTurns (Foreign known) lanes saids new place =
      SaysCheckpoint saids place (new ≡ Foreign known)
      ⊎ RefusedOr lanes saids place (new ≡ Foreign known) (λ replies. (later : Known) × LanesLearn lanes replies known later × (new ≡ Foreign later))
  SectionTurns old lanes saids new place = (saids ≡ alone (NoPool name.Lanes)) × (new ≡ old) × (place ≡ Outside)

  -- ---- lines

  -- A line inside a section has no reply before its end.
  abbrev pub LaneTurns : Result LaneCommand LineFault → Desk → List (List Command) → List Said → Desk → Place → Type 0
  LaneTurns (Err fault) old lanes saids new place = ⊥
  LaneTurns (Ok SilentLane) old lanes saids new place = (saids ≡ []) × (new ≡ old) × (place ≡ Inside lanes)
  LaneTurns (Ok (InLane lane command)) old lanes saids new place = (saids ≡ []) × (new ≡ old) × (place ≡ Inside (with_command lane command lanes))
  LaneTurns (Ok SectionEnd) old lanes saids new place = SectionTurns old lanes saids new place

  module _ (finds : Finding → Type 0) where
    -- one outside opens a section, or has its replies
    abbrev pub OutsideTurns : Result Command LineFault → Sitting → List Said → Sitting → Place → Type 0
    OutsideTurns (Ok (OpenLanes count)) old saids new place = (saids ≡ []) × (new ≡ old) × (place ≡ opened_lanes count)
    OutsideTurns line old saids new place = SittingTurns choices finds line old saids new × (place ≡ Outside)

    -- no lane has an agent, so the journal stays
    abbrev pub PlaceTurns : Place → List ℕ → Sitting → List Said → Sitting → Place → Type 0
    PlaceTurns Outside line old saids new place = OutsideTurns (line_at Outside line) old saids new place
    PlaceTurns (Inside lanes) line old saids new place = LaneTurns (lane_of (length lanes) line) old.desk lanes saids new.desk place × (new.journal ≡ old.journal)
    PlaceTurns Ended line old saids new place = ⊥

    -- The lines were answered by the replies to each, one after another, from one place to another.
    abbrev pub RunsOn : Bool → Place → Sitting → List (List ℕ) → List (List Said) → Place → Sitting → Type 0
    RunsOn tells from old [] [] to new = (new ≡ old) × (to ≡ from)
    RunsOn tells from old (line ∷ lines) (saids ∷ replies) to new =
        (mid : Sitting) × (place : Place) × PlaceTurns from line old saids mid place × Agrees tells mid.desk × RunsOn tells place mid lines replies to new
    RunsOn tells from old lines replies to new = ⊥

-- ---- the book

-- a section in the book: a checkpoint stands, it is refused, or its lanes are answered; without a pool it wants one
abbrev pub SectionBook : Bool → Book → List (List Command) → List Said → Book → Place → Type 0
SectionBook false old lanes saids new place = (saids ≡ alone (NoPool name.Lanes)) × (new ≡ old) × (place ≡ Outside)
SectionBook true old lanes saids new place =
    SaysCheckpoint saids place (new ≡ old) ⊎ RefusedOr lanes saids place (new ≡ old) (λ replies. AnswersSection old lanes replies new)

abbrev pub LaneLine : Result LaneCommand LineFault → Book → List (List Command) → List Said → Book → Place → Type 0
LaneLine (Err fault) old lanes saids new place = ⊥
LaneLine (Ok SilentLane) old lanes saids new place = (saids ≡ []) × (new ≡ old) × (place ≡ Inside lanes)
LaneLine (Ok (InLane lane command)) old lanes saids new place = (saids ≡ []) × (new ≡ old) × (place ≡ Inside (with_command lane command lanes))
LaneLine (Ok SectionEnd) old lanes saids new place = SectionBook old.is_open old lanes saids new place

abbrev pub OutsideBook : Result Command LineFault → Book → List Said → Book → Place → Type 0
OutsideBook (Ok (OpenLanes count)) old saids new place = (saids ≡ []) × (new ≡ old) × (place ≡ opened_lanes count)
OutsideBook line old saids new place = AnswersLine line old saids new × (place ≡ Outside)

abbrev pub PlaceBook : Place → List ℕ → Book → List Said → Book → Place → Type 0
PlaceBook Outside line old saids new place = OutsideBook (line_at Outside line) old saids new place
PlaceBook (Inside lanes) line old saids new place = LaneLine (lane_of (length lanes) line) old lanes saids new place
PlaceBook Ended line old saids new place = ⊥

abbrev pub BookOn : Place → Book → List (List ℕ) → List (List Said) → Place → Book → Type 0
BookOn from old [] [] to new = (new ≡ old) × (to ≡ from)
BookOn from old (line ∷ lines) (saids ∷ replies) to new = (mid : Book) × (place : Place) × PlaceBook from line old saids mid place × BookOn place mid lines replies to new
BookOn from old lines replies to new = ⊥

-- A run: its lines are answered, with sections, it ends behind them, or in a line outside a section that breaks off, to which this was said, and a pool that is open is given back.
pub record AnswersRun (old : Book) (lines : List (List ℕ)) (replies : List (List Said)) (to : Place) (broken : Option (List ℕ)) (saids : List Said) (new : Book) : Type 0 where
  pub mid : Book
  pub last : Book
  pub answers : BookOn Outside old lines replies to mid
  pub ends : EndsBook broken mid saids last
  pub made : new ≡ closed last
