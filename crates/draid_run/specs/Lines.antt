-- One line among those of a session, and lines without a section.
use Rattle.std.specs.Prelude.{⊤, ℕ, Bool, List, Result, Ok}
use Rattle.draid_script.specs.Grammar.{line_of}
use Rattle.draid_script.specs.Line.{Command, OpenLanes}
use Rattle.draid_script.specs.declared.fault.LineFault.{LineFault}
use Rattle.draid_session.specs.Places.{Outside, Place}
use Rattle.draid_session.specs.Said.{Said}
use Rattle.draid_session.specs.Choices.{Choices}
use Rattle.draid_session.specs.Sections.{PlaceTurns, RunsOn}
use Rattle.draid_session.specs.Session.{Agrees, Finding, Sitting}

-- A line came behind some and before others: it led from the desk behind those before it to another, with these replies, and the others go on from that. So it is with the journal, and with where the run stands.
pub record IsTurn (choices : Choices) (finds : Finding → Type 0) (tells : Bool) (first : Sitting) (front : List (List ℕ)) (said : List (List Said)) (line : List ℕ) (saids : List Said) (back : List (List ℕ))
    (behind : List (List Said)) (to : Place) (last : Sitting) : Type 0 where
  pub old : Sitting
  pub new : Sitting
  pub here : Place
  pub there : Place
  pub before : RunsOn choices finds tells Outside first front said here old
  pub turns : PlaceTurns choices finds here line old saids new there
  pub agrees : Agrees tells new.desk
  pub after : RunsOn choices finds tells there new back behind to last

-- a line opens no section
abbrev pub IsNoOpening : Result Command LineFault → Type 0
IsNoOpening (Ok (OpenLanes count)) = ⊥
IsNoOpening line = ⊤

abbrev pub OpensNone : List ℕ → Type 0
OpensNone line = IsNoOpening (line_of line)
