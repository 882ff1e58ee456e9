-- A line among those of a session, and the lines of a run as those of a session.
use Rattle.std.proofs.Common.{◌≡◌, refl, subst, ℕ, Bool, List, [], ◌∷◌, ◌++◌, Result, Ok, Err, length}
use Rattle.draid_names.specs.declared.journal.Entry.{Entry}
use Rattle.draid_script.specs.Grammar.{line_of}
use Rattle.draid_script.specs.Line.{Command, ImportPool, OpenLanes, RunAgent, ShowJournal, Silent}
use Rattle.draid_script.specs.declared.fault.LineFault.{LineFault}
use Rattle.draid_script.specs.declared.name.CommandName.TheVariants as name
use Rattle.draid_reply.specs.declared.reply.Reply.{Reply}
use Rattle.draid_reply.specs.declared.reply.Reply.TheVariants.{Imported, NoMemory, NoPool}
use Rattle.draid_session.specs.Said.{Said}
use Rattle.draid_session.specs.Choices.{Choices}
use Rattle.draid_session.specs.Looks.{AllOf}
use Rattle.draid_session.specs.Places.{Ended, Inside, Outside, Place}
use Rattle.draid_session.specs.Sections.{OutsideTurns, PlaceTurns, RunsOn}
use Rattle.draid_session.specs.Session.{Bare, Desk, Finding, FindsFound, Foreign, ImportTurns, IsAnything, Made, Notes, Open, ReplyTurns, Runs, Shut, ShutTurns, Sitting, SittingTurns, TurnsBy, Unknown, Untouched}
use Rattle.draid_run.specs.Lines.{IsNoOpening, IsTurn, OpensNone}
use Rattle.draid_run.proofs.Places.{on_split}

module _ (choices : Choices) (finds : Finding → Type 0) (tells : Bool) (line : List ℕ) (saids : List Said) (back : List (List ℕ)) (behind : List (List Said)) (to : Place) (last : Sitting) where
  pub one_turn : (front : List (List ℕ)) (said : List (List Said)) (first : Sitting) → length said ≡ length front → RunsOn choices finds tells Outside first (front ++ line ∷ back) (said ++ saids ∷ behind) to last
      → IsTurn choices finds tells first front said line saids back behind to last
  one_turn front said first same runs =
      let it = on_split choices finds tells Outside first front said (line ∷ back) (saids ∷ behind) to last same runs in
      record { old = it.mid; new = it.after.0; here = it.here; there = it.after.1; before = it.before; turns = it.after.2; agrees = it.after.3; after = it.after.4 }

-- what an import finds may be anything
module _ (choices : Choices) (finds : Finding → Type 0) where
  any_found : (reply : Reply) (new : Desk) → FindsFound finds reply new → FindsFound IsAnything reply new
  any_found (Imported called group objects) new is = (tt, is.1)
  any_found (NoPool name.Import) new is = (tt, is.1)
  any_found (NoMemory name.Import) new is = is
  any_found reply new is = absurd is

  any_import : (old new : Desk) (reply : Reply) → ImportTurns finds old reply new → ImportTurns IsAnything old reply new
  any_import Untouched new reply is = any_found reply new is
  any_import Bare new reply is = is
  any_import (Made told failed geometry) new reply is = is
  any_import (Open x) new reply is = is
  any_import (Shut crash x) new reply is = is
  any_import (Foreign known) new reply is = is
  any_import Unknown new reply is = is

  any_shut : (old new : Desk) (command : Command) (reply : Reply) → ShutTurns finds old command reply new → ShutTurns IsAnything old command reply new
  any_shut old new ImportPool reply is = any_import old new reply is
  any_shut old new command reply is = is

  any_reply : (old new : Desk) (command : Command) (reply : Reply) → ReplyTurns choices finds old command reply new → ReplyTurns choices IsAnything old command reply new
  any_reply Untouched new command reply is = any_shut Untouched new command reply is
  any_reply Bare new command reply is = any_shut Bare new command reply is
  any_reply (Made told failed geometry) new command reply is = any_shut (Made told failed geometry) new command reply is
  any_reply (Open x) new command reply is = is
  any_reply (Shut crash x) new command reply is = any_shut (Shut crash x) new command reply is
  any_reply (Foreign known) new command reply is = is
  any_reply Unknown new command reply is = any_shut Unknown new command reply is

  any_line : (line : Result Command LineFault) (old new : Desk) (saids : List Said) → TurnsBy choices finds line old saids new → TurnsBy choices IsAnything line old saids new
  any_line (Err fault) old new saids is = is
  any_line (Ok Silent) old new [] is = is
  any_line (Ok Silent) old new (said ∷ more) is = is
  any_line (Ok command) old new [] is = absurd is
  any_line (Ok command) old new (said ∷ []) is = (is.0, any_reply old new command said.reply is.1)
  any_line (Ok command) old new (said ∷ other ∷ more) is = absurd is

  module _ (past more : List Entry) where
    any_run : (least : ℕ) (old new : Desk) (saids : List Said) (turns : TurnsBy choices finds (Ok (RunAgent least)) old saids new) → Notes choices finds past (Ok (RunAgent least)) old saids new turns more
        → Notes choices IsAnything past (Ok (RunAgent least)) old saids new (any_line (Ok (RunAgent least)) old new saids turns) more
    unfolding any_line any_reply
    any_run least (Open x) new (said ∷ []) turns notes = notes
    any_run least (Foreign known) new (said ∷ []) turns notes = notes
    any_run least Untouched new (said ∷ []) turns notes = notes
    any_run least Bare new (said ∷ []) turns notes = notes
    any_run least (Made told failed geometry) new (said ∷ []) turns notes = notes
    any_run least (Shut crash x) new (said ∷ []) turns notes = notes
    any_run least Unknown new (said ∷ []) turns notes = notes
    any_run least old new [] turns notes = absurd turns
    any_run least old new (said ∷ other ∷ saids) turns notes = absurd turns

    any_shown : (old new : Desk) (saids : List Said) (turns : TurnsBy choices finds (Ok ShowJournal) old saids new) → Notes choices finds past (Ok ShowJournal) old saids new turns more
        → Notes choices IsAnything past (Ok ShowJournal) old saids new (any_line (Ok ShowJournal) old new saids turns) more
    any_shown old new (said ∷ []) turns notes = notes
    any_shown old new [] turns notes = absurd turns
    any_shown old new (said ∷ other ∷ saids) turns notes = absurd turns

    any_notes : (line : Result Command LineFault) (old new : Desk) (saids : List Said) (turns : TurnsBy choices finds line old saids new) → Notes choices finds past line old saids new turns more
        → Notes choices IsAnything past line old saids new (any_line line old new saids turns) more
    any_notes (Ok (RunAgent least)) old new saids turns notes = any_run least old new saids turns notes
    any_notes (Ok ShowJournal) old new saids turns notes = any_shown old new saids turns notes
    any_notes line old new saids turns notes = notes

  any_sitting : (line : Result Command LineFault) (old new : Sitting) (saids : List Said) → SittingTurns choices finds line old saids new → SittingTurns choices IsAnything line old saids new
  any_sitting line old new saids t = (any_line line old.desk new.desk saids t.0, t.1, any_notes old.journal t.1 line old.desk new.desk saids t.0 t.2, t.3)

  any_outside : (line : Result Command LineFault) (old new : Sitting) (saids : List Said) (to : Place) → OutsideTurns choices finds line old saids new to → OutsideTurns choices IsAnything line old saids new to
  any_outside (Ok (OpenLanes count)) old new saids to t = t
  any_outside line old new saids to t = (any_sitting line old new saids t.0, t.1)

  any_place : (from : Place) (line : List ℕ) (old new : Sitting) (saids : List Said) (to : Place) → PlaceTurns choices finds from line old saids new to → PlaceTurns choices IsAnything from line old saids new to
  any_place Outside line old new saids to t = any_outside (line_of line) old new saids to t
  any_place (Inside lanes) line old new saids to t = t
  any_place Ended line old new saids to t = absurd t

  pub any_runs : (tells : Bool) (from to : Place) (lines : List (List ℕ)) (replies : List (List Said)) (old new : Sitting) → RunsOn choices finds tells from old lines replies to new → RunsOn choices IsAnything tells from old lines replies to new
  any_runs tells from to [] [] old new runs = runs
  any_runs tells from to [] (saids ∷ replies) old new runs = absurd runs
  any_runs tells from to (line ∷ lines) [] old new runs = absurd runs
  any_runs tells from to (line ∷ lines) (saids ∷ replies) old new runs =
      (runs.0, runs.1, any_place from line old runs.0 saids runs.1 runs.2, runs.3, any_runs tells runs.1 to lines replies runs.0 new runs.4)

-- ---- lines without a section

module _ (choices : Choices) (finds : Finding → Type 0) where
  pub outside_plain : (line : Result Command LineFault) (old new : Sitting) (saids : List Said) (to : Place) → IsNoOpening line → OutsideTurns choices finds line old saids new to → SittingTurns choices finds line old saids new × (to ≡ Outside)
  outside_plain (Ok (OpenLanes count)) old new saids to none t = absurd none
  outside_plain line old new saids to none t = t

  pub runs_outside : (tells : Bool) (to : Place) (lines : List (List ℕ)) (replies : List (List Said)) (old new : Sitting) → RunsOn choices finds tells Outside old lines replies to new → AllOf OpensNone lines
      → (to ≡ Outside) × Runs choices finds tells old lines replies new
  runs_outside tells to [] [] old new runs none = (runs.1, runs.0)
  runs_outside tells to [] (saids ∷ replies) old new runs none = absurd runs
  runs_outside tells to (line ∷ lines) [] old new runs none = absurd runs
  runs_outside tells to (line ∷ lines) (saids ∷ replies) old new runs none =
      let one = outside_plain (line_of line) old runs.0 saids runs.1 none.0 runs.2 in
      let rest = runs_outside tells to lines replies runs.0 new (subst (λ p. RunsOn choices finds tells p runs.0 lines replies to new) one.1 runs.4) none.1 in
      (rest.0, (runs.0, one.0, runs.3, rest.1))

  -- no reply is one to a line that opens a section
  opens_not : (count : ℕ) (old new : Sitting) (saids : List Said) → SittingTurns choices finds (Ok (OpenLanes count)) old saids new → ⊥
  opens_not count old new [] t = absurd t.0
  opens_not count old new (said ∷ other ∷ saids) t = absurd t.0
  opens_not count old new (said ∷ []) t = by old.desk t.0.1
    where
      by : (desk : Desk) → ReplyTurns choices finds desk (OpenLanes count) said.reply new.desk → ⊥
      by Untouched r = cc (r.1)
      by Bare r = cc (r.1)
      by (Made told failed geometry) r = cc (r.1)
      by (Open x) r = r.1.does
      by (Shut crash x) r = cc (r.1)
      by (Foreign known) r = r.0
      by Unknown r = cc (r.1)

  outside_back : (line : Result Command LineFault) (old new : Sitting) (saids : List Said) → SittingTurns choices finds line old saids new → IsNoOpening line × OutsideTurns choices finds line old saids new Outside
  outside_back (Ok (OpenLanes count)) old new saids t = absurd (opens_not count old new saids t)
  outside_back line old new saids t = (tt, (t, refl))

  pub runs_back : (tells : Bool) (lines : List (List ℕ)) (replies : List (List Said)) (old new : Sitting) → Runs choices finds tells old lines replies new
      → AllOf OpensNone lines × RunsOn choices finds tells Outside old lines replies Outside new
  runs_back tells [] [] old new runs = (tt, (runs, refl))
  runs_back tells [] (saids ∷ replies) old new runs = absurd runs
  runs_back tells (line ∷ lines) [] old new runs = absurd runs
  runs_back tells (line ∷ lines) (saids ∷ replies) old new runs =
      let one = outside_back (line_of line) old runs.0 saids runs.1 in
      let rest = runs_back tells lines replies runs.0 new runs.3 in
      ((one.0, rest.0), (runs.0, Outside, one.1, runs.2, rest.1))
