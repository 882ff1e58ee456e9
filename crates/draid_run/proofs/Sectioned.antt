-- What goes on along lines with sections, and what a section leaves of a pool.
use Rattle.std.proofs.Common.{sym, subst, min, ◌≡◌, ◌∙◌, ◌-◌, ◌^◌, ◌≤◌, inl, inr, ℕ, List, Bool, [], ◌∷◌, Some, None, Result, Ok, Err, length}
use Rattle.std.specs.Prelude.{⊤, slice_get}
use Rattle.draid_script.specs.Grammar.{lane_of, line_of}
use Rattle.draid_script.specs.Line.{Command, InLane, LaneCommand, OpenLanes, SectionEnd, SilentLane}
use Rattle.draid_script.specs.declared.fault.LineFault.{LineFault}
use Rattle.draid_reply.specs.declared.reply.Reply.{Reply}
use Rattle.draid_session.specs.Choices.{Choices}
use Rattle.draid_session.specs.Known.{Known}
use Rattle.draid_session.specs.Lanes.{Section}
use Rattle.draid_session.specs.Looks.{AllOf}
use Rattle.draid_session.specs.Places.{Ended, Inside, Outside, Place}
use Rattle.draid_session.specs.Said.{Said}
use Rattle.draid_session.specs.Sections.{LaneTurns, OutsideTurns, PlaceTurns, RunsOn, SectionTurns}
use Rattle.draid_session.specs.Session.{Agrees, Desk, Finding, Untouched, Bare, Made, Open, Shut, Foreign, Unknown, Sitting, SittingTurns}
use Rattle.draid_session.specs.State.{Metaslab, State}
use Rattle.draid_run.proofs.Broke.{IsLater, follows_later}

-- ---- lines

-- What goes on along each line outside sections of some kind, and along each section, goes on along lines.
module _ (choices : Choices) (finds : Finding → Type 0) (tells : Bool) (P : Desk → Type 0) (Q : List ℕ → Type 0)
    (outside : (line : List ℕ) (old new : Sitting) (saids : List Said) → Q line → SittingTurns choices finds (line_of line) old saids new → Agrees tells new.desk → P old.desk → P new.desk)
    (section : (x y : State) (lanes : List (List Command)) (replies : List (List Reply)) → Section x choices lanes replies y → P (Open x) → P (Open y))
    (foreign : (known later : Known) → P (Foreign known) → P (Foreign later)) where
  section_on : (old new : Desk) (lanes : List (List Command)) (saids : List Said) (to : Place) → SectionTurns choices old lanes saids new to → P old → P new
  section_on (Open x) new lanes saids to (inl (has, said)) p = subst P (sym said.1) p
  section_on (Open x) new lanes saids to (inr (none, inl refused)) p = subst P (sym refused.3) p
  section_on (Open x) new lanes saids to (inr (none, inr (replies, are, apart, mends, behind, (state, ran, is)))) p = subst P (sym is) (section x state lanes replies ran p)
  section_on (Foreign known) new lanes saids to (inl said) p = subst P (sym said.1) p
  section_on (Foreign known) new lanes saids to (inr (inl refused)) p = subst P (sym refused.3) p
  section_on (Foreign known) new lanes saids to (inr (inr (replies, are, apart, mends, behind, (later, learns, is)))) p = subst P (sym is) (foreign known later p)
  section_on Untouched new lanes saids to t p = subst P (sym t.1) p
  section_on Bare new lanes saids to t p = subst P (sym t.1) p
  section_on (Made told failed geometry) new lanes saids to t p = subst P (sym t.1) p
  section_on (Shut crash x) new lanes saids to t p = subst P (sym t.1) p
  section_on Unknown new lanes saids to t p = subst P (sym t.1) p

  inside_on : (line : Result LaneCommand LineFault) (old new : Desk) (lanes : List (List Command)) (saids : List Said) (to : Place) → LaneTurns choices line old lanes saids new to → P old → P new
  inside_on (Err fault) old new lanes saids to t p = absurd t
  inside_on (Ok SilentLane) old new lanes saids to t p = subst P (sym t.1) p
  inside_on (Ok (InLane lane command)) old new lanes saids to t p = subst P (sym t.1) p
  inside_on (Ok SectionEnd) old new lanes saids to t p = section_on old new lanes saids to t p

  outside_on : (line : Result Command LineFault) (old new : Sitting) (saids : List Said) (to : Place) → (SittingTurns choices finds line old saids new → P old.desk → P new.desk) → OutsideTurns choices finds line old saids new to → P old.desk → P new.desk
  outside_on (Ok (OpenLanes count)) old new saids to by t p = subst (λ (s : Sitting). P s.desk) (sym t.1) p
  outside_on line old new saids to by t p = by t.0 p

  place_on : (from : Place) (line : List ℕ) (old new : Sitting) (saids : List Said) (to : Place) → Q line → PlaceTurns choices finds from line old saids new to → Agrees tells new.desk → P old.desk → P new.desk
  place_on Outside line old new saids to q t agrees p = outside_on (line_of line) old new saids to (λ turns before. outside line old new saids q turns agrees before) t p
  place_on (Inside lanes) line old new saids to q t agrees p = inside_on (lane_of (length lanes) line) old.desk new.desk lanes saids to t.0 p
  place_on Ended line old new saids to q t agrees p = absurd t

  pub on_keeps : (from : Place) (lines : List (List ℕ)) (replies : List (List Said)) (to : Place) (old new : Sitting) → AllOf Q lines → RunsOn choices finds tells from old lines replies to new → P old.desk → P new.desk
  on_keeps from [] [] to old new all runs p = subst (λ (s : Sitting). P s.desk) (sym runs.0) p
  on_keeps from [] (saids ∷ replies) to old new all runs p = absurd runs
  on_keeps from (line ∷ lines) [] to old new all runs p = absurd runs
  on_keeps from (line ∷ lines) (saids ∷ replies) to old new all runs p =
      on_keeps runs.1 lines replies to runs.0 new all.1 runs.4 (place_on from line old runs.0 saids runs.1 all.0 runs.2 runs.3 p)

-- all lines are of any kind
pub all_any : (lines : List (List ℕ)) → AllOf (λ (line : List ℕ). ⊤) lines
all_any [] = tt
all_any (line ∷ lines) = (tt, all_any lines)

-- ---- a section

module _ (x : State) (choices : Choices) (lanes : List (List Command)) (replies : List (List Reply)) (y : State) (s : Section x choices lanes replies y) where
  -- no count of failed calls is lower behind it
  pub section_later : IsLater x y
  section_later = record {
    each = λ k m there.
        (let t = s.together.each (Some k) in
        (follows_later t.order x t.reached t.follows).each k m (t.same ∙ there));
    uber = (let t = s.together.each None in subst (λ n. min x.uber_count (2 ^ 64 - 1) ≤ n) t.same.5 (follows_later t.order x t.reached t.follows).uber);
  }
