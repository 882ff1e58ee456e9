-- Between a checkpoint and its rewind the book has the objects of the checkpoint, whatever sections come.
use Rattle.std.proofs.Common.{◌≡◌, ℕ, Bool, true, false, List, [], ◌∷◌, Result, Ok, Err, inl, inr, refl, sym, subst, length, ◌∙◌, Option, None, Some, All}
use Rattle.draid_machine.proofs.Small.{none_some}
use Rattle.draid_script.specs.Grammar.{lane_of, line_of}
use Rattle.draid_script.specs.Line.{Command, InLane, LaneCommand, OpenLanes, SectionEnd, SilentLane, CreatePool, DiscardCheckpoint, RewindPool, TakeCheckpoint}
use Rattle.draid_script.specs.declared.fault.LineFault.{LineFault}
use Rattle.draid_session.specs.Book.{Objects}
use Rattle.draid_session.specs.Looks.{AllOf}
use Rattle.draid_session.specs.Marked.{HasMark, LeavesMark, Marked, MarkedLine, IsCareful, KeepsMark, LeavesMarkIn, doubts}
use Rattle.draid_session.specs.Places.{Ended, Inside, Outside, Place}
use Rattle.draid_session.specs.Said.{Said}
use Rattle.draid_session.proofs.Marked.{all_have}
use Rattle.draid_marked.specs.Ending.{MarkedBreaks, shut_up}
use Rattle.draid_marked.specs.Sections.{MarkedAt, MarkedInLane, MarkedOn, MarkedOutside, MarkedSection, EndsMarkedAt, LeavesMarkAt, MarkedBreaksAt, MarkedRun}

module _ (objects : Objects) where
  has_same : (old new : Marked) → HasMark objects old → new ≡ old → HasMark objects new
  has_same old new has is = subst (HasMark objects) (sym is) has

  -- a checkpoint stands, so no section runs
  section_has : (is_open : Bool) (old new : Marked) (lanes : List (List Command)) (saids : List Said) (place : Place) → HasMark objects old → MarkedSection is_open old lanes saids new place → HasMark objects new
  section_has false old new lanes saids place has s = has_same old new has s.1
  section_has true old new lanes saids place has (inl (some, said)) = has_same old new has said.1
  section_has true old new lanes saids place has (inr (none, ran)) = absurd (none_some old.mark objects none has.mark)

  in_lane_has : (line : Result LaneCommand LineFault) (old new : Marked) (lanes : List (List Command)) (saids : List Said) (place : Place) → HasMark objects old → MarkedInLane line old lanes saids new place → HasMark objects new
  in_lane_has (Err fault) old new lanes saids place has l = absurd l
  in_lane_has (Ok SilentLane) old new lanes saids place has l = has_same old new has l.1
  in_lane_has (Ok (InLane lane command)) old new lanes saids place has l = has_same old new has l.1
  in_lane_has (Ok SectionEnd) old new lanes saids place has l = section_has old.book.is_open old new lanes saids place has l

  outside_has : (line : List ℕ) (old new : Marked) (saids : List Said) (place : Place) → LeavesMark line → HasMark objects old → MarkedOutside (line_of line) old saids new place → HasMark objects new
  outside_has line old new saids place leaves has l = by (line_of line) refl l
    where
      by : (asked : Result Command LineFault) → line_of line ≡ asked → MarkedOutside asked old saids new place → HasMark objects new
      by (Ok (OpenLanes count)) is o = has_same old new has o.1
      by asked is o = all_have objects (line ∷ []) (saids ∷ []) old new (leaves, tt) has (new, subst (λ a. MarkedLine a old saids new) (sym is) o.0, refl)

  at_has : (from : Place) (line : List ℕ) (old new : Marked) (saids : List Said) (place : Place) → LeavesMark line → HasMark objects old → MarkedAt from line old saids new place → HasMark objects new
  at_has Outside line old new saids place leaves has l = outside_has line old new saids place leaves has l
  at_has (Inside lanes) line old new saids place leaves has l = in_lane_has (lane_of (length lanes) line) old new lanes saids place has l
  at_has Ended line old new saids place leaves has l = absurd l

  pub on_have : (lines : List (List ℕ)) (replies : List (List Said)) (from to : Place) (old new : Marked) → AllOf LeavesMark lines → HasMark objects old → MarkedOn from old lines replies to new → HasMark objects new
  on_have [] [] from to old new leaves has on = has_same old new has on.0
  on_have (line ∷ lines) (saids ∷ replies) from to old new leaves has (mid, place, one, rest) = on_have lines replies place to mid new leaves.1 (at_has from line old mid saids place leaves.0 has one) rest
  on_have [] (saids ∷ replies) from to old new leaves has on = absurd on
  on_have (line ∷ lines) [] from to old new leaves has on = absurd on

  -- ---- the end of a run

  has_doubts : (old : Marked) → HasMark objects old → HasMark objects (doubts old)
  has_doubts old has = record { mark = has.mark; kept = has.kept; since = has.since }

  keeps_has : (old new : Marked) → HasMark objects old → KeepsMark old new false → HasMark objects new
  keeps_has old new has k = record { mark = k.mark ∙ has.mark; kept = k.kept ∙ has.kept; since = subst (All (λ (mark : Option Objects). mark ≡ Some objects)) (sym k.since) has.since }

  breaks_has : (command : Command) (old new : Marked) → IsCareful command → HasMark objects old → MarkedBreaks old command new → HasMark objects new
  breaks_has TakeCheckpoint old new careful has (is_open, inl is) = has_same (doubts old) new (has_doubts old has) is
  breaks_has TakeCheckpoint old new careful has (is_open, inr (none, is)) = absurd (none_some old.mark objects none has.mark)
  breaks_has RewindPool old new careful has b = absurd careful
  breaks_has DiscardCheckpoint old new careful has b = absurd careful
  breaks_has (CreatePool text children keys) old new careful has b = absurd careful
  breaks_has command old new careful has b = keeps_has old new has b.1

  ends_has : (broken : Option (List ℕ)) (old new : Marked) (saids : List Said) → LeavesMarkAt broken → HasMark objects old → EndsMarkedAt broken old saids new → HasMark objects new
  ends_has None old new saids leaves has ends = has_same old new has ends.1
  ends_has (Some text) old new saids leaves has ends = by (line_of text) leaves ends
    where
      by : (asked : Result Command LineFault) → LeavesMarkIn asked → MarkedBreaksAt asked old saids new → HasMark objects new
      by (Ok command) careful b = breaks_has command old new careful has b.1
      by (Err fault) careful b = absurd b

  pub run_has : (lines : List (List ℕ)) (replies : List (List Said)) (to : Place) (broken : Option (List ℕ)) (saids : List Said) (old new : Marked) → AllOf LeavesMark lines → LeavesMarkAt broken → HasMark objects old
      → MarkedRun old lines replies to broken saids new → HasMark objects new
  run_has lines replies to broken saids old new leaves last has run =
      let ended = ends_has broken run.mid run.last saids last (on_have lines replies Outside to old run.mid leaves has run.answers) run.ends in
      has_same (shut_up run.last) new (record { mark = ended.mark; kept = ended.kept; since = ended.since }) run.made
