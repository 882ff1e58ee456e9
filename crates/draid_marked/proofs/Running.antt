-- Runs with sections are answered as a book beside a checkpoint has it.
use Rattle.std.proofs.Common.{◌≡◌, ◌++◌, ℕ, zero, suc, true, false, List, [], ◌∷◌, Result, Ok, Err, inl, inr, refl, sym, subst, length}
use Rattle.std.specs.Prelude.{⊤, slice_index_or, replicate}
use Rattle.draid_script.specs.Grammar.{lane_of, line_of}
use Rattle.draid_script.specs.Writing.{IsForLanes}
use Rattle.draid_script.proofs.Read.{lane_inv}
use Rattle.draid_script.specs.Line.{Command, LaneCommand, InLane, OpenLanes, SectionEnd, SilentLane}
use Rattle.draid_script.specs.declared.fault.LineFault.{LineFault}
use Rattle.draid_script.specs.declared.name.CommandName.TheVariants as name
use Rattle.draid_reply.specs.declared.reply.Reply.{Reply}
use Rattle.draid_reply.specs.declared.reply.Reply.TheVariants.{NoPool}
use Rattle.draid_session.specs.Choices.{Choices}
use Rattle.draid_session.specs.Looks.{AllOf}
use Rattle.draid_session.specs.Marked.{Marked}
use Rattle.draid_session.specs.Said.{Said, alone}
use Rattle.draid_session.specs.Places.{Ended, Inside, Outside, Place, with_command}
use Rattle.draid_session.specs.Sections.{LaneTurns, OutsideTurns, PlaceBehind, PlaceTurns, RunsOn, SectionTurns}
use Rattle.draid_session.specs.Session.{Agrees, Bare, Desk, Finding, Foreign, Made, Open, Shut, Sitting, Unknown, Untouched}
use Rattle.draid_session.specs.State.{State}
use Rattle.draid_session.proofs.Lanewise.{all_both, all_set}
use Rattle.draid_marked.specs.Keeping.{KeepsMarked}
use Rattle.draid_marked.specs.Sections.{MarkedAt, MarkedInLane, MarkedOn, MarkedOutside, MarkedSection}
use Rattle.draid_marked.proofs.Carried.{has_mark, no_mark}
use Rattle.draid_marked.proofs.Sectioned.{section_marked}
use Rattle.draid_marked.proofs.Turning.{line_next}

asks_plain : (line : List ℕ) (count lane : ℕ) (command : Command) → lane_of count line ≡ Ok (InLane lane command) → IsForLanes command
asks_plain line count lane command gives = (let text = lane_inv count line (InLane lane command) gives in text.5)

-- the commands of the lanes at a place
abbrev PlainAt : Place → Type 0
PlainAt (Inside lanes) = AllOf (AllOf IsForLanes) lanes
PlainAt place = ⊤

plain_new : (n : ℕ) → AllOf (AllOf IsForLanes) (replicate n [])
plain_new zero = tt
plain_new (suc n) = (tt, plain_new n)

plain_at : (lanes : List (List Command)) (lane : ℕ) → AllOf (AllOf IsForLanes) lanes → AllOf IsForLanes (slice_index_or lanes lane [])
plain_at [] lane all = tt
plain_at (l ∷ lanes) zero all = all.0
plain_at (l ∷ lanes) (suc lane) all = plain_at lanes lane all.1

plain_with : (lane : ℕ) (command : Command) (lanes : List (List Command)) → IsForLanes command → AllOf (AllOf IsForLanes) lanes → AllOf (AllOf IsForLanes) (with_command lane command lanes)
plain_with lane command lanes is all =
    all_set (AllOf IsForLanes) lanes lane (slice_index_or lanes lane [] ++ command ∷ []) all (all_both IsForLanes (slice_index_or lanes lane []) (command ∷ []) (plain_at lanes lane all) (is, tt))

-- a book behind a line, at a place
record NextAt (m : Marked) (from : Place) (line : List ℕ) (saids : List Said) (new : Desk) (to : Place) : Type 0 where
  pub next : Marked
  pub answers : MarkedAt from line m saids next to
  pub keeps : KeepsMarked new next
  pub plain : PlainAt to

record NextSection (m : Marked) (lanes : List (List Command)) (saids : List Said) (new : Desk) (to : Place) : Type 0 where
  pub next : Marked
  pub answers : MarkedSection m.book.is_open m lanes saids next to
  pub keeps : KeepsMarked new next
  pub plain : PlainAt to

module _ (choices : Choices) where
  outside_plain : (to : Place) → to ≡ Outside → PlainAt to
  outside_plain to is = subst PlainAt (sym is) tt

  -- without a pool
  shut_section : (old new : Desk) (m : Marked) (lanes : List (List Command)) (saids : List Said) (to : Place) → m.book.is_open ≡ false → KeepsMarked old m → (saids ≡ alone (NoPool name.Lanes)) × (new ≡ old) × (to ≡ Outside)
      → NextSection m lanes saids new to
  shut_section old new m lanes saids to shut keeps t = record {
    next = m;
    answers = subst (λ o. MarkedSection o m lanes saids m to) (sym shut) (t.0, refl, t.2);
    keeps = subst (λ desk. KeepsMarked desk m) (sym t.1) keeps;
    plain = outside_plain to t.2;
  }

  behind_plain : (lanes : List (List Command)) (replies : List (List Reply)) (to : Place) → PlaceBehind lanes replies to → PlainAt to
  behind_plain lanes replies Outside behind = tt
  behind_plain lanes replies (Inside commands) behind = absurd behind
  behind_plain lanes replies Ended behind = tt

  open_section : (x : State) (new : Desk) (m : Marked) (lanes : List (List Command)) (saids : List Said) (to : Place) → AllOf (AllOf IsForLanes) lanes → KeepsMarked (Open x) m
      → SectionTurns choices (Open x) lanes saids new to → NextSection m lanes saids new to
  open_section x new m lanes saids to plain keeps (inl (has, said)) = record {
    next = m;
    answers = subst (λ o. MarkedSection o m lanes saids m to) (sym keeps.book.is_open) (inl (has_mark x.store m.mark keeps.marks.now has, (said.0, refl, said.2)));
    keeps = subst (λ desk. KeepsMarked desk m) (sym said.1) keeps;
    plain = outside_plain to said.2;
  }
  open_section x new m lanes saids to plain keeps (inr (none, inl refused)) = record {
    next = m;
    answers = subst (λ o. MarkedSection o m lanes saids m to) (sym keeps.book.is_open) (inr (no_mark x.store m.mark keeps.marks.now none, inl (refused.0, refused.1, refused.2, refl, refused.4)));
    keeps = subst (λ desk. KeepsMarked desk m) (sym refused.3) keeps;
    plain = outside_plain to refused.4;
  }
  open_section x new m lanes saids to plain keeps (inr (none, inr (replies, are, apart, mends, behind, (state, section, is)))) =
      let s = section_marked x choices lanes replies state plain section m keeps.book keeps.marks in
      record {
        next = s.next;
        answers = subst (λ o. MarkedSection o m lanes saids s.next to) (sym keeps.book.is_open) (inr (no_mark x.store m.mark keeps.marks.now none, inr (replies, are, apart, mends, behind, s.answers)));
        keeps = subst (λ desk. KeepsMarked desk s.next) (sym is) s.keeps;
        plain = behind_plain lanes replies to behind;
      }

  section_turns : (old new : Desk) (m : Marked) (lanes : List (List Command)) (saids : List Said) (to : Place) → AllOf (AllOf IsForLanes) lanes → KeepsMarked old m → SectionTurns choices old lanes saids new to
      → NextSection m lanes saids new to
  section_turns Untouched new m lanes saids to plain keeps t = absurd keeps.book
  section_turns Bare new m lanes saids to plain keeps t = shut_section Bare new m lanes saids to keeps.book.is_shut keeps t
  section_turns (Made told failed geometry) new m lanes saids to plain keeps t = shut_section (Made told failed geometry) new m lanes saids to keeps.book.0.is_shut keeps t
  section_turns (Open x) new m lanes saids to plain keeps t = open_section x new m lanes saids to plain keeps t
  section_turns (Shut crash x) new m lanes saids to plain keeps t = shut_section (Shut crash x) new m lanes saids to keeps.book.is_shut keeps t
  section_turns (Foreign known) new m lanes saids to plain keeps t = absurd keeps.book
  section_turns Unknown new m lanes saids to plain keeps t = absurd keeps.book

  module _ (finds : Finding → Type 0) where
    outside_turns : (line : Result Command LineFault) (old new : Sitting) (m : Marked) (saids : List Said) (to : Place) → KeepsMarked old.desk m → OutsideTurns choices finds line old saids new to → Agrees true new.desk
        → (next : Marked) × MarkedOutside line m saids next to × KeepsMarked new.desk next × PlainAt to
    outside_turns (Ok (OpenLanes count)) old new m saids to keeps t agrees =
        (m, (t.0, refl, t.2), subst (λ (s : Sitting). KeepsMarked s.desk m) (sym t.1) keeps, subst PlainAt (sym t.2) (plain_new count))
    outside_turns line old new m saids to keeps t agrees = by line t
      where
        by : (line : Result Command LineFault) → OutsideTurns choices finds line old saids new to → (next : Marked) × MarkedOutside line m saids next to × KeepsMarked new.desk next × PlainAt to
        by (Ok (OpenLanes count)) t = (m, (t.0, refl, t.2), subst (λ (s : Sitting). KeepsMarked s.desk m) (sym t.1) keeps, subst PlainAt (sym t.2) (plain_new count))
        by line t = (let one = line_next choices finds line old.desk new.desk m saids keeps t.0.0 agrees in (one.next, (one.answers, t.1), one.keeps, outside_plain to t.1))

    lane_turns : (line : Result LaneCommand LineFault) (old new : Desk) (m : Marked) (lanes : List (List Command)) (saids : List Said) (to : Place) → AllOf (AllOf IsForLanes) lanes
        → ((lane : ℕ) (command : Command) → line ≡ Ok (InLane lane command) → IsForLanes command) → KeepsMarked old m → LaneTurns choices line old lanes saids new to
        → (next : Marked) × MarkedInLane line m lanes saids next to × KeepsMarked new next × PlainAt to
    lane_turns (Err fault) old new m lanes saids to plain asks keeps t = absurd t
    lane_turns (Ok SilentLane) old new m lanes saids to plain asks keeps t = (m, (t.0, refl, t.2), subst (λ desk. KeepsMarked desk m) (sym t.1) keeps, subst PlainAt (sym t.2) plain)
    lane_turns (Ok (InLane lane command)) old new m lanes saids to plain asks keeps t =
        (m, (t.0, refl, t.2), subst (λ desk. KeepsMarked desk m) (sym t.1) keeps, subst PlainAt (sym t.2) (plain_with lane command lanes (asks lane command refl) plain))
    lane_turns (Ok SectionEnd) old new m lanes saids to plain asks keeps t = (let s = section_turns old new m lanes saids to plain keeps t in (s.next, s.answers, s.keeps, s.plain))

    place_turns : (from to : Place) (line : List ℕ) (old new : Sitting) (m : Marked) (saids : List Said) → PlainAt from → KeepsMarked old.desk m → PlaceTurns choices finds from line old saids new to
        → Agrees true new.desk → NextAt m from line saids new.desk to
    place_turns Outside to line old new m saids plain keeps t agrees =
        (let s = outside_turns (line_of line) old new m saids to keeps t agrees in record { next = s.0; answers = s.1; keeps = s.2; plain = s.3 })
    place_turns (Inside lanes) to line old new m saids plain keeps t agrees =
        (let s = lane_turns (lane_of (length lanes) line) old.desk new.desk m lanes saids to plain (asks_plain line (length lanes)) keeps t.0 in record { next = s.0; answers = s.1; keeps = s.2; plain = s.3 })
    place_turns Ended to line old new m saids plain keeps t agrees = absurd t

    -- a book behind all lines
    pub record AllOn (m : Marked) (from : Place) (lines : List (List ℕ)) (replies : List (List Said)) (to : Place) (new : Desk) : Type 0 where
      pub later : Marked
      pub answers : MarkedOn from m lines replies to later
      pub keeps : KeepsMarked new later

    on_turns : (lines : List (List ℕ)) (replies : List (List Said)) (from to : Place) (old new : Sitting) (m : Marked) → PlainAt from → KeepsMarked old.desk m
        → RunsOn choices finds true from old lines replies to new → AllOn m from lines replies to new.desk
    on_turns [] [] from to old new m plain keeps runs = record { later = m; answers = (refl, runs.1); keeps = subst (λ (s : Sitting). KeepsMarked s.desk m) (sym runs.0) keeps }
    on_turns (line ∷ lines) (saids ∷ replies) from to old new m plain keeps (mid, place, turns, agrees, runs) =
        let one = place_turns from place line old mid m saids plain keeps turns agrees in
        let rest = on_turns lines replies place to mid new one.next one.plain one.keeps runs in
        record { later = rest.later; answers = (one.next, place, one.answers, rest.answers); keeps = rest.keeps }
    on_turns [] (saids ∷ replies) from to old new m plain keeps runs = absurd runs
    on_turns (line ∷ lines) [] from to old new m plain keeps runs = absurd runs

    pub runs_on : (lines : List (List ℕ)) (replies : List (List Said)) (to : Place) (old new : Sitting) (m : Marked) → KeepsMarked old.desk m → RunsOn choices finds true Outside old lines replies to new
        → AllOn m Outside lines replies to new.desk
    runs_on lines replies to old new m keeps runs = on_turns lines replies Outside to old new m tt keeps runs
