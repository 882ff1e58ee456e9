-- Lines with sections: one more, where a run stands behind them, and where it may end.
use Rattle.std.proofs.Common.{arith, refl, sym, subst, ap, ◌≡◌, ◌⊎◌, inl, inr, ℕ, List, Bool, [], ◌∷◌, ◌++◌, Some, Result, Ok, Err, length}
use Rattle.draid_names.specs.declared.journal.Entry.{Entry}
use Rattle.draid_script.specs.Grammar.{lane_of, line_of}
use Rattle.draid_script.specs.Line.{Command, InLane, LaneCommand, OpenLanes, SectionEnd, SilentLane}
use Rattle.draid_script.specs.declared.fault.LineFault.{LineFault}
use Rattle.draid_reply.specs.declared.reply.Reply.{Reply}
use Rattle.draid_session.specs.Choices.{Choices}
use Rattle.draid_session.specs.Places.{Ended, Inside, Outside, Place, place_after, place_behind, place_inside, place_opened}
use Rattle.draid_session.specs.Said.{Said}
use Rattle.draid_session.specs.Sections.{LaneTurns, OutsideTurns, PlaceBehind, PlaceTurns, RunsOn, SectionTurns}
use Rattle.draid_session.specs.Session.{Agrees, Desk, Finding, Untouched, Bare, Made, Open, Shut, Foreign, Unknown, Sitting, sits}
use Rattle.draid_run.specs.Script.{LastStep, MayEndAt}
use Rattle.draid_exits.specs.declared.status.Status.{Status}
use Rattle.draid_exits.specs.declared.status.Status.TheVariants as status_is
use Rattle.draid_exits.specs.declared.status.Status.TheVariants.{Done, Usage, SourceFault, SinkFault, NoMemory, TooLong, ShelfFault, Record}

-- where lines lead, and one more
pub after_more : (from : Place) (lines : List (List ℕ)) (line : List ℕ) → place_after from (lines ++ line ∷ []) ≡ place_behind (place_after from lines) line
after_more from [] line = refl
after_more from (first ∷ lines) line = after_more (place_behind from first) lines line

-- a run breaks off at a line of its own outside sections alone
pub broken_outside : (to : Place) (ended : Status) (text : List ℕ) → MayEndAt to ended (Some text) → to ≡ Outside
broken_outside Outside ended text may = refl
broken_outside (Inside lanes) Done text may = absurd may
broken_outside (Inside lanes) ShelfFault text may = absurd may
broken_outside (Inside lanes) Usage text may = absurd may
broken_outside (Inside lanes) (status_is.Line line why at) text may = absurd may
broken_outside (Inside lanes) SourceFault text may = absurd may
broken_outside (Inside lanes) SinkFault text may = absurd may
broken_outside (Inside lanes) NoMemory text may = absurd may
broken_outside (Inside lanes) (TooLong line) text may = absurd may
broken_outside (Inside lanes) (Record which place fault) text may = absurd may
broken_outside Ended Done text may = absurd may
broken_outside Ended ShelfFault text may = absurd may
broken_outside Ended Usage text may = absurd may
broken_outside Ended (status_is.Line line why at) text may = absurd may
broken_outside Ended SourceFault text may = absurd may
broken_outside Ended SinkFault text may = absurd may
broken_outside Ended NoMemory text may = absurd may
broken_outside Ended (TooLong line) text may = absurd may
broken_outside Ended (Record which place fault) text may = absurd may

behind_led : (lanes : List (List Command)) (replies : List (List Reply)) (to : Place) → PlaceBehind lanes replies to → (to ≡ Outside) ⊎ (to ≡ Ended)
behind_led lanes replies Outside behind = inl refl
behind_led lanes replies (Inside commands) behind = absurd behind
behind_led lanes replies Ended behind = inr refl

module _ (choices : Choices) where
  section_led : (old new : Desk) (lanes : List (List Command)) (saids : List Said) (to : Place) → SectionTurns choices old lanes saids new to → (to ≡ Outside) ⊎ (to ≡ Ended)
  section_led (Open x) new lanes saids to (inl (has, said)) = inl said.2
  section_led (Open x) new lanes saids to (inr (none, inl refused)) = inl refused.4
  section_led (Open x) new lanes saids to (inr (none, inr (replies, are, apart, mends, behind, ran))) = behind_led lanes replies to behind
  section_led (Foreign known) new lanes saids to (inl said) = inl said.2
  section_led (Foreign known) new lanes saids to (inr (inl refused)) = inl refused.4
  section_led (Foreign known) new lanes saids to (inr (inr (replies, are, apart, mends, behind, ran))) = behind_led lanes replies to behind
  section_led Untouched new lanes saids to t = inl t.2
  section_led Bare new lanes saids to t = inl t.2
  section_led (Made told failed geometry) new lanes saids to t = inl t.2
  section_led (Shut crash x) new lanes saids to t = inl t.2
  section_led Unknown new lanes saids to t = inl t.2

  inside_led : (line : Result LaneCommand LineFault) (old new : Desk) (lanes : List (List Command)) (saids : List Said) (to : Place) → LaneTurns choices line old lanes saids new to
      → (to ≡ place_inside lanes line) ⊎ (to ≡ Ended)
  inside_led (Err fault) old new lanes saids to t = absurd t
  inside_led (Ok SilentLane) old new lanes saids to t = inl t.2
  inside_led (Ok (InLane lane command)) old new lanes saids to t = inl t.2
  inside_led (Ok SectionEnd) old new lanes saids to t = section_led old new lanes saids to t

  module _ (finds : Finding → Type 0) where
    pub outside_led : (line : Result Command LineFault) (old new : Sitting) (saids : List Said) (to : Place) → OutsideTurns choices finds line old saids new to → to ≡ place_opened line
    outside_led (Ok (OpenLanes count)) old new saids to t = t.2
    outside_led line old new saids to t = t.1

    -- a line leads where it says, or the run ends
    pub line_led : (from : Place) (line : List ℕ) (old new : Sitting) (saids : List Said) (to : Place) → PlaceTurns choices finds from line old saids new to → (to ≡ place_behind from line) ⊎ (to ≡ Ended)
    line_led Outside line old new saids to t = inl (outside_led (line_of line) old new saids to t)
    line_led (Inside lanes) line old new saids to t = inside_led (lane_of (length lanes) line) old.desk new.desk lanes saids to t.0
    line_led Ended line old new saids to t = absurd t

    pub goes_on : (from : Place) (line : List ℕ) (old new : Sitting) (saids : List Said) (to : Place) → (to ≡ Ended → ⊥) → PlaceTurns choices finds from line old saids new to → to ≡ place_behind from line
    goes_on from line old new saids to more t = elim (line_led from line old new saids to t) [ inl is ↦ is | inr ended ↦ absurd (more ended) ]

    -- one outside never ends a run
    opened_not : (line : Result Command LineFault) → place_opened line ≡ Ended → ⊥
    opened_not (Ok (OpenLanes count)) is = cc is
    opened_not line is = cc is

    -- where a line ends a run, that is inside a section; and the journal is as it was
    pub ended_inside : (from : Place) (line : List ℕ) (x y : Desk) (past after : List Entry) (saids : List Said) → PlaceTurns choices finds from line (sits x past) saids (sits y after) Ended
        → (lanes : List (List Command)) × (from ≡ Inside lanes) × (after ≡ past)
    ended_inside Outside line x y past after saids t = absurd (opened_not (line_of line) (sym (outside_led (line_of line) (sits x past) (sits y after) saids Ended t)))
    ended_inside (Inside lanes) line x y past after saids t = (lanes, refl, t.1)
    ended_inside Ended line x y past after saids t = absurd t

    -- one more line is answered
    pub on_more : (tells : Bool) (from : Place) (start : Sitting) (lines : List (List ℕ)) (replies : List (List Said)) (here : Place) (mid : Sitting) (line : List ℕ) (saids : List Said) (to : Place) (new : Sitting)
        → RunsOn choices finds tells from start lines replies here mid → PlaceTurns choices finds here line mid saids new to → Agrees tells new.desk
        → RunsOn choices finds tells from start (lines ++ line ∷ []) (replies ++ saids ∷ []) to new
    on_more tells from start [] [] here mid line saids to new runs turns agrees =
        (new, to, subst (λ s. PlaceTurns choices finds from line s saids new to) runs.0 (subst (λ p. PlaceTurns choices finds p line mid saids new to) runs.1 turns), agrees, (refl, refl))
    on_more tells from start [] (r ∷ rs) here mid line saids to new runs turns agrees = absurd runs
    on_more tells from start (l ∷ ls) [] here mid line saids to new runs turns agrees = absurd runs
    on_more tells from start (l ∷ ls) (r ∷ rs) here mid line saids to new runs turns agrees =
        (runs.0, runs.1, runs.2, runs.3, on_more tells runs.1 runs.0 ls rs here mid line saids to new runs.4 turns agrees)

    -- and it is the last one then
    pub last_more : (tells : Bool) (from : Place) (start : Sitting) (lines : List (List ℕ)) (replies : List (List Said)) (here : Place) (mid : Sitting) (line : List ℕ) (saids : List Said) (to : Place) (new : Sitting)
        → (runs : RunsOn choices finds tells from start lines replies here mid) (turns : PlaceTurns choices finds here line mid saids new to) (agrees : Agrees tells new.desk)
        → LastStep choices finds tells from start (lines ++ line ∷ []) (replies ++ saids ∷ []) to new (on_more tells from start lines replies here mid line saids to new runs turns agrees) here mid line saids
    unfolding on_more
    last_more tells from start [] [] here mid line saids to new runs turns agrees = (runs.1, runs.0, refl, refl)
    last_more tells from start [] (r ∷ rs) here mid line saids to new runs turns agrees = absurd runs
    last_more tells from start (l ∷ ls) [] here mid line saids to new runs turns agrees = absurd runs
    last_more tells from start (l ∷ []) (r ∷ rs) here mid line saids to new runs turns agrees = last_more tells runs.1 runs.0 [] rs here mid line saids to new runs.4 turns agrees
    last_more tells from start (l ∷ (k ∷ ls)) (r ∷ rs) here mid line saids to new runs turns agrees = last_more tells runs.1 runs.0 (k ∷ ls) rs here mid line saids to new runs.4 turns agrees

    -- the lines before it were answered
    pub record Before (tells : Bool) (from : Place) (start : Sitting) (lines : List (List ℕ)) (place : Place) (mid : Sitting) (line : List ℕ) : Type 0 where
      pub front : List (List ℕ)
      pub said : List (List Said)
      pub lines_are : lines ≡ front ++ line ∷ []
      pub runs : RunsOn choices finds tells from start front said place mid

    pub before_last : (tells : Bool) (from : Place) (start : Sitting) (lines : List (List ℕ)) (replies : List (List Said)) (to : Place) (new : Sitting) (runs : RunsOn choices finds tells from start lines replies to new) (place : Place) (mid : Sitting) (line : List ℕ) (saids : List Said)
        → LastStep choices finds tells from start lines replies to new runs place mid line saids → Before tells from start lines place mid line
    before_last tells from start [] replies to new runs place mid line saids step = absurd step
    before_last tells from start (l ∷ ls) [] to new runs place mid line saids step = absurd step
    before_last tells from start (l ∷ []) (r ∷ rs) to new runs place mid line saids step = record { front = []; said = []; lines_are = ap (λ t. t ∷ []) (sym step.2); runs = (step.1, step.0) }
    before_last tells from start (l ∷ (k ∷ ls)) (r ∷ rs) to new runs place mid line saids step =
        let rest = before_last tells runs.1 runs.0 (k ∷ ls) rs to new runs.4 place mid line saids step in
        record { front = l ∷ rest.front; said = r ∷ rest.said; lines_are = ap (λ ts. l ∷ ts) rest.lines_are; runs = (runs.0, runs.1, runs.2, runs.3, rest.runs) }

    -- none is answered behind the end of a run
    pub ended_none : (tells : Bool) (start : Sitting) (line : List ℕ) (lines : List (List ℕ)) (replies : List (List Said)) (to : Place) (last : Sitting) → RunsOn choices finds tells Ended start (line ∷ lines) replies to last → ⊥
    ended_none tells start line lines [] to last runs = absurd runs
    ended_none tells start line lines (r ∷ rs) to last runs = absurd runs.2

    -- lines before others, and those behind them
    pub record Splits (tells : Bool) (from : Place) (start : Sitting) (front : List (List ℕ)) (said : List (List Said)) (back : List (List ℕ)) (behind : List (List Said)) (to : Place) (last : Sitting) : Type 0 where
      pub here : Place
      pub mid : Sitting
      pub before : RunsOn choices finds tells from start front said here mid
      pub after : RunsOn choices finds tells here mid back behind to last

    pub on_split : (tells : Bool) (from : Place) (start : Sitting) (front : List (List ℕ)) (said : List (List Said)) (back : List (List ℕ)) (behind : List (List Said)) (to : Place) (last : Sitting) → length said ≡ length front
        → RunsOn choices finds tells from start (front ++ back) (said ++ behind) to last → Splits tells from start front said back behind to last
    on_split tells from start [] [] back behind to last same runs = record { here = from; mid = start; before = (refl, refl); after = runs }
    on_split tells from start [] (r ∷ rs) back behind to last same runs = absurd (cc same)
    on_split tells from start (l ∷ ls) [] back behind to last same runs = absurd (cc same)
    on_split tells from start (l ∷ ls) (r ∷ rs) back behind to last same runs =
        let rest = on_split tells runs.1 runs.0 ls rs back behind to last (omega (arith, same)) runs.4 in
        record { here = rest.here; mid = rest.mid; before = (runs.0, runs.1, runs.2, runs.3, rest.before); after = rest.after }

    -- where others come behind them, the run stands where they lead
    pub led_on : (tells : Bool) (from : Place) (start : Sitting) (lines : List (List ℕ)) (replies : List (List Said)) (to : Place) (last : Sitting) → (to ≡ Ended → ⊥) → RunsOn choices finds tells from start lines replies to last
        → to ≡ place_after from lines
    led_on tells from start [] [] to last more runs = runs.1
    led_on tells from start [] (r ∷ rs) to last more runs = absurd runs
    led_on tells from start (l ∷ ls) [] to last more runs = absurd runs
    led_on tells from start (l ∷ ls) (r ∷ rs) to last more runs = elim (line_led from l start runs.0 r runs.1 runs.2) [
      | inl is ↦ led_on tells (place_behind from l) runs.0 ls rs to last more (subst (λ p. RunsOn choices finds tells p runs.0 ls rs to last) is runs.4)
      | inr ended ↦ absurd (stops ls rs (subst (λ p. RunsOn choices finds tells p runs.0 ls rs to last) ended runs.4))
    ]
      where
        stops : (ls : List (List ℕ)) (rs : List (List Said)) → RunsOn choices finds tells Ended runs.0 ls rs to last → ⊥
        stops [] [] left = more left.1
        stops [] (r ∷ rs) left = absurd left
        stops (l ∷ ls) rs left = ended_none tells runs.0 l ls rs to last left
