-- What the loop over the lines keeps, and what its ends come to.
use Rattle.std.proofs.Common.{arith, refl, sym, ap, ◌≡◌, ◌∙◌, ◌+◌, ◌≤◌, ◌⊎◌, inl, inr, ℕ, false, true, List, [], ◌∷◌, ◌++◌, Option, Some, None, Result, Ok, Err, Vec, Global, subst, append_assoc, length-append}
use Rattle.std.specs.Prelude.{MatchOption, is_some, ⊤}
use Rattle.std.specs.Io.KnownBytes.{prepend_known}
use Rattle.std.proofs.lemmas.Grind.{flat_map-append}
use Rattle.std.proofs.lemmas.List.{append-nil}
use Rattle.draid_names.specs.declared.journal.Entry.{Entry}
use Rattle.draid_record.specs.declared.fault.RecordFaultKind.{RecordFaultKind}
use Rattle.draid_rack.specs.declared.Rack as racks
use Rattle.draid_area.specs.declared.Area as areas
use Rattle.draid_lines.proofs.Ends.{lines_none}
use Rattle.draid_lines.specs.Lines.{most_lines, Rest, WhereKnown, lines_of}
use Rattle.draid_script.specs.Line.{Command}
use Rattle.draid_session.specs.Said.{Said}
use Rattle.draid_session.specs.Choices.{Choices}
use Rattle.draid_session.specs.Places.{Ended, Inside, IsInside, Outside, Place, line_at, line_behind, place_after, place_behind}
use Rattle.draid_session.specs.Sections.{PlaceTurns, RunsOn}
use Rattle.draid_session.specs.Session.{Desk, Untouched, Bare, Made, Open, Shut, Foreign, Unknown, RecordFails, ShelfFails, Sitting, sits}
use Rattle.draid_pool.specs.declared.pool.Pool.{Pool}
use Rattle.draid_exits.specs.declared.status.RecordName.{RecordName}
use Rattle.draid_run.specs.Crashes.{IsFirmShut, LeavesFirmAt, crash_came_last}
use Rattle.draid_run.specs.Desks.{IsDesk}
use Rattle.draid_run.specs.Script.{all_said, BreaksOff, Ends, EndsSection, FaultyShut, GetsReplies, LastStep, LineFaultIs, MayEndAt, Shows}
use Rattle.draid_print.specs.Printing.{said_text, texts_of}
use Rattle.draid_run.specs.Serve.{BrokenLine, Cut, LaneStopped, LineIs, Placed, Printed, Served, Serving, TextIs, Untold, end_at}
use Rattle.draid_pool.specs.Shelves.{OnShelf}
use Rattle.draid_run.specs.Shelves.{FaultIn, HasFailed, HasFault, HoldsDesk, HoldsFault, MakesLeavesAt, MakesLeavesBy, IsClosed, MayFind, RackFault, TellsAsBefore}
use Rattle.draid_script.specs.declared.fault.LineFaultKind.{LineFaultKind}
use Rattle.draid_script.specs.declared.fault.LineFaultKind.TheVariants as line_fault
use Rattle.draid_exits.specs.declared.status.Status.{Status}
use Rattle.draid_exits.specs.declared.status.Status.TheVariants.{Done, Usage, Line, SourceFault, SinkFault, NoMemory, TooLong, ShelfFault, Record}
use Rattle.draid_run.proofs.Crashing.{firm_more}
use Rattle.draid_run.proofs.Exits.{rose_from}
use Rattle.draid_run.proofs.Known.{known_input, known_on}
use Rattle.draid_print.proofs.Appending.{appends_more, appends_none}
use Rattle.draid_run.proofs.Places.{after_more, ended_inside, goes_on, last_more, on_more}
use Rattle.draid_run.proofs.Risen.{area_shows, cause_fault, fails_shut, faulty_shut}
use Rattle.draid_run.proofs.Runs.{desk_agrees}

-- the replies to one more line
all_more : (replies : List (List Said)) (saids : List Said) → all_said (replies ++ saids ∷ []) ≡ all_said replies ++ saids
all_more replies saids = flat_map-append (λ (s : List Said). s) replies (saids ∷ []) ∙ ap (λ t. all_said replies ++ t) (append-nil saids)

-- and their texts
texts_both : (front back : List Said) → texts_of (front ++ back) ≡ texts_of front ++ texts_of back
texts_both front back = flat_map-append said_text front back

texts_more : (replies : List (List Said)) (saids : List Said) → texts_of (all_said (replies ++ saids ∷ [])) ≡ texts_of (all_said replies) ++ texts_of saids
texts_more replies saids = ap texts_of (all_more replies saids) ∙ texts_both (all_said replies) saids

-- the lines so far, one more, and the rest
lines_more : (all behind rest : List ℕ) (lines : List (List ℕ)) (line : List ℕ) → lines_of all ≡ lines ++ lines_of behind → lines_of behind ≡ line ∷ lines_of rest
    → lines_of all ≡ (lines ++ line ∷ []) ++ lines_of rest
lines_more all behind rest lines line a b = a ∙ ap (λ xs. lines ++ xs) b ∙ sym (append_assoc lines (line ∷ []) (lines_of rest))

not_none : (lines : List (List ℕ)) (line : List ℕ) → lines ++ line ∷ [] ≡ [] → ⊥
not_none [] line is = cc is
not_none (x ∷ lines) line is = cc is

pub text_by : (lines lines' : Rest) (left left' : Option (List ℕ)) (next next' : Option (Vec ℕ Global)) → next ≡ next' → TextIs lines lines' left left' (Ok next) → TextIs lines lines' left left' (Ok next')
text_by lines lines' left left' next next' is text =
    let P : Option (Vec ℕ Global) → Type 0 = λ n. TextIs lines lines' left left' (Ok n) in
    subst P is text

-- a source that can't be read on says nothing of the sink, nor of the words
pub text_no_sink : (lines lines' : Rest) (left left' : Option (List ℕ)) (status : Status) → TextIs lines lines' left left' (Err status) → status ≡ SinkFault → ⊥
text_no_sink lines lines' left left' status text is = subst (λ s. TextIs lines lines' left left' (Err s)) is text

pub text_no_done : (lines lines' : Rest) (left left' : Option (List ℕ)) (status : Status) → TextIs lines lines' left left' (Err status) → status ≡ Done → ⊥
text_no_done lines lines' left left' status text is = subst (λ s. TextIs lines lines' left left' (Err s)) is text

pub text_no_usage : (lines lines' : Rest) (left left' : Option (List ℕ)) (status : Status) → TextIs lines lines' left left' (Err status) → status ≡ Usage → ⊥
text_no_usage lines lines' left left' status text is = subst (λ s. TextIs lines lines' left left' (Err s)) is text

-- nor does the end of the input
pub end_no_source : (number : ℕ) (place : Place) → end_at number place ≡ SourceFault → ⊥
end_no_source number Outside is = cc is
end_no_source number (Inside lanes) is = cc is
end_no_source number Ended is = cc is

pub end_no_sink : (number : ℕ) (place : Place) → end_at number place ≡ SinkFault → ⊥
end_no_sink number Outside is = cc is
end_no_sink number (Inside lanes) is = cc is
end_no_sink number Ended is = cc is

pub end_no_usage : (number : ℕ) (place : Place) → end_at number place ≡ Usage → ⊥
end_no_usage number Outside is = cc is
end_no_usage number (Inside lanes) is = cc is
end_no_usage number Ended is = cc is

-- the number of the next line
pub first_number : (given : ℕ) → given ≡ 0 → given + 1 ≡ 1
first_number given none = omega (arith, none)

pub few_given : (given : ℕ) → given ≡ 0 → given ≤ most_lines
few_given given none = omega (arith, none)

pub next_number : (given' given number : ℕ) → given' ≡ given + 1 → given + 1 ≡ number → given' + 1 ≡ number + 1
next_number given' given number one is = omega (arith, one, is)

-- one line more than a script may have isn't given
pub too_many : (number given : ℕ) → 1_048_578 ≤ number → given + 1 ≡ number → given ≤ most_lines → ⊥
too_many number given past is few = omega (arith, past, is, few)

-- the shelf as it is
pub as_found : (entry : OnShelf) → HoldsDesk Untouched entry entry
as_found entry = (record { held = refl; counts = λ m. refl; uber = refl; checks = refl }, λ m. refl)

-- what failed in a line failed since the entry
failed_from : (entry before now : OnShelf) → entry.faults ≤ before.faults → HasFailed before now → HasFailed entry now
failed_from entry before now later failed = elim failed [
  | inl rose ↦ inl (rose_from entry.faults before.faults now.faults later rose)
  | inr areas ↦ inr areas
]

fault_from : {R A : Type 0} (area : areas.Ghosts A) (entry before now : OnShelf) (pool : Option (Pool R A)) → entry.faults ≤ before.faults → (x : Desk) → HasFault area before now pool x → HasFault area entry now pool x
fault_from area entry before now pool later (Open x) fault = fault
fault_from area entry before now pool later (Foreign known) fault = fault
fault_from area entry before now pool later Untouched fault = failed_from entry before now later fault
fault_from area entry before now pool later Bare fault = failed_from entry before now later fault
fault_from area entry before now pool later (Made tells count geometry) fault = failed_from entry before now later fault
fault_from area entry before now pool later (Shut crash x) fault = failed_from entry before now later fault
fault_from area entry before now pool later Unknown fault = failed_from entry before now later fault

-- what shows in a line shows of the run that ended there
fault_at : {R A : Type 0} (rack : racks.Ghosts R) (area : areas.Ghosts A) (entry before now : OnShelf) (pool : Option (Pool R A)) → entry.faults ≤ before.faults → (lines : List (List ℕ)) (text : List ℕ) (command : Command) → line_behind lines text ≡ Ok command
    → (x : Desk) → FaultIn rack area command before now pool x → HasFault area entry now pool x ⊎ (MakesLeavesAt lines (Some text) × RackFault rack pool x)
fault_at rack area entry before now pool later lines text command line x fault = elim fault [
  | inl failed ↦ inl (fault_from area entry before now pool later x failed)
  | inr whole ↦ inr (subst MakesLeavesBy (sym line) whole.0, whole.1)
]

-- where a run may end whose line can't be run, or that can't be read on
may_line : (place : Place) (number : ℕ) (kind : LineFaultKind) (at : ℕ) → (place ≡ Ended → ⊥) → MayEndAt place (Line number kind at) None
may_line Outside number kind at more = tt
may_line (Inside lanes) number kind at more = tt
may_line Ended number kind at more = absurd (more refl)

may_source : (place : Place) → (place ≡ Ended → ⊥) → MayEndAt place SourceFault None
may_source Outside more = tt
may_source (Inside lanes) more = tt
may_source Ended more = absurd (more refl)

may_memory : (place : Place) → MayEndAt place NoMemory None
may_memory Outside = tt
may_memory (Inside lanes) = tt
may_memory Ended = tt

may_long : (place : Place) (line : ℕ) → (place ≡ Ended → ⊥) → MayEndAt place (TooLong line) None
may_long Outside line more = tt
may_long (Inside lanes) line more = tt
may_long Ended line more = absurd (more refl)

-- what shows that a lane was stopped is a fault
stopped_fault : {R A : Type 0} (area : areas.Ghosts A) (entry now : OnShelf) (pool : Option (Pool R A)) (old new : Desk) → LaneStopped area pool old new → HasFault area entry now pool new
stopped_fault area entry now pool (Open x) (Open y) rose = area_shows x y rose
stopped_fault area entry now pool (Foreign known) (Foreign later) fails = fails
stopped_fault area entry now pool (Open x) Untouched rose = absurd rose
stopped_fault area entry now pool (Open x) Bare rose = absurd rose
stopped_fault area entry now pool (Open x) (Made told failed geometry) rose = absurd rose
stopped_fault area entry now pool (Open x) (Shut crash y) rose = absurd rose
stopped_fault area entry now pool (Open x) (Foreign known) rose = absurd rose
stopped_fault area entry now pool (Open x) Unknown rose = absurd rose
stopped_fault area entry now pool (Foreign known) Untouched rose = absurd rose
stopped_fault area entry now pool (Foreign known) Bare rose = absurd rose
stopped_fault area entry now pool (Foreign known) (Made told failed geometry) rose = absurd rose
stopped_fault area entry now pool (Foreign known) (Open y) rose = absurd rose
stopped_fault area entry now pool (Foreign known) (Shut crash y) rose = absurd rose
stopped_fault area entry now pool (Foreign known) Unknown rose = absurd rose
stopped_fault area entry now pool Untouched new rose = absurd rose
stopped_fault area entry now pool Bare new rose = absurd rose
stopped_fault area entry now pool (Made told failed geometry) new rose = absurd rose
stopped_fault area entry now pool (Shut crash x) new rose = absurd rose
stopped_fault area entry now pool Unknown new rose = absurd rose

-- and a pool is open then
stopped_open : {R A : Type 0} (area : areas.Ghosts A) (pool : Option (Pool R A)) (old new : Desk) → LaneStopped area pool old new → IsClosed new → ⊥
stopped_open area pool (Open x) new rose closed = by new rose closed
  where
    by : (new : Desk) → LaneStopped area pool (Open x) new → IsClosed new → ⊥
    by (Open y) rose closed = closed
    by (Foreign known) rose closed = closed
    by Untouched rose closed = rose
    by Bare rose closed = rose
    by (Made told failed geometry) rose closed = rose
    by (Shut crash y) rose closed = rose
    by Unknown rose closed = rose
stopped_open area pool (Foreign known) new rose closed = by new rose closed
  where
    by : (new : Desk) → LaneStopped area pool (Foreign known) new → IsClosed new → ⊥
    by (Open y) rose closed = closed
    by (Foreign later) rose closed = closed
    by Untouched rose closed = rose
    by Bare rose closed = rose
    by (Made told failed geometry) rose closed = rose
    by (Shut crash y) rose closed = rose
    by Unknown rose closed = rose
stopped_open area pool Untouched new rose closed = absurd rose
stopped_open area pool Bare new rose closed = absurd rose
stopped_open area pool (Made told failed geometry) new rose closed = absurd rose
stopped_open area pool (Shut crash x) new rose closed = absurd rose
stopped_open area pool Unknown new rose closed = absurd rose

module _ {R A : Type 0} (rack : racks.Ghosts R) (area : areas.Ghosts A) (choices : Choices) (entry : OnShelf) where
  -- the fault that a status names
  abbrev NamesFault : OnShelf → Status → Type 0
  NamesFault before (Record which place kind) = HoldsFault rack area before which place kind
  NamesFault before status = ⊤

  -- the line under another name of its number and its text
  pub line_by : (past after : List Entry) (from : Place) (number number' : ℕ) (text text' : List ℕ) (before : OnShelf) (pool : Option (Pool R A)) (x : Desk) (now : OnShelf) (pool' : Option (Pool R A)) (held held' : Option (List ℕ)) (to : Place) (result : Result Unit Status)
      → number ≡ number' → text ≡ text' → LineIs rack area choices past after from number text entry before pool x now pool' held held' to result → LineIs rack area choices past after from number' text' entry before pool x now pool' held held' to result
  line_by past after from number number' text text' before pool x now pool' held held' to result numbers texts line =
      let P : ℕ → Type 0 = λ n. LineIs rack area choices past after from n text entry before pool x now pool' held held' to result in
      let Q : List ℕ → Type 0 = λ t. LineIs rack area choices past after from number' t entry before pool x now pool' held held' to result in
      subst Q texts (subst P numbers line)

  -- a line that wasn't run has no fault of the source's, nor of the words
  pub line_no_source : (past after : List Entry) (from : Place) (number : ℕ) (text : List ℕ) (before : OnShelf) (pool : Option (Pool R A)) (x : Desk) (now : OnShelf) (pool' : Option (Pool R A)) (held held' : Option (List ℕ)) (to : Place) (status : Status)
      → LineIs rack area choices past after from number text entry before pool x now pool' held held' to (Err status) → status ≡ SourceFault → ⊥
  line_no_source past after from number text before pool x now pool' held held' to status line is = subst (λ s. LineIs rack area choices past after from number text entry before pool x now pool' held held' to (Err s)) is line

  pub line_no_done : (past after : List Entry) (from : Place) (number : ℕ) (text : List ℕ) (before : OnShelf) (pool : Option (Pool R A)) (x : Desk) (now : OnShelf) (pool' : Option (Pool R A)) (held held' : Option (List ℕ)) (to : Place) (status : Status)
      → LineIs rack area choices past after from number text entry before pool x now pool' held held' to (Err status) → status ≡ Done → ⊥
  line_no_done past after from number text before pool x now pool' held held' to status line is = subst (λ s. LineIs rack area choices past after from number text entry before pool x now pool' held held' to (Err s)) is line

  pub line_no_usage : (past after : List Entry) (from : Place) (number : ℕ) (text : List ℕ) (before : OnShelf) (pool : Option (Pool R A)) (x : Desk) (now : OnShelf) (pool' : Option (Pool R A)) (held held' : Option (List ℕ)) (to : Place) (status : Status)
      → LineIs rack area choices past after from number text entry before pool x now pool' held held' to (Err status) → status ≡ Usage → ⊥
  line_no_usage past after from number text before pool x now pool' held held' to status line is = subst (λ s. LineIs rack area choices past after from number text entry before pool x now pool' held held' to (Err s)) is line

  -- a desk without a pool
  shut_desk : (first : Desk) → HoldsDesk first entry entry → IsDesk rack area entry entry None first
  shut_desk Untouched is = record { stands = tt; shelf = is }
  shut_desk (Made tells count geometry) is = record { stands = tt; shelf = is }
  shut_desk (Shut crash x) is = record { stands = tt; shelf = is }
  shut_desk Bare is = record { stands = tt; shelf = is }
  shut_desk Unknown is = record { stands = tt; shelf = is }
  shut_desk (Foreign known) is = absurd is
  shut_desk (Open x) is = absurd is

  pub serving_none : (input start : Option (List ℕ)) (first : Desk) → HoldsDesk first entry entry → Serving rack area choices Outside [] first input (prepend_known [] input) start start entry entry None 0
  serving_none input start first at = record {
    lines = [];
    replies = [];
    reached = first;
    count_is = refl;
    desk = shut_desk first at;
    runs = (refl, refl);
    stands = refl;
    goes_on = λ is. cc is;
    known = starts input;
    printed = appends_none start;
    unanswered = λ none. refl;
    firm = λ came. absurd (cc came);
  } where
    starts : (a : Option (List ℕ)) → WhereKnown a (prepend_known [] a) (λ all behind. lines_of all ≡ [] ++ lines_of behind)
    starts None = tt
    starts (Some x) = refl

  pub serving_start : (input start : Option (List ℕ)) (lines : Rest) (pool : Option (Pool R A)) (journal : List Entry) → lines ≡ record { held = []; given = 0; fault = None } → pool ≡ None → journal ≡ []
      → (first : Desk) → HoldsDesk first entry entry → Serving rack area choices Outside journal first input (prepend_known lines.held input) start start entry entry pool lines.given
  serving_start input start lines pool journal is none empty first at = rw is (rw none (rw empty (serving_none input start first at)))

  module _ (first : Desk) where
    -- the lines so far, and one more
    abbrev RunsSo : List (List ℕ) → List (List Said) → Place → Sitting → Type 0
    RunsSo lines replies to new = RunsOn choices (MayFind rack area entry) (is_some entry.held) Outside (sits first []) lines replies to new

    more : (past after : List Entry) (lines : List (List ℕ)) (replies : List (List Said)) (from : Place) (mid : Desk) (line : List ℕ) (saids : List Said) (now : OnShelf) (pool : Option (Pool R A)) (to : Place) → RunsSo lines replies from (sits mid past)
        → (placed : Placed rack area choices past after from line entry mid saids now pool to) → TellsAsBefore entry now
        → RunsSo (lines ++ line ∷ []) (replies ++ saids ∷ []) to (sits placed.new after)
    more past after lines replies from mid line saids now pool to runs placed tells =
        on_more choices (MayFind rack area entry) (is_some entry.held) Outside (sits first []) lines replies from (sits mid past) line saids to (sits placed.new after) runs placed.turns
        (desk_agrees rack area entry now pool placed.new tells placed.desk)

    firm_so : (lines : List (List ℕ)) (replies : List (List Said)) (from : Place) (mid : Sitting) (line : List ℕ) (saids : List Said) (before now : OnShelf) (pool pool' : Option (Pool R A)) → RunsSo lines replies from mid → place_after Outside lines ≡ from
        → (crash_came_last Outside false lines replies ≡ true → IsFirmShut before pool) → LeavesFirmAt from line saids before pool now pool' → crash_came_last Outside false (lines ++ line ∷ []) (replies ++ saids ∷ []) ≡ true → IsFirmShut now pool'
    firm_so lines replies from mid line saids before now pool pool' runs stands firm leaves =
        firm_more choices (MayFind rack area entry) (is_some entry.held) (sits first []) lines replies from mid line saids before now pool pool' runs stands firm leaves

    -- a lane was stopped in the last line
    stops_so : (past after : List Entry) (lines : List (List ℕ)) (replies : List (List Said)) (from : Place) (mid : Desk) (line : List ℕ) (saids : List Said) (now : OnShelf) (pool : Option (Pool R A)) (to : Place) (runs : RunsSo lines replies from (sits mid past))
        (placed : Placed rack area choices past after from line entry mid saids now pool to) (tells : TellsAsBefore entry now) → to ≡ Ended
        → EndsSection choices (MayFind rack area entry) (is_some entry.held) (LaneStopped area pool) (sits first []) (lines ++ line ∷ []) (replies ++ saids ∷ []) to (sits placed.new after) (more past after lines replies from mid line saids now pool to runs placed tells)
    unfolding more
    stops_so past after lines replies from mid line saids now pool to runs placed tells ended =
        let turns = subst (λ p. PlaceTurns choices (MayFind rack area entry) from line (sits mid past) saids (sits placed.new after) p) ended placed.turns in
        let it = ended_inside choices (MayFind rack area entry) from line mid placed.new past after saids turns in
        let runs_on = more past after lines replies from mid line saids now pool to runs placed tells in
        let step = last_more choices (MayFind rack area entry) (is_some entry.held) Outside (sits first []) lines replies from (sits mid past) line saids to (sits placed.new after) runs placed.turns
        (desk_agrees rack area entry now pool placed.new tells placed.desk) in
        record {
          lanes = it.0;
          old = sits mid past;
          line = line;
          saids = saids;
          step = subst (λ p. LastStep choices (MayFind rack area entry) (is_some entry.held) Outside (sits first []) (lines ++ line ∷ []) (replies ++ saids ∷ []) to (sits placed.new after) runs_on p (sits mid past) line saids) it.1 step;
          turns = subst (λ p. PlaceTurns choices (MayFind rack area entry) p line (sits mid past) saids (sits placed.new after) Ended) it.1 turns;
          failed = placed.stopped ended;
        }

    pub serving_more : (from : Place) (past after : List Entry) (input rest rest' start held held' : Option (List ℕ)) (before now : OnShelf) (pool pool' : Option (Pool R A)) (count : ℕ) (line : List ℕ) (to : Place)
        → (is : Serving rack area choices from past first input rest start held entry before pool count)
        → WhereKnown rest rest' (λ old new. lines_of old ≡ line ∷ lines_of new)
        → Printed rack area choices past after from line entry before pool is.reached now pool' held held' to → TellsAsBefore entry now → (to ≡ Ended → ⊥)
        → Serving rack area choices to after first input rest' start held' entry now pool' (count + 1)
    serving_more from past after input rest rest' start held held' before now pool pool' count line to is behind printed tells still =
        let counted = is.count_is in
        let longer = length-append is.lines (line ∷ []) in
        record {
          lines = is.lines ++ line ∷ [];
          replies = is.replies ++ printed.saids ∷ [];
          reached = printed.placed.new;
          count_is = omega (arith, counted, longer);
          desk = printed.placed.desk;
          runs = more past after is.lines is.replies from is.reached line printed.saids now pool' to is.runs printed.placed tells;
          stands = after_more Outside is.lines line ∙ ap (λ p. place_behind p line) is.stands
              ∙ sym (goes_on choices (MayFind rack area entry) from line (sits is.reached past) (sits printed.placed.new after) printed.saids to still printed.placed.turns);
          goes_on = still;
          known = known_on input rest rest' _ _ _ (λ x y z a b. lines_more x y z is.lines line a b) is.known behind;
          printed = rw (texts_more is.replies printed.saids) (appends_more start held held' _ _ is.printed printed.prints);
          unanswered = λ none. absurd (not_none is.lines line none);
          firm = firm_so is.lines is.replies from (sits is.reached past) line printed.saids before now pool pool' is.runs is.stands is.firm printed.firm;
        }

    -- The run ends with no line under way, for a cause that is neither a failing shelf nor a record's fault.
    at_rest : (from : Place) (past : List Entry) (input rest start held : Option (List ℕ)) (now : OnShelf) (pool : Option (Pool R A)) (count : ℕ) (is : Serving rack area choices from past first input rest start held entry now pool count) (ended : Status)
        → MayEndAt from ended None → BreaksOff is.lines ended None [] is.reached is.reached → MatchOption input ⊤ (Ends ended None is.lines) → Shows ended is.replies (all_said is.replies) → GetsReplies ended (all_said is.replies) start held
        → (ended ≡ ShelfFault → ⊥) → ((which : RecordName) (place : ℕ) (kind : RecordFaultKind) → ended ≡ Record which place kind → ⊥) → Served rack area choices first ended input start held entry now pool
    at_rest from past input rest start held now pool count is ended may breaks ends shows prints no_shelf no_record = record {
      lines = is.lines;
      replies = is.replies;
      shown = all_said is.replies;
      mid = is.reached;
      journal = past;
      last = is.reached;
      broken = None;
      saids = [];
      desk = is.desk;
      to = from;
      runs = is.runs;
      may = may;
      stopped = λ e. absurd (is.goes_on e);
      breaks = breaks;
      ends = ends;
      shows = shows;
      prints = prints;
      failed = λ e. absurd (no_shelf e);
      since = λ e. absurd (no_shelf e);
      bad = λ which place kind e. absurd (no_record which place kind e);
      firm = λ rest. is.firm;
    }

    -- all lines of the input were answered
    all_lines : (input rest rest' : Option (List ℕ)) (lines : List (List ℕ)) → WhereKnown input rest (λ all behind. lines_of all ≡ lines ++ lines_of behind) → WhereKnown rest rest' (λ old new. old ≡ [])
        → (P : List ℕ → Type 0) → ((bytes : List ℕ) → lines_of bytes ≡ lines → P bytes) → MatchOption input ⊤ P
    all_lines input rest rest' lines known end P to_p =
        known_input input rest' (λ all behind. lines_of all ≡ lines) P (λ x z e. to_p x e)
        (known_on input rest rest' (λ all behind. lines_of all ≡ lines ++ lines_of behind) (λ old new. old ≡ []) (λ all behind. lines_of all ≡ lines)
        (λ x y z a b. a ∙ ap (λ bytes. lines ++ lines_of bytes) b ∙ ap (λ xs. lines ++ xs) lines_none ∙ append-nil lines) known end)

    -- the input ended
    pub served_done : (from : Place) (past : List Entry) (input rest rest' start held : Option (List ℕ)) (now : OnShelf) (pool : Option (Pool R A)) (count number : ℕ) → number ≡ count + 1
        → Serving rack area choices from past first input rest start held entry now pool count → WhereKnown rest rest' (λ old new. old ≡ [])
        → Served rack area choices first (end_at number from) input start held entry now pool
    served_done Outside past input rest rest' start held now pool count number n is end = at_rest Outside past input rest start held now pool count is Done tt (refl, refl)
        (all_lines input rest rest' is.lines is.known end (λ bytes. lines_of bytes ≡ is.lines) (λ bytes e. e))
        refl is.printed (λ e. cc e) (λ which place kind e. cc e)
    served_done (Inside lanes) past input rest rest' start held now pool count number n is end =
        let counted = is.count_is in
        at_rest (Inside lanes) past input rest start held now pool count is (Line number line_fault.Lane 0) tt (refl, refl)
        (all_lines input rest rest' is.lines is.known end (Ends (Line number line_fault.Lane 0) None is.lines) (λ bytes e.
        (inr (e, subst IsInside (sym is.stands) tt, refl, refl), omega (arith, counted, n))))
        refl is.printed (λ e. cc e) (λ which place kind e. cc e)
    served_done Ended past input rest rest' start held now pool count number n is end = absurd (is.goes_on refl)

    -- the next line could not be read
    pub served_unread : (from : Place) (past : List Entry) (input start held left left' : Option (List ℕ)) (now : OnShelf) (pool : Option (Pool R A)) (lines lines' : Rest) (status : Status)
        → Serving rack area choices from past first input (prepend_known lines.held left) start held entry now pool lines.given → TextIs lines lines' left left' (Err status)
        → Served rack area choices first status input start held entry now pool
    served_unread from past input start held left left' now pool lines lines' SourceFault is text = at_rest from past input (prepend_known lines.held left) start held now pool lines.given is SourceFault (may_source from is.goes_on) (refl, refl)
        (known_input input _ _ _ (λ x y e. (lines_of y, e)) is.known)
        refl is.printed (λ e. cc e) (λ which place kind e. cc e)
    served_unread from past input start held left left' now pool lines lines' NoMemory is text = at_rest from past input (prepend_known lines.held left) start held now pool lines.given is NoMemory (may_memory from) (refl, refl)
        (known_input input _ _ _ (λ x y e. (lines_of y, e)) is.known)
        (inl refl) is.printed (λ e. cc e) (λ which place kind e. cc e)
    served_unread from past input start held left left' now pool lines lines' (TooLong line) is text =
        let counted = is.count_is in
        let number = text.0 in
        at_rest from past input (prepend_known lines.held left) start held now pool lines.given is (TooLong line) (may_long from line is.goes_on) (refl, refl)
        (known_input input _ _ _ (λ x z e. e)
        (known_on input (prepend_known lines.held left) (prepend_known lines'.held left') _ _ (λ all behind. Ends (TooLong line) None is.lines all)
        (λ x y z a b. (y, a, rw counted b, omega (arith, counted, number))) is.known text.1))
        refl is.printed (λ e. cc e) (λ which place kind e. cc e)
    served_unread from past input start held left left' now pool lines lines' Done is text = absurd text
    served_unread from past input start held left left' now pool lines lines' Usage is text = absurd text
    served_unread from past input start held left left' now pool lines lines' (Line line kind at) is text = absurd text
    served_unread from past input start held left left' now pool lines lines' SinkFault is text = absurd text
    served_unread from past input start held left left' now pool lines lines' ShelfFault is text = absurd text
    served_unread from past input start held left left' now pool lines lines' (Record which place kind) is text = absurd text

    -- a line was taken, and the run ended with it
    module _ (from : Place) (past : List Entry) (input rest rest' start held : Option (List ℕ)) (before : OnShelf) (pool : Option (Pool R A)) (count : ℕ) (line : List ℕ) (behind : WhereKnown rest rest' (λ old new. lines_of old ≡ line ∷ lines_of new))
        (is : Serving rack area choices from past first input rest start held entry before pool count) (later : entry.faults ≤ before.faults) where
      -- what it asks for is what it asks for behind the lines before it
      here : line_at from line ≡ line_behind is.lines line
      here = ap (λ p. line_at p line) (sym is.stands)

      -- the input has it behind them
      taken : MatchOption input ⊤ (λ bytes. (rest : List (List ℕ)) × (lines_of bytes ≡ is.lines ++ (line ∷ rest)))
      taken = known_input input rest' (λ all z. lines_of all ≡ is.lines ++ (line ∷ lines_of z)) (λ bytes. (rest : List (List ℕ)) × (lines_of bytes ≡ is.lines ++ (line ∷ rest))) (λ x z e. (lines_of z, e))
          (known_on input rest rest' (λ all behind. lines_of all ≡ is.lines ++ lines_of behind) (λ old new. lines_of old ≡ line ∷ lines_of new) (λ all z. lines_of all ≡ is.lines ++ (line ∷ lines_of z)) (λ x y z a b. a ∙ ap (λ xs. is.lines ++ xs) b) is.known behind)

      -- it can't be run
      unrun : (number : ℕ) (kind : LineFaultKind) (at : ℕ) → LineFaultIs (line_at from line) kind at → number ≡ count + 1 → Served rack area choices first (Line number kind at) input start held entry before pool
      unrun number kind at fault n =
          let counted = is.count_is in
          at_rest from past input rest start held before pool count is (Line number kind at) (may_line from number kind at is.goes_on) (refl, refl)
          (known_input input rest' _ _ (λ x z e. e)
          (known_on input rest rest' _ _ (λ all _. Ends (Line number kind at) None is.lines all)
          (λ x y z a b. (inl (line, lines_of z, a ∙ ap (λ xs. is.lines ++ xs) b, subst (λ r. LineFaultIs r kind at) here fault), omega (arith, counted, n))) is.known behind))
          refl is.printed (λ e. cc e) (λ which place kind e. cc e)

      -- memory was wanting before it was done
      undone : Served rack area choices first NoMemory input start held entry before pool
      undone = at_rest from past input rest start held before pool count is NoMemory (may_memory from) (refl, refl)
          (known_input input rest' _ _ (λ x z e. (line ∷ lines_of z, e))
          (known_on input rest rest' _ _ (λ all z. lines_of all ≡ is.lines ++ (line ∷ lines_of z)) (λ x y z a b. a ∙ ap (λ xs. is.lines ++ xs) b) is.known behind))
          (inl refl) is.printed (λ e. cc e) (λ which place kind e. cc e)

      -- it and those behind it
      rest_of : MatchOption input ⊤ (λ bytes. (rest : List (List ℕ)) × (lines_of bytes ≡ (is.lines ++ line ∷ []) ++ rest))
      rest_of = known_input input rest' _ _ (λ x z e. (lines_of z, e))
          (known_on input rest rest' _ _ _ (λ x y z a b. lines_more x y z is.lines line a b) is.known behind)

      module _ (after : List Entry) (now : OnShelf) (pool' : Option (Pool R A)) (tells : TellsAsBefore entry now) where
        -- its reply could not be put
        unput : (held' : Option (List ℕ)) → Cut rack area choices past after from line entry before pool is.reached now pool' held held' → Served rack area choices first SinkFault input start held' entry now pool'
        unput held' cut = record {
          lines = is.lines ++ line ∷ [];
          replies = is.replies ++ (cut.part ++ cut.said ∷ cut.rest) ∷ [];
          shown = all_said is.replies ++ (cut.part ++ cut.said ∷ []);
          mid = cut.placed.new;
          journal = after;
          last = cut.placed.new;
          broken = None;
          saids = [];
          desk = cut.placed.desk;
          to = cut.to;
          runs = more past after is.lines is.replies from is.reached line (cut.part ++ cut.said ∷ cut.rest) now pool' cut.to is.runs cut.placed tells;
          may = cut.ends;
          stopped = stops_so past after is.lines is.replies from is.reached line (cut.part ++ cut.said ∷ cut.rest) now pool' cut.to is.runs cut.placed tells;
          breaks = (refl, refl);
          ends = rest_of;
          shows = (
            cut.part,
            cut.said,
            cut.rest,
            record { front = is.replies; replies_are = ap (λ s. is.replies ++ s ∷ []) (sym (append_assoc cut.part (cut.said ∷ []) cut.rest)); shown_are = refl },
          );
          prints = record {
            front = all_said is.replies ++ cut.part;
            said = cut.said;
            mid = cut.mid;
            shown_are = sym (append_assoc (all_said is.replies) cut.part (cut.said ∷ []));
            whole = rw (texts_both (all_said is.replies) cut.part) (appends_more start held cut.mid _ _ is.printed cut.whole);
            part = cut.prints;
          };
          failed = λ e. absurd (cc e);
          since = λ e. absurd (cc e);
          bad = λ which place kind e. absurd (cc e);
          firm = λ rest. firm_so is.lines is.replies from (sits is.reached past) line (cut.part ++ cut.said ∷ cut.rest) before now pool pool' is.runs is.stands is.firm cut.firm;
        }

        -- memory was wanting for the text of its reply
        untold : (held' : Option (List ℕ)) → Untold rack area choices past after from line entry before pool is.reached now pool' held held' → Served rack area choices first NoMemory input start held' entry now pool'
        untold held' cut = record {
          lines = is.lines ++ line ∷ [];
          replies = is.replies ++ (cut.part ++ cut.said ∷ cut.rest) ∷ [];
          shown = all_said is.replies ++ cut.part;
          mid = cut.placed.new;
          journal = after;
          last = cut.placed.new;
          broken = None;
          saids = [];
          desk = cut.placed.desk;
          to = cut.to;
          runs = more past after is.lines is.replies from is.reached line (cut.part ++ cut.said ∷ cut.rest) now pool' cut.to is.runs cut.placed tells;
          may = cut.ends;
          stopped = stops_so past after is.lines is.replies from is.reached line (cut.part ++ cut.said ∷ cut.rest) now pool' cut.to is.runs cut.placed tells;
          breaks = (refl, refl);
          ends = rest_of;
          shows = inr (cut.part, cut.said, cut.rest, record { front = is.replies; replies_are = refl; shown_are = refl });
          prints = rw (texts_both (all_said is.replies) cut.part) (appends_more start held held' _ _ is.printed cut.prints);
          failed = λ e. absurd (cc e);
          since = λ e. absurd (cc e);
          bad = λ which place kind e. absurd (cc e);
          firm = λ rest. firm_so is.lines is.replies from (sits is.reached past) line (cut.part ++ cut.said ∷ cut.rest) before now pool pool' is.runs is.stands is.firm cut.firm;
        }

        -- a failing device ended a lane of the section that it ended
        stopped : (held' : Option (List ℕ)) → Printed rack area choices past after from line entry before pool is.reached now pool' held held' Ended → Served rack area choices first ShelfFault input start held' entry now pool'
        stopped held' it = record {
          lines = is.lines ++ line ∷ [];
          replies = is.replies ++ it.saids ∷ [];
          shown = all_said (is.replies ++ it.saids ∷ []);
          mid = it.placed.new;
          journal = after;
          last = it.placed.new;
          broken = None;
          saids = [];
          desk = it.placed.desk;
          to = Ended;
          runs = more past after is.lines is.replies from is.reached line it.saids now pool' Ended is.runs it.placed tells;
          may = tt;
          stopped = stops_so past after is.lines is.replies from is.reached line it.saids now pool' Ended is.runs it.placed tells;
          breaks = (refl, refl);
          ends = rest_of;
          shows = refl;
          prints = rw (texts_more is.replies it.saids) (appends_more start held held' _ _ is.printed it.prints);
          failed = λ e. inl (stopped_fault area entry now pool' is.reached it.placed.new (it.placed.stopped refl));
          since = λ e closed. absurd (stopped_open area pool' is.reached it.placed.new (it.placed.stopped refl) closed);
          bad = λ which place kind e. absurd (cc e);
          firm = λ rest. firm_so is.lines is.replies from (sits is.reached past) line it.saids before now pool pool' is.runs is.stands is.firm it.firm;
        }

        -- the shelf failed
        failed : from ≡ Outside → BrokenLine rack area ShelfFails line entry before is.reached now pool' → Served rack area choices first ShelfFault input start held entry now pool'
        failed outside at =
            let asked : line_behind is.lines line ≡ Ok at.command = ap (λ p. line_at p line) (is.stands ∙ outside) ∙ at.line in
            record {
              lines = is.lines;
              replies = is.replies;
              shown = all_said is.replies;
              mid = is.reached;
              journal = past;
              last = at.broken.new;
              broken = Some line;
              saids = [];
              desk = at.broken.desk;
              to = from;
              runs = is.runs;
              may = subst (λ p. MayEndAt p ShelfFault (Some line)) (sym outside) tt;
              stopped = λ e. absurd (is.goes_on e);
              breaks = record { command = at.command; line = asked; none = refl; breaks = at.broken.breaks };
              ends = taken;
              shows = refl;
              prints = is.printed;
              failed = λ e. fault_at rack area entry before now pool' later is.lines line at.command asked at.broken.new (cause_fault rack area at.command before now pool' is.reached at.broken.new at.broken.cause);
              since = λ e. fails_shut rack area line is.lines at.command is.reached at.broken.new entry before now pool' asked is.desk.shelf later is.unanswered at.broken.cause;
              bad = λ which place kind e. absurd (cc e);
              firm = λ rest. absurd (cc rest);
            }

        -- a record has a fault
        faulty : (which : RecordName) (place : ℕ) (kind : RecordFaultKind) → from ≡ Outside → BrokenLine rack area RecordFails line entry before is.reached now pool' → HoldsFault rack area before which place kind
            → Served rack area choices first (Record which place kind) input start held entry now pool'
        faulty which place kind outside at fault =
            record {
              lines = is.lines;
              replies = is.replies;
              shown = all_said is.replies;
              mid = is.reached;
              journal = past;
              last = at.broken.new;
              broken = Some line;
              saids = [];
              desk = at.broken.desk;
              to = from;
              runs = is.runs;
              may = subst (λ p. MayEndAt p (Record which place kind) (Some line)) (sym outside) tt;
              stopped = λ e. absurd (is.goes_on e);
              breaks = record { command = at.command; line = asked; none = refl; breaks = at.broken.breaks };
              ends = taken;
              shows = refl;
              prints = is.printed;
              failed = λ e. absurd (cc e);
              since = λ e. absurd (cc e);
              bad = λ n p k e. shut n p k e;
              firm = λ rest. absurd (cc rest);
            }
          where
            asked : line_behind is.lines line ≡ Ok at.command
            asked = ap (λ p. line_at p line) (is.stands ∙ outside) ∙ at.line

            shut : (n : RecordName) (p : ℕ) (k : RecordFaultKind) → Record which place kind ≡ Record n p k → FaultyShut rack area (Some line) is.lines is.reached entry n p k
            shut n p k e =
                let holds : HoldsFault rack area before n p k = subst (λ (s : Status). NamesFault before s) e fault in
                faulty_shut rack area line is.lines at.command is.reached at.broken.new entry before n p k asked is.desk.shelf later is.unanswered at.broken.breaks holds

        pub served_line : (held' : Option (List ℕ)) (to : Place) (status : Status) → LineIs rack area choices past after from (count + 1) line entry before pool is.reached now pool' held held' to (Err status)
            → Served rack area choices first status input start held' entry now pool'
        served_line held' to SinkFault became = unput held' became
        served_line held' to (Line number kind at) became =
            rw became.1 (rw became.2 (rw became.3 (unrun number kind at became.0 became.4)))
        served_line held' to NoMemory became = elim became [
          | inl same ↦ rw same.1 (rw same.2 (rw same.0 undone))
          | inr cut ↦ untold held' cut
        ]
        served_line held' to ShelfFault became = elim became [
          | inl it ↦ rw it.1 (failed it.0 it.2)
          | inr it ↦ stopped held' it
        ]
        served_line held' to (Record which place kind) became = rw became.1 (faulty which place kind became.0 became.2 became.3)
        served_line held' to Done became = absurd became
        served_line held' to Usage became = absurd became
        served_line held' to SourceFault became = absurd became
        served_line held' to (TooLong n) became = absurd became
