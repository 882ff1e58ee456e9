-- A run that nothing disturbs, and of which each line can be run, ends with its input.
use Rattle.std.proofs.Common.{arith, ◌≡◌, ◌≢◌, ◌∙◌, ◌<◌, ◌≤◌, ◌++◌, inl, inr, ℕ, Bool, true, false, List, [], ◌∷◌, Option, Some, None, Result, Ok, Err, refl, sym, ap, subst, length, length-append, take, take_all, All}
use Rattle.std.specs.Prelude.{slice_index_or}
use Rattle.std.specs.List.{before_first, position_or_len}
use Rattle.std.proofs.lemmas.Bool.{cases_lt}
use Rattle.draid_names.specs.declared.numbers.TheConstants.{LONGEST_LINE}
use Rattle.draid_rack.specs.declared.Rack as racks
use Rattle.draid_area.specs.declared.Area as areas
use Rattle.draid_lines.specs.Lines.{IsTooLong, is_end, lines_of}
use Rattle.draid_lines.proofs.Ends.{lines_first, lines_last, position-le}
use Rattle.draid_script.specs.Line.{Command, ImportPool}
use Rattle.draid_script.specs.declared.fault.LineFault.{LineFault}
use Rattle.draid_script.specs.declared.fault.LineFaultKind.{LineFaultKind}
use Rattle.draid_session.specs.Choices.{Choices}
use Rattle.draid_session.specs.Places.{Ended, Inside, IsInside, IsOutside, Outside, Place, line_behind, place_after}
use Rattle.draid_session.specs.Said.{Said}
use Rattle.draid_session.specs.Session.{Desk, Untouched, Bare, Made, Open, Shut, Foreign, Unknown, Breaks, BreaksGiven, RecordFails}
use Rattle.draid_session.specs.State.{State}
use Rattle.draid_run.specs.Ending.{CanRun, EndsWell, IsTaken, IsUndisturbed, IsUntold}
use Rattle.draid_words.specs.Mode.{asked}
use Rattle.draid_run.specs.Script.{BreaksOff, Ends, IsSession, LineFaultIs, Prints, RunsFrom}
use Rattle.draid_pool.specs.Shelves.{OnShelf}
use Rattle.draid_exits.specs.Status.{last_text}
use Rattle.draid_exits.specs.declared.status.Status.{Status}
use Rattle.draid_exits.specs.declared.status.Status.TheVariants.{Done, Usage, Line, SourceFault, SinkFault, NoMemory, TooLong, ShelfFault, Record}

-- ---- lines

at_front : (front : List (List ℕ)) (line : List ℕ) (rest : List (List ℕ)) (d : List ℕ) → slice_index_or (front ++ line ∷ rest) (length front) d ≡ line
at_front [] line rest d = refl
at_front (first ∷ front) line rest d = at_front front line rest d

-- what holds of all lines holds of one of them
all_here : (P : List ℕ → Type 0) (all front : List (List ℕ)) (line : List ℕ) (rest : List (List ℕ)) → all ≡ front ++ line ∷ rest → All P all → P line
all_here P all front line rest is holds =
    let longer = length-append front (line ∷ rest) in
    let many : length all ≡ length (front ++ line ∷ rest) = ap (λ xs. length xs) is in
    let there : P (slice_index_or all (length front) line) = holds (length front) line (omega (arith, longer, many)) in
    subst P (ap (λ xs. slice_index_or xs (length front) line) is ∙ at_front front line rest line) there

-- the first line of bytes
pub record HasFirst (bytes : List ℕ) : Type 0 where
  pub rest : List (List ℕ)
  pub is : lines_of bytes ≡ before_first is_end bytes ∷ rest

first_of : (bytes : List ℕ) → bytes ≢ [] → HasFirst bytes
first_of bytes some = elim (cases_lt (position_or_len is_end bytes) (length bytes)) [
  | inl inside ↦ record { rest = _; is = lines_first bytes inside }
  | inr past ↦
      let low = position-le bytes in
      let whole : position_or_len is_end bytes ≡ length bytes = omega (arith, low, past) in
      record { rest = []; is = lines_last bytes whole some ∙ ap (λ line. line ∷ []) (sym (whole_line bytes whole)) }
]
  where
    whole_line : (bytes : List ℕ) → position_or_len is_end bytes ≡ length bytes → before_first is_end bytes ≡ bytes
    whole_line bytes whole = ap (λ n. take n bytes) whole ∙ take_all (length bytes) bytes (omega arith)

not_long : (input : List ℕ) (lines : List (List ℕ)) (rest : List ℕ) → CanRun input → lines_of input ≡ lines ++ lines_of rest → IsTooLong (length lines) rest → ⊥
not_long input lines rest can is (inl long) =
    let some : rest ≢ [] = λ none. (let none_long = subst (λ bytes. LONGEST_LINE < length (before_first is_end bytes)) none long in omega (arith, none_long)) in
    let first = first_of rest some in
    let short = all_here (λ line. length line ≤ LONGEST_LINE) (lines_of input) lines (before_first is_end rest) first.rest (is ∙ ap (λ xs. lines ++ xs) first.is) can.short in
    omega (arith, long, short)
not_long input lines rest can is (inr full) =
    let first = first_of rest full.1 in
    let longer = length-append lines (lines_of rest) in
    let all : length (lines_of input) ≡ length (lines ++ lines_of rest) = ap (λ xs. length xs) is in
    let one : length (lines_of rest) ≡ length (before_first is_end rest ∷ first.rest) = ap (λ xs. length xs) first.is in
    let few = can.few in
    let many = full.0 in
    omega (arith, longer, all, one, few, many)

not_taken : (line : Result Command LineFault) (kind : LineFaultKind) (at : ℕ) → IsTaken line → LineFaultIs line kind at → ⊥
not_taken (Ok command) kind at taken fault = fault
not_taken (Err other) kind at taken fault = taken

not_both : (place : Place) → IsInside place → IsOutside place → ⊥
not_both Outside inside outside = inside
not_both (Inside lanes) inside outside = outside
not_both Ended inside outside = inside

-- ---- records

told_given : (b : Bool) (x : State) (last : Desk) → BreaksGiven b RecordFails x last → b ≡ false
told_given true x last breaks = absurd breaks
told_given false x last breaks = refl

untold_by : (mid last : Desk) (command : Command) → Breaks RecordFails mid command last → IsUntold mid
untold_by Untouched last command breaks = tt
untold_by Unknown last command breaks = tt
untold_by Bare last ImportPool breaks = absurd breaks
untold_by Bare last command breaks = absurd breaks
untold_by (Made true failed geometry) last ImportPool breaks = absurd breaks
untold_by (Made true failed geometry) last command breaks = absurd breaks
untold_by (Made false failed geometry) last command breaks = refl
untold_by (Shut crash x) last ImportPool breaks = told_given x.told x last breaks
untold_by (Shut crash x) last command breaks = absurd breaks
untold_by (Open x) last command breaks = absurd breaks
untold_by (Foreign known) last command breaks = absurd breaks

-- ---- the run

meant_is : (status ended : Status) (text : List ℕ) (old new : Option (List ℕ)) → status ≢ SinkFault → Prints status ended text old new → ended ≡ status
meant_is SinkFault ended text old new sink prints = absurd (sink refl)
meant_is status ended text old new sink prints = sym prints.0

module _ {R A : Type 0} (rack : racks.Ghosts R) (area : areas.Ghosts A) (choices : Choices) (words : List (List ℕ)) (input : List ℕ) (session : IsSession words) (can : CanRun input) where
  by_end : (ended : Status) (broken : Option (List ℕ)) (lines : List (List ℕ)) (saids : List Said) (mid last : Desk) → IsUndisturbed ended → (ended ≡ Usage → asked words ≡ None) → BreaksOff lines ended broken saids mid last → Ends ended broken lines input → EndsWell ended mid
  by_end Done broken lines saids mid last quiet usage breaks ends = tt
  by_end Usage broken lines saids mid last quiet usage breaks ends = (let none = usage refl in let some = session.1 in absurd (cc (none, some)))
  by_end (Line line kind at) broken lines saids mid last quiet usage breaks ends =
      elim ends.0 [ inl bad ↦ not_taken (line_behind lines bad.0) kind at (can.taken lines bad.0 bad.1 bad.2) bad.3 | inr inside ↦ absurd (not_both (place_after Outside lines) inside.1 (subst (λ ls. IsOutside (place_after Outside ls)) inside.0 can.outside)) ]
  by_end (TooLong line) broken lines saids mid last quiet usage breaks ends = not_long input lines ends.0 can ends.1 ends.2
  by_end SourceFault broken lines saids mid last quiet usage breaks ends = quiet.source refl
  by_end SinkFault broken lines saids mid last quiet usage breaks ends = quiet.sink refl
  by_end NoMemory broken lines saids mid last quiet usage breaks ends = quiet.memory refl
  by_end ShelfFault broken lines saids mid last quiet usage breaks ends = quiet.shelf refl
  by_end (Record which place kind) None lines saids mid last quiet usage breaks ends = absurd breaks
  by_end (Record which place kind) (Some text) lines saids mid last quiet usage breaks ends = untold_by mid last breaks.command breaks.breaks

  pub ends_well : (status : Status) (old new : Option (List ℕ)) (entry now : OnShelf) (first : Desk) → (it : RunsFrom rack area choices words status (Some input) old new entry now first) → IsUndisturbed status → EndsWell status it.session.mid
  ends_well status old new entry now first it quiet =
      let s = it.session in
      let same : s.ended ≡ status = meant_is status s.ended (last_text s.ended) it.script.prints.between new quiet.sink it.script.prints.last in
      subst (λ e. EndsWell e s.mid) same (by_end s.ended s.broken s.lines s.saids s.mid it.last (subst IsUndisturbed (sym same) quiet) it.script.usage s.breaks s.ends)
