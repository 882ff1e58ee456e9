-- What a workload comes to: how it ends by the end of the session on its script.
use Rattle.std.proofs.Common.{◌≡◌, ◌∙◌, ◌⊎◌, inl, inr, refl, sym, subst, ℕ, List, [], Option, Some, None, Result, Ok, IfOk, Global, ap, arith, true}
use Rattle.std.specs.Prelude.{String, is_some, option_map, string_bytes}
use Rattle.draid_rack.specs.declared.Rack as racks
use Rattle.draid_area.specs.declared.Area as areas
use Rattle.draid_gen.specs.Workload.{script_of}
use Rattle.draid_lines.specs.Lines.{lines_of}
use Rattle.draid_machine.proofs.Small.{some_injective}
use Rattle.draid_names.specs.Faults.{Rose}
use Rattle.draid_pool.specs.Shelves.{OnShelf}
use Rattle.draid_session.specs.Choices.{Choices}
use Rattle.draid_session.specs.Looks.{AllOf}
use Rattle.draid_session.specs.Session.{Desk, KnowsShelf}
use Rattle.draid_session.specs.Staying.{MakesNoPool}
use Rattle.draid_summary.specs.Summary.{summary_of}
use Rattle.draid_words.specs.Mode.{Asked, OfSession, OfWorkload, asked, asked_in}
use Rattle.draid_words.specs.declared.mode.Mode.{Mode}
use Rattle.draid_words.specs.declared.mode.Mode.TheVariants.{Session, Workload}
use Rattle.draid_words.specs.declared.mode.WordsFault.{WordsFault}
use Rattle.draid_words.proofs.Samples.{memory}
use Rattle.draid_run.specs.Script.{EndsWithLine, IsRefused, IsSession, PrintsWorkload, RunIs, RunsFrom, SessionIs, input_asked, input_of, session_words}
use Rattle.draid_run.specs.Shelves.{HoldsDesk}
use Rattle.draid_exits.specs.Status.{last_text}
use Rattle.draid_run.specs.Unfailing.{NothingRose}
use Rattle.draid_exits.specs.declared.status.Status.{Status}
use Rattle.draid_exits.specs.declared.status.Status.TheVariants.{Done, Usage, Line, SourceFault, SinkFault, NoMemory, TooLong, ShelfFault, Record}
use Rattle.draid_run.proofs.Ran.{of_ok}
use Rattle.draid_run.proofs.Unfailing.{meant_shelf, unfailing}

-- a last line is that of a failing shelf only where it is meant
line_shelf : (ended status : Status) (old new : Option (List ℕ)) → EndsWithLine ended status old new → status ≡ ShelfFault → ended ≡ ShelfFault
line_shelf ended status old new line is =
    let meant = meant_shelf status line.meant (last_text line.meant) old new line.prints is in
    elim line.is [ inl same ↦ sym same ∙ meant | inr none ↦ (let other = sym none.0 ∙ meant in absurd (cc other)) ]

not_wanting : NoMemory ≡ ShelfFault → ⊥
not_wanting is = cc is

-- so of a workload: its session ended for it
workload_shelf : (ended : Status) (number : ℕ) (replied : List ℕ) (status : Status) (old new : Option (List ℕ)) → PrintsWorkload ended number replied status old new → status ≡ ShelfFault → ended ≡ ShelfFault
workload_shelf Done number replied status old new (inl prints) is = meant_shelf status Done (summary_of number replied) old new prints is
workload_shelf Done number replied status old new (inr line) is = absurd (not_wanting (line_shelf NoMemory status old new line is))
workload_shelf SinkFault number replied status old new line is = absurd (not_wanting (line_shelf NoMemory status old new line is))
workload_shelf Usage number replied status old new line is = line_shelf Usage status old new line is
workload_shelf (Line at why place) number replied status old new line is = line_shelf (Line at why place) status old new line is
workload_shelf SourceFault number replied status old new line is = line_shelf SourceFault status old new line is
workload_shelf NoMemory number replied status old new line is = line_shelf NoMemory status old new line is
workload_shelf (TooLong at) number replied status old new line is = line_shelf (TooLong at) status old new line is
workload_shelf ShelfFault number replied status old new line is = refl
workload_shelf (Record which place kind) number replied status old new line is = line_shelf (Record which place kind) status old new line is

-- the input of a session is what the source gives
given_is : (words : List (List ℕ)) (given : Option (List ℕ)) (input : List ℕ) → input_of words given ≡ Some input → ((given ≡ Some input) ⊎ (IsSession words → ⊥))
given_is words given input is = by (asked words) refl is
  where
    by : (o : Option Asked) → asked words ≡ o → input_asked (asked words) given ≡ Some input → (given ≡ Some input) ⊎ (IsSession words → ⊥)
    by None asks is = inl (subst (λ a. input_asked a given ≡ Some input) asks is)
    by (Some (OfSession dir)) asks is = inl (subst (λ a. input_asked a given ≡ Some input) asks is)
    by (Some (OfWorkload number)) asks is = inr (λ session. (let some = session.1 in absurd (cc (asks, some))))

-- that of a workload is its script
script_is : (words : List (List ℕ)) (given : Option (List ℕ)) (input : List ℕ) (number : ℕ) → asked words ≡ Some (OfWorkload number) → input_of words given ≡ Some input → script_of number ≡ input
script_is words given input number asks is = some_injective (script_of number) input (subst (λ a. input_asked a given ≡ Some input) asks is)

-- a session for which the words don't ask doesn't end so
refused_not : (ended : Status) (lines : List (List ℕ)) → IsRefused ended lines → ended ≡ ShelfFault → ⊥
refused_not ended lines refused is = elim refused.cause [ inl usage ↦ (let other = sym usage ∙ is in cc other) | inr wanting ↦ (let other = sym wanting ∙ is in cc other) ]

pub run_unfailing : {R A : Type 0} (rack : racks.Ghosts R) (area : areas.Ghosts A) (choices : Choices) (words : List (List ℕ)) (status : Status) (given : Option (List ℕ)) (input : List ℕ) (old new : Option (List ℕ)) (entry now : OnShelf) (first : Desk)
    → RunIs rack area choices words status given old new entry now → input_of words given ≡ Some input → HoldsDesk first entry entry → is_some entry.held ≡ true → KnowsShelf first → AllOf MakesNoPool (lines_of input)
    → NothingRose entry now → status ≡ ShelfFault → ⊥
run_unfailing rack area choices words status given input old new entry now first (inl run) same at tells known makes none is =
    let it = run first at in
    elim (given_is words given input same) [
      | inl known_input ↦ unfailing rack area choices words status input old new entry now first (subst (λ g. RunsFrom rack area choices words status g old new entry now first) known_input it) at tells known makes none is
      | inr wrong ↦ refused_not it.session.ended it.session.lines (it.script.refused wrong) (meant_shelf status it.session.ended _ it.script.prints.between new it.script.prints.last is)
    ]
run_unfailing rack area choices words status given input old new entry now first (inr run) same at tells known makes none is =
    let script = script_is words given input run.number run.asks same in
    unfailing rack area choices session_words run.ended (script_of run.number) (Some []) (Some run.replied) entry now first (run.does first at) at tells known (subst (λ i. AllOf MakesNoPool (lines_of i)) (sym script) makes) none
    (workload_shelf run.ended run.number run.replied status old new run.prints is)

-- ---- the run

-- the words of a session ask for one
pub asks_session : IsSession session_words
asks_session = (None, memory)

-- a session on the script of a number, whose sink had got nothing and then held what was replied, and what was printed of that
pub workload_is : {R A : Type 0} (rack : racks.Ghosts R) (area : areas.Ghosts A) (choices : Choices) (number : ℕ) (ended : Status) (words : List (List ℕ)) (status : Status) (given old new : Option (List ℕ)) (entry now : OnShelf)
    (script nothing held replied : List ℕ) → asked words ≡ Some (OfWorkload number) → script ≡ script_of number → nothing ≡ [] → replied ≡ held
    → SessionIs rack area choices session_words ended (Some script) (Some nothing) (Some held) entry now → PrintsWorkload ended number replied status old new → RunIs rack area choices words status given old new entry now
workload_is rack area choices number ended words status given old new entry now script nothing held replied asks script_same none same does prints = inr (record {
  number = number;
  asks = asks;
  ended = ended;
  replied = held;
  does = subst (λ text. SessionIs rack area choices session_words ended (Some text) (Some []) (Some held) entry now) script_same
      (subst (λ before. SessionIs rack area choices session_words ended (Some script) (Some before) (Some held) entry now) none does);
  prints = subst (λ bytes. PrintsWorkload ended number bytes status old new) same prints;
})

-- what words ask for, as they were read
pub asked_as : (words : List (List ℕ)) (result : Result Mode WordsFault) (mode : Mode) → IfOk result (λ m. asked words ≡ Some (asked_in m)) → result ≡ Ok mode → asked words ≡ Some (asked_in mode)
asked_as words result mode says is = of_ok result mode (λ m. asked words ≡ Some (asked_in m)) is says

-- the input of a session, and of a workload
pub session_input : (words : List (List ℕ)) (given : Option (List ℕ)) (dir : Option (List ℕ)) → asked words ≡ Some (OfSession dir) → given ≡ input_of words given
session_input words given dir asks = rw asks refl

pub workload_input : (words : List (List ℕ)) (given : Option (List ℕ)) (number : ℕ) → asked words ≡ Some (OfWorkload number) → Some (script_of number) ≡ input_of words given
workload_input words given number asks = rw asks refl

-- the words ask for no session
pub workload_none : (words : List (List ℕ)) (number : ℕ) → asked words ≡ Some (OfWorkload number) → IsSession words → ⊥
workload_none words number asks session = (let some = session.1 in cc (asks, some))

pub none_none : (words : List (List ℕ)) → asked words ≡ None → IsSession words → ⊥
none_none words asks session = (let some = session.1 in cc (asks, some))

-- the words ask for a session
pub session_asked : (words : List (List ℕ)) (result : Result Mode WordsFault) (mode : Mode) (dir : Option (String Global)) → IfOk result (λ m. asked words ≡ Some (asked_in m)) → result ≡ Ok mode → mode ≡ Session dir → IsSession words
session_asked words result mode dir says is kind = (option_map string_bytes dir, asked_as words result mode says is ∙ ap (λ m. Some (asked_in m)) kind)

-- or for a workload
pub workload_asked : (words : List (List ℕ)) (result : Result Mode WordsFault) (mode : Mode) (number : ℕ) → IfOk result (λ m. asked words ≡ Some (asked_in m)) → result ≡ Ok mode → mode ≡ Workload number → asked words ≡ Some (OfWorkload number)
workload_asked words result mode number says is kind = asked_as words result mode says is ∙ ap (λ m. Some (asked_in m)) kind

-- a count that stays doesn't rise
pub still_none : Rose 0 0 → ⊥
still_none rose = omega (arith, rose)

-- a session that ended neither with its script nor for its sink
pub prints_other : (ended : Status) (number : ℕ) (replied : List ℕ) (status : Status) (old new : Option (List ℕ)) → (ended ≡ Done → ⊥) → (ended ≡ SinkFault → ⊥) → EndsWithLine ended status old new → PrintsWorkload ended number replied status old new
prints_other Done number replied status old new done sink line = absurd (done refl)
prints_other SinkFault number replied status old new done sink line = absurd (sink refl)
prints_other Usage number replied status old new done sink line = line
prints_other (Line at why place) number replied status old new done sink line = line
prints_other SourceFault number replied status old new done sink line = line
prints_other NoMemory number replied status old new done sink line = line
prints_other (TooLong at) number replied status old new done sink line = line
prints_other ShelfFault number replied status old new done sink line = line
prints_other (Record which place kind) number replied status old new done sink line = line
