-- The program's ends in words of the book, and by its exit status.
use Rattle.std.proofs.Common.{◌≡◌, ◌∙◌, inl, inr, refl, sym, ap, subst, ℕ, List, [], Option, Some, None, Result, Ok, IfOk, Global}
use Rattle.std.specs.Prelude.{⊤, MatchOption, String, string_bytes}
use Rattle.std.specs.declared.process.ExitCode.{ExitCode}
use Rattle.draid_rack.specs.declared.Rack as racks
use Rattle.draid_area.specs.declared.Area as areas
use Rattle.draid_lines.specs.Lines.{lines_of}
use Rattle.draid_words.specs.Mode.{asked, asked_in}
use Rattle.draid_words.specs.declared.mode.Mode.{Mode}
use Rattle.draid_words.specs.declared.mode.Mode.TheVariants.{Session}
use Rattle.draid_words.specs.declared.mode.WordsFault.{WordsFault}
use Rattle.draid_session.specs.Book.{blank, closed}
use Rattle.draid_session.specs.Choices.{Choices}
use Rattle.draid_session.specs.Places.{Outside}
use Rattle.draid_pool.specs.Shelves.{OnShelf}
use Rattle.draid_run.specs.Script.{EndsWithLine, Ends, Prints}
use Rattle.draid_run.specs.Shelves.{HoldsBare}
use Rattle.draid_exits.specs.Status.{code_of, last_text}
use Rattle.draid_exits.specs.declared.status.Status.{Status}
use Rattle.draid_exits.specs.declared.status.Status.TheVariants.{Done, Usage, Line, SourceFault, SinkFault, NoMemory, TooLong, ShelfFault, Record}
use Rattle.draid_run.proofs.Booked.{bare_keeps}
use Rattle.draid_print.proofs.Appending.{appends_none}
use Rattle.draid_program.specs.Program.{EndsBy, EndsByBook, EndsByRun, NamesFolder}

-- a run over a shelf without a pool begins with a blank book
pub by_book : {R A : Type 0} (rack : racks.Ghosts R) (area : areas.Ghosts A) (choices : Choices) (words : List (List ℕ)) (exit : ExitCode) (input old new : Option (List ℕ)) (entry now : OnShelf)
    → EndsByRun rack area choices words exit input old new entry now → HoldsBare entry → EndsByBook words exit input old new
by_book rack area choices words exit input old new entry now it bare =
    let kept = bare_keeps rack area choices words it.status input old new entry now it.run bare in
    record { status = it.status; exits = it.exits; book = kept.0; keeps = kept.1 }

-- one whose words can't be read for want of memory leaves it blank
pub starved_book : (words : List (List ℕ)) (exit : ExitCode) (input old new : Option (List ℕ)) → EndsBy NoMemory exit old new → EndsByBook words exit input old new
starved_book words exit input old new it = record {
  status = it.status;
  exits = it.exits;
  book = closed blank;
  keeps = inl (record {
    lines = [];
    replies = [];
    shown = [];
    ended = NoMemory;
    broken = None;
    saids = [];
    to = Outside;
    answers = record { mid = blank; last = blank; answers = (refl, refl); ends = (refl, refl); made = refl };
    may = tt;
    broke = tt;
    ends = nothing input;
    shows = inl refl;
    script = record {
      usage = λ e. absurd (cc e);
      refused = λ wrong. record { nothing = refl; cause = inr refl };
      prints = record { between = old; replies = appends_none old; last = last_line it.line };
    };
  });
}
  where
    nothing : (known : Option (List ℕ)) → MatchOption known ⊤ (Ends NoMemory None [])
    nothing None = tt
    nothing (Some bytes) = (lines_of bytes, refl)

    last_line : EndsWithLine NoMemory it.status old new → Prints it.status NoMemory (last_text NoMemory) old new
    last_line line = subst (λ m. Prints it.status m (last_text m) old new) (elim line.is [ inl same ↦ same | inr wrong ↦ wrong.0 ]) line.prints

-- ---- exit statuses

-- only a run that is done exits with 0
pub done_code : (status : Status) → code_of status ≡ 0 → status ≡ Done
done_code Done is = refl
done_code Usage is = absurd (cc is)
done_code (Line line why at) is = absurd (cc is)
done_code SourceFault is = absurd (cc is)
done_code SinkFault is = absurd (cc is)
done_code NoMemory is = absurd (cc is)
done_code (TooLong line) is = absurd (cc is)
done_code ShelfFault is = absurd (cc is)
done_code (Record which at kind) is = absurd (cc is)

-- ---- folders

-- words that were read ask for this folder
pub named_in : (words : List (List ℕ)) (result : Result Mode WordsFault) (mode : Mode) (dir : Option (String Global)) (path : String Global) → IfOk result (λ m. asked words ≡ Some (asked_in m)) → result ≡ Ok mode
    → mode ≡ Session dir → dir ≡ Some path → NamesFolder words (string_bytes path)
named_in words result mode dir path says is kind some = subst (λ (o : Result Mode WordsFault). IfOk o (λ m. asked words ≡ Some (asked_in m))) (is ∙ ap Ok (kind ∙ ap (λ (d : Option (String Global)). Session d) some)) says

-- words name one folder
pub one_folder : (words : List (List ℕ)) (a b : List ℕ) → NamesFolder words a → NamesFolder words b → a ≡ b
one_folder words a b first second = (let same = sym first ∙ second in cc same)
