-- Each run is answered as a book beside a checkpoint has it, and so are runs one after another.
use Rattle.std.proofs.Common.{◌≡◌, ◌∙◌, refl, sym, ap, subst, ℕ, Bool, true, false, List, [], ◌∷◌, Option, Some, None, inl, inr}
use Rattle.std.specs.Prelude.{is_some}
use Rattle.draid_rack.specs.declared.Rack as racks
use Rattle.draid_area.specs.declared.Area as areas
use Rattle.draid_script.specs.Grammar.{line_of}
use Rattle.draid_session.specs.Choices.{Choices}
use Rattle.draid_session.specs.Book.{blank}
use Rattle.draid_session.specs.Marked.{Marked, unmarked}
use Rattle.draid_session.specs.Places.{Outside, line_at, line_behind}
use Rattle.draid_session.specs.Said.{Said}
use Rattle.draid_session.specs.Session.{Agrees, Bare, Desk, Made, Open, RecordFails, ShelfFails, Shut, left_of, sits}
use Rattle.draid_session.specs.Sections.{RunsOn}
use Rattle.draid_session.proofs.Turning.{no_record_fails}
use Rattle.draid_gen.specs.Workload.{script_of}
use Rattle.draid_marked.specs.Ending.{shut_up}
use Rattle.draid_marked.specs.Keeping.{KeepsMarked}
use Rattle.draid_marked.specs.Sections.{EndsMarkedAt, MarkedBreaksAt}
use Rattle.draid_marked.proofs.Ended.{breaks_ends, left_keeps}
use Rattle.draid_marked.proofs.Running.{AllOn, runs_on}
use Rattle.draid_marked.proofs.Turning.{blank_marked}
use Rattle.draid_run.specs.Books.{AreRuns, BrokeAt, OneRun}
use Rattle.draid_run.specs.BooksMarked.{KeepMarked, KeepsMarkedBook, SessionKeepsMarked}
use Rattle.draid_run.specs.Next.{next_desk}
use Rattle.draid_run.specs.Script.{BreaksAt, BreaksOff, MayEndAt, RunIs, RunsFrom, session_words}
use Rattle.draid_pool.specs.Shelves.{OnShelf}
use Rattle.draid_run.specs.Shelves.{HoldsBare, HoldsDesk, MayFind}
use Rattle.draid_exits.specs.declared.status.Status.{Status}
use Rattle.draid_exits.specs.declared.status.Status.TheVariants.{NoMemory, ShelfFault, Record}
use Rattle.draid_run.proofs.Booked.{bare_tells, holds_left, left_agrees}
use Rattle.draid_run.proofs.Next.{desk_found, tells_found}
use Rattle.draid_run.proofs.Places.{broken_outside, led_on}
use Rattle.draid_run.proofs.Serving.{as_found}

-- ---- a run breaks off

-- a book at the end of a run, before the pool is given back
record EndsAt (ended : Status) (broken : Option (List ℕ)) (saids : List Said) (m : Marked) (last : Desk) : Type 0 where
  pub book : Marked
  pub ends : EndsMarkedAt broken m saids book
  pub broke : BrokeAt ended broken
  pub keeps : KeepsMarked last book

shelf_breaks : (lines : List (List ℕ)) (text : List ℕ) (saids : List Said) (mid last : Desk) (m : Marked) → line_of text ≡ line_behind lines text → KeepsMarked mid m → Agrees true last → BreaksAt ShelfFails lines text saids mid last
    → EndsAt ShelfFault (Some text) saids m last
shelf_breaks lines text saids mid last m asked keeps agrees it =
    let ends = breaks_ends ShelfFails mid last m it.command keeps it.breaks agrees in
    record { book = ends.last; ends = subst (λ line. MarkedBreaksAt line m saids ends.last) (sym (asked ∙ it.line)) (it.none, ends.breaks); broke = tt; keeps = ends.keeps }

no_record : (lines : List (List ℕ)) (text : List ℕ) (saids : List Said) (mid last : Desk) (m : Marked) → KeepsMarked mid m → BreaksAt RecordFails lines text saids mid last → ⊥
no_record lines text saids mid last m keeps it = no_record_fails mid last m.book it.command keeps.book it.breaks

goes_through : (lines : List (List ℕ)) (ended : Status) (saids : List Said) (mid last : Desk) (m : Marked) → KeepsMarked mid m → BrokeAt ended None → saids ≡ [] → last ≡ mid → EndsAt ended None saids m last
goes_through lines ended saids mid last m keeps broke none same = record { book = m; ends = (none, refl); broke = broke; keeps = subst (λ desk. KeepsMarked desk m) (sym same) keeps }

ends_at : (lines : List (List ℕ)) (ended : Status) (broken : Option (List ℕ)) (saids : List Said) (mid last : Desk) (m : Marked) → ((text : List ℕ) → broken ≡ Some text → line_of text ≡ line_behind lines text) → KeepsMarked mid m
    → Agrees true last → BreaksOff lines ended broken saids mid last → EndsAt ended broken saids m last
ends_at lines ShelfFault None saids mid last m asked keeps agrees off = goes_through lines ShelfFault saids mid last m keeps tt off.0 off.1
ends_at lines ShelfFault (Some text) saids mid last m asked keeps agrees off = shelf_breaks lines text saids mid last m (asked text refl) keeps agrees off
ends_at lines (Record which at kind) None saids mid last m asked keeps agrees off = absurd off
ends_at lines (Record which at kind) (Some text) saids mid last m asked keeps agrees off = absurd (no_record lines text saids mid last m keeps off)
ends_at lines NoMemory (Some text) saids mid last m asked keeps agrees off = absurd (no_record lines text saids mid last m keeps off)
ends_at lines ended None saids mid last m asked keeps agrees off = goes_through lines ended saids mid last m keeps tt off.0 off.1
ends_at lines ended (Some text) saids mid last m asked keeps agrees off = absurd off

-- ---- desks of the next run

next_keeps : (crash : Bool) (desk : Desk) (m : Marked) → KeepsMarked (left_of desk) m → KeepsMarked (next_desk crash desk) m
next_keeps crash Bare m keeps = keeps
next_keeps crash (Made told failed geometry) m keeps = keeps
next_keeps crash (Open x) m keeps = record { book = keeps.book; marks = keeps.marks }
next_keeps true (Shut crashed x) m keeps = record { book = keeps.book; marks = keeps.marks }
next_keeps false (Shut crashed x) m keeps = record { book = keeps.book; marks = keeps.marks }
next_keeps crash desk m keeps = absurd keeps.book

module _ {R A : Type 0} (rack : racks.Ghosts R) (area : areas.Ghosts A) (choices : Choices) where
  -- ---- one run

  -- what a run leaves on its shelf
  record Leaves (shelf : OnShelf) (m : Marked) : Type 0 where
    pub last : Desk
    pub entry : OnShelf
    pub holds : HoldsDesk (left_of last) entry shelf
    pub tells : is_some shelf.held ≡ true
    pub keeps : KeepsMarked (left_of last) m

  session_keeps : (words : List (List ℕ)) (status : Status) (input old new : Option (List ℕ)) (entry now : OnShelf) (first : Desk) (m : Marked)
      → RunsFrom rack area choices words status input old new entry now first → is_some entry.held ≡ true → KeepsMarked first m
      → (later : Marked) × SessionKeepsMarked words status input old new m later × Leaves now later
  session_keeps words status input old new entry now first m it tells keeps = (
    shut_up ends.book,
    record {
      lines = it.session.lines;
      replies = it.session.replies;
      shown = it.session.shown;
      ended = it.session.ended;
      broken = it.session.broken;
      saids = it.session.saids;
      to = it.session.to;
      answers = record { mid = all.later; last = ends.book; answers = all.answers; ends = ends.ends; made = refl };
      may = it.session.may;
      broke = ends.broke;
      ends = it.session.ends;
      shows = it.session.shows;
      script = it.script;
    },
    record { last = it.last; entry = entry; holds = it.shelf; tells = now_tells; keeps = left_keeps it.last ends.book ends.keeps },
  )
    where
      now_tells : is_some now.held ≡ true
      now_tells = it.tells ∙ tells

      all : AllOn choices (MayFind rack area entry) m Outside it.session.lines it.session.replies it.session.to it.session.mid
      all = runs_on choices (MayFind rack area entry) it.session.lines it.session.replies it.session.to (sits first []) (sits it.session.mid it.session.journal) m keeps
          (subst (λ t. RunsOn choices (MayFind rack area entry) t Outside (sits first []) it.session.lines it.session.replies it.session.to (sits it.session.mid it.session.journal)) tells it.session.runs)

      -- it breaks off outside a section alone
      asked : (text : List ℕ) → it.session.broken ≡ Some text → line_of text ≡ line_behind it.session.lines text
      asked text is =
          let outside = broken_outside it.session.to it.session.ended text (subst (MayEndAt it.session.to it.session.ended) is it.session.may) in
          let led = led_on choices (MayFind rack area entry) (is_some entry.held) Outside (sits first []) it.session.lines it.session.replies it.session.to (sits it.session.mid it.session.journal) (λ ended. (let e = sym outside ∙ ended in cc e)) it.session.runs in
          ap (λ p. line_at p text) (sym outside ∙ led)

      ends : EndsAt it.session.ended it.session.broken it.session.saids all.later it.last
      ends = ends_at it.session.lines it.session.ended it.session.broken it.session.saids it.session.mid it.last all.later asked all.keeps (left_agrees it.last entry now it.shelf now_tells) it.session.breaks

  -- so does a workload, by the session on its script
  run_keeps : (words : List (List ℕ)) (status : Status) (input old new : Option (List ℕ)) (entry now : OnShelf) (first : Desk) (m : Marked)
      → RunIs rack area choices words status input old new entry now → HoldsDesk first entry entry → is_some entry.held ≡ true → KeepsMarked first m
      → (later : Marked) × KeepsMarkedBook words status input old new m later × Leaves now later
  run_keeps words status input old new entry now first m (inl is) holds tells keeps =
      let one = session_keeps words status input old new entry now first m (is first holds) tells keeps in
      (one.0, inl one.1, one.2)
  run_keeps words status input old new entry now first m (inr is) holds tells keeps =
      let one = session_keeps session_words is.ended (Some (script_of is.number)) (Some []) (Some is.replied) entry now first m (is.does first holds) tells keeps in
      (one.0, inr (record { number = is.number; asks = is.asks; ended = is.ended; replied = is.replied; does = one.1; prints = is.prints }), one.2)

  -- ---- several runs

  more_keep : (runs : List OneRun) (shelf : OnShelf) (m : Marked) → Leaves shelf m → AreRuns rack area choices shelf runs → (later : Marked) × KeepMarked m runs later
  more_keep [] shelf m left are = (m, refl)
  more_keep (run ∷ runs) shelf m left (found, is, more) =
      let first = next_desk run.crash left.last in
      let holds : HoldsDesk first run.entry run.entry = desk_found run.crash left.last left.entry shelf run.entry found left.holds in
      let tells = tells_found run.crash shelf shelf run.entry found refl in
      let keeps = next_keeps run.crash left.last m left.keeps in
      let one = run_keeps run.words run.status run.input run.old run.new run.entry run.now first m is holds (tells ∙ left.tells) keeps in
      let rest = more_keep runs run.now one.0 one.2 more in
      (rest.0, (one.0, one.1, rest.1))

  pub runs_keep_marked : (runs : List OneRun) (shelf : OnShelf) (desk : Desk) (m : Marked) → AreRuns rack area choices shelf runs → HoldsDesk desk shelf shelf
      → is_some shelf.held ≡ true → KeepsMarked desk m
      → (later : Marked) × KeepMarked m runs later
  runs_keep_marked runs shelf desk m are holds tells keeps =
      let same = holds_left desk shelf holds in
      let left : Leaves shelf m = record {
        last = desk;
        entry = shelf;
        holds = subst (λ d. HoldsDesk d shelf shelf) (sym same) holds;
        tells = tells;
        keeps = subst (λ d. KeepsMarked d m) (sym same) keeps;
      } in
      more_keep runs shelf m left are

  pub bare_keeps_marked : (words : List (List ℕ)) (status : Status) (input old new : Option (List ℕ)) (entry now : OnShelf)
      → RunIs rack area choices words status input old new entry now → HoldsBare entry
      → (m : Marked) × KeepsMarkedBook words status input old new (unmarked blank) m
  bare_keeps_marked words status input old new entry now is bare =
      let tells = bare_tells entry.held (λ held. held.uber ≡ None) bare in
      let one = run_keeps words status input old new entry now Bare (unmarked blank) is ((as_found entry).0, bare) tells blank_marked in
      (one.0, one.1)
