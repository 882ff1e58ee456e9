-- Each run is answered as the book has it, and so are runs one after another.
use Rattle.std.proofs.Common.{◌≡◌, ◌∙◌, refl, sym, ap, subst, ℕ, Bool, true, false, List, [], ◌∷◌, Option, Some, None, inl, inr}
use Rattle.std.specs.Prelude.{is_some, IsSomeAnd}
use Rattle.draid_rack.specs.declared.Rack as racks
use Rattle.draid_area.specs.declared.Area as areas
use Rattle.draid_script.specs.Grammar.{line_of}
use Rattle.draid_shelf.specs.Kits.{Held}
use Rattle.draid_session.specs.Choices.{Choices}
use Rattle.draid_session.specs.Book.{Book, BreaksAtLine, EndsBook, blank, closed}
use Rattle.draid_session.specs.Keeping.{Keeps}
use Rattle.draid_session.specs.Places.{Outside, line_at, line_behind}
use Rattle.draid_session.specs.Said.{Said}
use Rattle.draid_session.specs.Session.{Agrees, Bare, Desk, Foreign, Made, Open, RecordFails, ShelfFails, Shut, Unknown, Untouched, left_of, sits}
use Rattle.draid_session.specs.Sections.{RunsOn}
use Rattle.draid_session.proofs.Running.{AllOn, runs_on}
use Rattle.draid_session.proofs.Turning.{breaks_ends, left_keeps, no_record_fails}
use Rattle.draid_run.specs.Books.{AreRuns, BrokeAt, KeepBook, KeepsBook, OneRun, SessionKeepsBook}
use Rattle.draid_gen.specs.Workload.{script_of}
use Rattle.draid_run.specs.Next.{next_desk}
use Rattle.draid_run.specs.Script.{BreaksAt, BreaksOff, MayEndAt, RunIs, RunsFrom, session_words}
use Rattle.draid_pool.specs.Shelves.{OnShelf}
use Rattle.draid_run.specs.Shelves.{HoldsBare, HoldsDesk, MayFind}
use Rattle.draid_exits.specs.declared.status.Status.{Status}
use Rattle.draid_exits.specs.declared.status.Status.TheVariants.{NoMemory, ShelfFault, Record}
use Rattle.draid_run.proofs.Next.{desk_found, tells_found}
use Rattle.draid_run.proofs.Places.{broken_outside, led_on}
use Rattle.draid_run.proofs.Serving.{as_found}

-- ---- a run breaks off

-- a desk whose shelf tells, agrees
pub left_agrees : (desk : Desk) (entry now : OnShelf) → HoldsDesk (left_of desk) entry now → is_some now.held ≡ true → Agrees true desk
left_agrees Untouched entry now holds tells = tt
left_agrees Bare entry now holds tells = refl
left_agrees (Made told failed geometry) entry now holds tells = holds.told_is ∙ tells
left_agrees (Open x) entry now holds tells = holds.told ∙ tells
left_agrees (Shut crash x) entry now holds tells = holds.told ∙ tells
left_agrees (Foreign known) entry now holds tells = tt
left_agrees Unknown entry now holds tells = tt

-- a book at the end of a run, before the pool is given back
record EndsAt (ended : Status) (broken : Option (List ℕ)) (saids : List Said) (b : Book) (last : Desk) : Type 0 where
  pub book : Book
  pub ends : EndsBook broken b saids book
  pub broke : BrokeAt ended broken
  pub keeps : Keeps last book

shelf_breaks : (lines : List (List ℕ)) (text : List ℕ) (saids : List Said) (mid last : Desk) (b : Book) → line_of text ≡ line_behind lines text → Keeps mid b → Agrees true last → BreaksAt ShelfFails lines text saids mid last → EndsAt ShelfFault (Some text) saids b last
shelf_breaks lines text saids mid last b asked keeps agrees it =
    let ends = breaks_ends ShelfFails mid last b it.command keeps it.breaks agrees in
    record { book = ends.book; ends = subst (λ line. BreaksAtLine line b saids ends.book) (sym (asked ∙ it.line)) (it.none, ends.breaks); broke = tt; keeps = ends.keeps }

no_record : (lines : List (List ℕ)) (text : List ℕ) (saids : List Said) (mid last : Desk) (b : Book) → Keeps mid b → BreaksAt RecordFails lines text saids mid last → ⊥
no_record lines text saids mid last b keeps it = no_record_fails mid last b it.command keeps it.breaks

goes_through : (lines : List (List ℕ)) (ended : Status) (saids : List Said) (mid last : Desk) (b : Book) → Keeps mid b → BrokeAt ended None → saids ≡ [] → last ≡ mid → EndsAt ended None saids b last
goes_through lines ended saids mid last b keeps broke none same = record { book = b; ends = (none, refl); broke = broke; keeps = subst (λ desk. Keeps desk b) (sym same) keeps }

ends_at : (lines : List (List ℕ)) (ended : Status) (broken : Option (List ℕ)) (saids : List Said) (mid last : Desk) (b : Book) → ((text : List ℕ) → broken ≡ Some text → line_of text ≡ line_behind lines text) → Keeps mid b → Agrees true last → BreaksOff lines ended broken saids mid last
    → EndsAt ended broken saids b last
ends_at lines ShelfFault None saids mid last b asked keeps agrees off = goes_through lines ShelfFault saids mid last b keeps tt off.0 off.1
ends_at lines ShelfFault (Some text) saids mid last b asked keeps agrees off = shelf_breaks lines text saids mid last b (asked text refl) keeps agrees off
ends_at lines (Record which at kind) None saids mid last b asked keeps agrees off = absurd off
ends_at lines (Record which at kind) (Some text) saids mid last b asked keeps agrees off = absurd (no_record lines text saids mid last b keeps off)
ends_at lines NoMemory (Some text) saids mid last b asked keeps agrees off = absurd (no_record lines text saids mid last b keeps off)
ends_at lines ended None saids mid last b asked keeps agrees off = goes_through lines ended saids mid last b keeps tt off.0 off.1
ends_at lines ended (Some text) saids mid last b asked keeps agrees off = absurd off

-- ---- desks of the next run

-- a desk that a shelf holds has no open pool
pub holds_left : (desk : Desk) (shelf : OnShelf) → HoldsDesk desk shelf shelf → left_of desk ≡ desk
holds_left (Open x) shelf holds = absurd holds
holds_left (Foreign known) shelf holds = absurd holds
holds_left desk shelf holds = refl

next_keeps : (crash : Bool) (desk : Desk) (b : Book) → Keeps (left_of desk) b → Keeps (next_desk crash desk) b
next_keeps crash Bare b keeps = keeps
next_keeps crash (Made told failed geometry) b keeps = keeps
next_keeps crash (Open x) b keeps = keeps
next_keeps true (Shut crashed x) b keeps = keeps
next_keeps false (Shut crashed x) b keeps = keeps
next_keeps crash desk b keeps = absurd keeps

pub bare_tells : (o : Option Held) (P : Held → Type 0) → IsSomeAnd o P → is_some o ≡ true
bare_tells None P holds = absurd holds
bare_tells (Some held) P holds = refl

module _ {R A : Type 0} (rack : racks.Ghosts R) (area : areas.Ghosts A) (choices : Choices) where
  -- ---- one run

  -- what a run leaves on its shelf
  record Leaves (shelf : OnShelf) (b : Book) : Type 0 where
    pub last : Desk
    pub entry : OnShelf
    pub holds : HoldsDesk (left_of last) entry shelf
    pub tells : is_some shelf.held ≡ true
    pub keeps : Keeps (left_of last) b

  session_keeps : (words : List (List ℕ)) (status : Status) (input old new : Option (List ℕ)) (entry now : OnShelf) (first : Desk) (b : Book)
      → RunsFrom rack area choices words status input old new entry now first → is_some entry.held ≡ true → Keeps first b
      → (later : Book) × SessionKeepsBook words status input old new b later × Leaves now later
  session_keeps words status input old new entry now first b it tells keeps = (
    closed ends.book,
    record {
      lines = it.session.lines;
      replies = it.session.replies;
      shown = it.session.shown;
      ended = it.session.ended;
      broken = it.session.broken;
      saids = it.session.saids;
      to = it.session.to;
      answers = record { mid = all.book; last = ends.book; answers = all.answers; ends = ends.ends; made = refl };
      may = it.session.may;
      broke = ends.broke;
      ends = it.session.ends;
      shows = it.session.shows;
      script = it.script;
    },
    record { last = it.last; entry = entry; holds = it.shelf; tells = now_tells; keeps = left_keeps it.last ends.book ends.keeps },
  )
    where
      now_tells : is_some now.held ≡ true
      now_tells = it.tells ∙ tells

      all : AllOn choices (MayFind rack area entry) b Outside it.session.lines it.session.replies it.session.to it.session.mid
      all = runs_on choices (MayFind rack area entry) it.session.lines it.session.replies it.session.to (sits first []) (sits it.session.mid it.session.journal) b keeps
          (subst (λ t. RunsOn choices (MayFind rack area entry) t Outside (sits first []) it.session.lines it.session.replies it.session.to (sits it.session.mid it.session.journal)) tells it.session.runs)

      -- it breaks off outside a section alone
      asked : (text : List ℕ) → it.session.broken ≡ Some text → line_of text ≡ line_behind it.session.lines text
      asked text is =
          let outside = broken_outside it.session.to it.session.ended text (subst (MayEndAt it.session.to it.session.ended) is it.session.may) in
          let led = led_on choices (MayFind rack area entry) (is_some entry.held) Outside (sits first []) it.session.lines it.session.replies it.session.to (sits it.session.mid it.session.journal) (λ ended. (let e = sym outside ∙ ended in cc e)) it.session.runs in
          ap (λ p. line_at p text) (sym outside ∙ led)

      ends : EndsAt it.session.ended it.session.broken it.session.saids all.book it.last
      ends = ends_at it.session.lines it.session.ended it.session.broken it.session.saids it.session.mid it.last all.book asked all.keeps (left_agrees it.last entry now it.shelf now_tells) it.session.breaks

  -- so does a workload, by the session on its script
  run_keeps : (words : List (List ℕ)) (status : Status) (input old new : Option (List ℕ)) (entry now : OnShelf) (first : Desk) (b : Book)
      → RunIs rack area choices words status input old new entry now → HoldsDesk first entry entry → is_some entry.held ≡ true → Keeps first b
      → (later : Book) × KeepsBook words status input old new b later × Leaves now later
  run_keeps words status input old new entry now first b (inl is) holds tells keeps =
      let one = session_keeps words status input old new entry now first b (is first holds) tells keeps in
      (one.0, inl one.1, one.2)
  run_keeps words status input old new entry now first b (inr is) holds tells keeps =
      let one = session_keeps session_words is.ended (Some (script_of is.number)) (Some []) (Some is.replied) entry now first b (is.does first holds) tells keeps in
      (one.0, inr (record { number = is.number; asks = is.asks; ended = is.ended; replied = is.replied; does = one.1; prints = is.prints }), one.2)

  -- ---- several runs

  more_keep : (runs : List OneRun) (shelf : OnShelf) (b : Book) → Leaves shelf b → AreRuns rack area choices shelf runs → (later : Book) × KeepBook b runs later
  more_keep [] shelf b left are = (b, refl)
  more_keep (run ∷ runs) shelf b left (found, is, more) =
      let first = next_desk run.crash left.last in
      let holds : HoldsDesk first run.entry run.entry = desk_found run.crash left.last left.entry shelf run.entry found left.holds in
      let tells = tells_found run.crash shelf shelf run.entry found refl in
      let keeps = next_keeps run.crash left.last b left.keeps in
      let one = run_keeps run.words run.status run.input run.old run.new run.entry run.now first b is holds (tells ∙ left.tells) keeps in
      let rest = more_keep runs run.now one.0 one.2 more in
      (rest.0, (one.0, one.1, rest.1))

  pub runs_keep : (runs : List OneRun) (shelf : OnShelf) (desk : Desk) (b : Book) → AreRuns rack area choices shelf runs → HoldsDesk desk shelf shelf
      → is_some shelf.held ≡ true → Keeps desk b
      → (later : Book) × KeepBook b runs later
  runs_keep runs shelf desk b are holds tells keeps =
      let same = holds_left desk shelf holds in
      let left : Leaves shelf b = record {
        last = desk;
        entry = shelf;
        holds = subst (λ d. HoldsDesk d shelf shelf) (sym same) holds;
        tells = tells;
        keeps = subst (λ d. Keeps d b) (sym same) keeps;
      } in
      more_keep runs shelf b left are

  pub bare_keeps : (words : List (List ℕ)) (status : Status) (input old new : Option (List ℕ)) (entry now : OnShelf)
      → RunIs rack area choices words status input old new entry now → HoldsBare entry
      → (book : Book) × KeepsBook words status input old new blank book
  bare_keeps words status input old new entry now is bare =
      let tells = bare_tells entry.held (λ held. held.uber ≡ None) bare in
      let one = run_keeps words status input old new entry now Bare blank is ((as_found entry).0, bare) tells (record { is_shut = refl; none = refl }) in
      (one.0, one.1)
