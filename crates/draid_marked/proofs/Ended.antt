-- A run ends as a book beside a checkpoint has it.
use Rattle.std.proofs.Common.{◌≡◌, ◌≤◌, true, false, Some, None, inl, inr, refl, sym, ap, subst, arith}
use Rattle.draid_script.specs.Line.{Command, ExportPool, SyncPool, TakeOffline, TakeOnline, AttachSpare, ReplaceDisk, DetachArm, RebuildPool, RebalanceSlot, UpgradePool, TakeCheckpoint, DiscardCheckpoint, RewindPool, RunAgent}
use Rattle.draid_session.specs.Book.{Book, BreaksBook, BreaksBy, OpenBreaks, closed, doubtful}
use Rattle.draid_session.specs.Choices.{Choices, choices_by}
use Rattle.draid_session.specs.Discarding.{DiscardStops}
use Rattle.draid_session.specs.GoingBack.{BackStops}
use Rattle.draid_session.specs.Keeping.{KeepsOpen}
use Rattle.draid_session.specs.Looks.{AllOf}
use Rattle.draid_session.specs.Marked.{KeepsMark, Marked, doubts, rewound, with_mark}
use Rattle.draid_session.specs.Phases.{Broke}
use Rattle.draid_session.specs.Session.{Agrees, Bare, Breaks, BreaksIn, BreaksOpen, Cause, Desk, Made, Open, RecordFails, ShelfFails, Shut, left_of}
use Rattle.draid_session.specs.State.{State}
use Rattle.draid_session.specs.Taking.{TakeStops}
use Rattle.draid_session.proofs.Groupwise.{IsSteadyHold}
use Rattle.draid_session.proofs.Syncing.{finishes, fit_doubt}
use Rattle.draid_session.proofs.Turning.{left_keeps as book_left}
use Rattle.draid_session.proofs.WithPool.{EndsIn, open_breaks}
use Rattle.draid_marked.specs.Ending.{MarkedBreaks, shut_up}
use Rattle.draid_marked.specs.Keeping.{KeepsMarked, MarksOpen}
use Rattle.draid_marked.proofs.Answered.{EndsMarked}
use Rattle.draid_marked.proofs.Carried.{fit_with, kept_marked, no_mark, open_with}
use Rattle.draid_marked.proofs.Doing.{broken_steady}
use Rattle.draid_marked.proofs.Marking.{says_book}
use Rattle.draid_marked.proofs.Opening.{open_later}
use Rattle.draid_marked.proofs.Rising.{holds_rise}
use Rattle.draid_marked.proofs.Sharp.{breaks_group, broken_later}
use Rattle.draid_marked.proofs.Shutting.{shut_ends}
use Rattle.draid_marked.proofs.Taken.{back_fit, back_objects, back_stops, discard_stops, made_stops}

-- ---- where a device fails

any_choices : Choices
any_choices = choices_by (λ rooms m. ⊥)

module _ (old : State) (m : Marked) (fit : KeepsOpen old old.store m.book) (marks : MarksOpen old old.store m) (command : Command) (state : State) (it : BreaksOpen command old state) where
  steady : AllOf IsSteadyHold it.holds
  steady = broken_steady old.geometry old.perms it.holds command old.store it.store it.broken

  later_mid : old.committed ≤ it.mid.committed
  later_mid = (let on = broken_later any_choices old state m.book fit command it in let at = ap (λ (s : State). s.committed) it.made in omega (arith, on, at))

  e : EndsIn m.book command (Open state)
  e = open_breaks any_choices old m.book fit ShelfFails command (Open state) (state, refl, it)

  says : OpenBreaks m.book command e.book
  says = subst (λ z. BreaksBy z m.book command e.book) fit.is_open e.breaks

  -- the store is as it was
  stays : it.store ≡ old.store → (b : Book) → b.group ≡ m.book.group → MarksOpen state state.store (record m { book = b })
  stays is b group = open_with it.mid state it.store (record m { book = b }) it.made
      (subst (λ s. MarksOpen it.mid s (record m { book = b })) (sym is) (open_later old it.mid old.store m b group fit.low later_mid (holds_rise it.holds old it.mid steady it.follows) marks))

  same_ends : it.store ≡ old.store → ((last : Marked) → BreaksBook m.book command last.book × KeepsMark m last false → MarkedBreaks m command last) → EndsMarked m command (Open state)
  same_ends is wraps = record {
    last = record m { book = e.book };
    breaks = wraps (record m { book = e.book }) (e.breaks, record { mark = refl; kept = refl; since = refl });
    keeps = record { book = e.keeps; marks = stays is e.book (breaks_group m.book e.book command says) };
  }

  doubt_ends : it.store ≡ old.store → KeepsOpen state state.store (doubtful m.book) → MarkedBreaks m command (doubts m) → EndsMarked m command (Open state)
  doubt_ends is keeps breaks = record { last = doubts m; breaks = breaks; keeps = record { book = keeps; marks = stays is (doubtful m.book) refl } }

module _ (old : State) (m : Marked) (fit : KeepsOpen old old.store m.book) (marks : MarksOpen old old.store m) where
  take_ends : (state : State) (it : BreaksOpen TakeCheckpoint old state) → TakeStops old.geometry old.perms old.store it.holds Broke it.store → EndsMarked m TakeCheckpoint (Open state)
  take_ends state it t = by t
    where
      keeps : KeepsOpen state state.store (doubtful m.book)
      keeps = subst (KeepsOpen state state.store) (says old m fit marks TakeCheckpoint state it) (e old m fit marks TakeCheckpoint state it).keeps

      by : TakeStops old.geometry old.perms old.store it.holds Broke it.store → EndsMarked m TakeCheckpoint (Open state)
      by (inl (is, before)) = doubt_ends old m fit marks TakeCheckpoint state it is keeps (fit.is_open, inl refl)
      by (inr s) = record {
        last = doubts (with_mark (Some m.book.now) m);
        breaks = (fit.is_open, inr (no_mark old.store m.mark marks.now s.none, refl));
        keeps = record {
          book = keeps;
          marks = open_with it.mid state it.store (doubts (with_mark (Some m.book.now) m)) it.made
              (made_stops old m fit marks it.mid it.holds it.follows (steady old m fit marks TakeCheckpoint state it) (later_mid old m fit marks TakeCheckpoint state it) Broke it.store s);
        };
      }

  discard_ends : (state : State) (it : BreaksOpen DiscardCheckpoint old state) → DiscardStops old.geometry old.perms old.store it.holds Broke it.store → EndsMarked m DiscardCheckpoint (Open state)
  discard_ends state it d = by d
    where
      keeps : KeepsOpen state state.store (doubtful m.book)
      keeps = subst (KeepsOpen state state.store) (says old m fit marks DiscardCheckpoint state it) (e old m fit marks DiscardCheckpoint state it).keeps

      by : DiscardStops old.geometry old.perms old.store it.holds Broke it.store → EndsMarked m DiscardCheckpoint (Open state)
      by (inl (is, other, ends)) = doubt_ends old m fit marks DiscardCheckpoint state it is keeps (fit.is_open, inl refl)
      by (inr (at, group, thin, frees, made, other, d)) = record {
        last = doubts (with_mark None m);
        breaks = (fit.is_open, inr refl);
        keeps = record {
          book = keeps;
          marks = open_with it.mid state it.store (doubts (with_mark None m)) it.made (subst (λ s. MarksOpen it.mid s (doubts (with_mark None m))) (sym made)
              (discard_stops old m fit marks it.mid it.holds it.follows (steady old m fit marks DiscardCheckpoint state it) (later_mid old m fit marks DiscardCheckpoint state it) at group thin frees Broke other d));
        };
      }

  rewind_ends : (state : State) (it : BreaksOpen RewindPool old state) → BackStops old.geometry old.perms old.store it.holds Broke it.store → EndsMarked m RewindPool (Open state)
  rewind_ends state it (inl (is, other, ends)) = doubt_ends old m fit marks RewindPool state it is
      (kept_marked_book is (fit_doubt it.mid old.store m.book (finishes old.geometry old.perms it.holds Broke old it.mid old.store m.book ends it.follows refl fit).keeps)) (fit.is_open, inl refl)
    where
      kept_marked_book : it.store ≡ old.store → KeepsOpen it.mid old.store (doubtful m.book) → KeepsOpen state state.store (doubtful m.book)
      kept_marked_book is f = fit_with it.mid state it.store (doubtful m.book) it.made (subst (λ s. KeepsOpen it.mid s (doubtful m.book)) (sym is) f)
  rewind_ends state it (inr (group, thin, other, d)) =
      let s = steady old m fit marks RewindPool state it in
      let l = later_mid old m fit marks RewindPool state it in
      let o = back_objects old m fit marks it.mid it.holds it.follows s l it.store group thin Broke d in
      let f = (back_fit old m fit marks it.mid it.holds it.follows s l it.store group thin Broke d).1 other in
      record {
        last = doubts (rewound o.0 m);
        breaks = (fit.is_open, inr (o.0, o.1, refl));
        keeps = kept_marked it.mid state it.store (doubts (rewound o.0 m)) it.made f (back_stops old m fit marks it.mid it.holds it.follows s l it.store group thin Broke d other);
      }

  open_ends : (command : Command) (state : State) → BreaksOpen command old state → EndsMarked m command (Open state)
  open_ends SyncPool state it = same_ends old m fit marks SyncPool state it it.broken.0 (λ last b. b)
  open_ends ExportPool state it = same_ends old m fit marks ExportPool state it it.broken.0 (λ last b. b)
  open_ends (TakeOffline leaf) state it = same_ends old m fit marks (TakeOffline leaf) state it it.broken.0 (λ last b. b)
  open_ends (TakeOnline leaf) state it = same_ends old m fit marks (TakeOnline leaf) state it it.broken.0 (λ last b. b)
  open_ends (AttachSpare slot spare) state it = same_ends old m fit marks (AttachSpare slot spare) state it it.broken.0 (λ last b. b)
  open_ends (ReplaceDisk slot sectors) state it = same_ends old m fit marks (ReplaceDisk slot sectors) state it it.broken.0 (λ last b. b)
  open_ends (DetachArm arm) state it = same_ends old m fit marks (DetachArm arm) state it it.broken.0 (λ last b. b)
  open_ends (RebuildPool limit) state it = same_ends old m fit marks (RebuildPool limit) state it it.broken.0 (λ last b. b)
  open_ends (RebalanceSlot slot) state it = same_ends old m fit marks (RebalanceSlot slot) state it it.broken.0 (λ last b. b)
  open_ends UpgradePool state it = same_ends old m fit marks UpgradePool state it it.broken.0 (λ last b. b)
  open_ends (RunAgent least) state it = same_ends old m fit marks (RunAgent least) state it it.broken.0 (λ last b. b)
  open_ends TakeCheckpoint state it = take_ends state it it.broken
  open_ends DiscardCheckpoint state it = discard_ends state it it.broken
  open_ends RewindPool state it = rewind_ends state it it.broken
  open_ends command state it = absurd it.broken

  ends_in : (cause : Cause) (command : Command) (new : Desk) → BreaksIn cause old command new → EndsMarked m command new
  ends_in RecordFails command new breaks = absurd breaks
  ends_in ShelfFails command new (state, is, it) = subst (EndsMarked m command) (sym is) (open_ends command state it)

pub breaks_ends : (cause : Cause) (old new : Desk) (m : Marked) (command : Command) → KeepsMarked old m → Breaks cause old command new → Agrees true new → EndsMarked m command new
breaks_ends cause Bare new m command keeps breaks agrees = shut_ends cause Bare new m command tt keeps breaks agrees
breaks_ends cause (Made told failed geometry) new m command keeps breaks agrees = shut_ends cause (Made told failed geometry) new m command tt keeps breaks agrees
breaks_ends cause (Open x) new m command keeps breaks agrees = ends_in x m keeps.book keeps.marks cause command new breaks
breaks_ends cause (Shut crash x) new m command keeps breaks agrees = shut_ends cause (Shut crash x) new m command tt keeps breaks agrees
breaks_ends cause old new m command keeps breaks agrees = absurd keeps.book

-- ---- what is left

pub left_keeps : (desk : Desk) (m : Marked) → KeepsMarked desk m → KeepsMarked (left_of desk) (shut_up m)
left_keeps Bare m keeps = record { book = book_left Bare m.book keeps.book; marks = record { mark = keeps.marks.mark; kept = keeps.marks.kept; since = keeps.marks.since } }
left_keeps (Made told failed geometry) m keeps =
    record { book = book_left (Made told failed geometry) m.book keeps.book; marks = record { mark = keeps.marks.mark; kept = keeps.marks.kept; since = keeps.marks.since } }
left_keeps (Open x) m keeps = record { book = book_left (Open x) m.book keeps.book; marks = says_book x.committed x.store.changes x.store.marks m (closed m.book) refl keeps.marks.says }
left_keeps (Shut crash x) m keeps = record { book = book_left (Shut crash x) m.book keeps.book; marks = says_book x.committed x.store.changes x.store.marks m (closed m.book) refl keeps.marks }
left_keeps desk m keeps = absurd keeps.book
