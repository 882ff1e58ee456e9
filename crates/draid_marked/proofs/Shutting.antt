-- Where no pool is open each command is answered as a book beside a checkpoint has it.
use Rattle.std.proofs.Common.{◌≡◌, ◌+◌, ◌≤◌, ℕ, Bool, true, false, List, [], Some, None, inl, inr, refl, sym, ap, subst}
use Rattle.std.specs.Prelude.{max}
use Rattle.std.proofs.lemmas.List.Elements.{All-nil}
use Rattle.draid_spec.specs.declared.layout.Geometry.{Geometry}
use Rattle.draid_objects.specs.Marks.{mark_group}
use Rattle.draid_script.specs.Line.{Command, CreatePool, DiscardCheckpoint, ImportPool, RewindPool, TakeCheckpoint}
use Rattle.draid_script.specs.declared.line.PoolKeys.{PoolKeys}
use Rattle.draid_script.specs.declared.name.CommandName.{CommandName}
use Rattle.draid_script.specs.declared.name.CommandName.TheVariants as name
use Rattle.draid_reply.specs.declared.reply.Reply.{Reply}
use Rattle.draid_reply.specs.declared.reply.Reply.TheVariants.{CreateRefused, Created, Imported, NoMemory, NoPool}
use Rattle.draid_session.specs.Book.{Answers, AnswersBy, Book, BreaksBy, ShutAnswers}
use Rattle.draid_session.specs.Keeping.{Keeps}
use Rattle.draid_session.specs.Making.{IsFresh}
use Rattle.draid_session.specs.Marked.{GivesUp, GoesBack, HasNoMark, IsOpenThen, KeepsMark, Marked, MarkedAnswers, TakesMark, unmarked}
use Rattle.draid_session.specs.Session.{Agrees, Bare, BreaksGiven, BreaksImport, BreaksNew, BreaksShut, Cause, Creates, Desk, FindsGiven, FindsGivenIf, FindsNew, FindsNewIf, Finding, ImportTurns, Made, MakesNone, Open, RecordFails, ShelfFails, Shut, ShutTurns, name_of}
use Rattle.draid_session.specs.State.{State, Store}
use Rattle.draid_session.proofs.NoPool.{IsShutDesk, is_shut, shut_breaks, shut_turns}
use Rattle.draid_session.proofs.WithPool.{EndsIn, Next}
use Rattle.draid_marked.specs.Keeping.{KeepsMarked, KeepsMarks, MarksOpen, SaysMarks}
use Rattle.draid_marked.proofs.Answered.{EndsMarked, NextMarked}
use Rattle.draid_marked.proofs.Marking.{contains_head, says_book}
use Rattle.draid_marked.proofs.Shelving.{back_says, found_opens, imports_found, leaves_says, none_says, which_found}

-- ---- books without a checkpoint

no_mark : (b : Book) → HasNoMark (unmarked b)
no_mark b = record { mark = refl; kept = refl; since = refl }

fresh_opens : (geometry : Geometry) (x : State) (b : Book) → IsFresh geometry x → MarksOpen x x.store (unmarked b)
fresh_opens geometry x b f = subst (λ (s : Store). MarksOpen x s (unmarked b)) (sym f.store) (record {
  now = tt;
  says = record { keeps = λ same. tt; had = λ t from. (None, contains_head None [], tt) };
  closed = tt;
  low = All-nil (λ mark. mark_group mark ≤ max 0 (x.committed + 1));
  still = λ none. All-nil (λ mark. mark_group mark ≤ x.committed + 1);
})

fresh_says : (geometry : Geometry) (x : State) (b : Book) → IsFresh geometry x → SaysMarks 0 x.store.changes x.store.marks (unmarked b)
fresh_says geometry x b f = subst (λ (s : Store). SaysMarks 0 s.changes s.marks (unmarked b)) (sym f.store) (record { keeps = λ same. tt; had = λ t from. (None, contains_head None [], tt) })

-- no command on a pool names a group
keeps_own : (m : Marked) (b : Book) → KeepsMark m (record m { book = b }) false
keeps_own m b = record { mark = refl; kept = refl; since = refl }

no_mark_on : (m : Marked) (b : Book) → HasNoMark m → HasNoMark (record m { book = b })
no_mark_on m b h = record { mark = h.mark; kept = h.kept; since = h.since }

-- ---- a desk without an open pool

module _ (old : Desk) (m : Marked) (is : IsShutDesk old) (keeps : KeepsMarked old m) where
  answers_by : (command : Command) (reply : Reply) (b : Book) → ShutAnswers m.book command reply b → Answers m.book command reply b
  answers_by command reply b a = subst (λ z. AnswersBy z m.book command reply b) (sym (is_shut old m.book is keeps.book)) a

  shut_answers : (command : Command) (reply : Reply) (b : Book) → Answers m.book command reply b → ShutAnswers m.book command reply b
  shut_answers command reply b a = subst (λ z. AnswersBy z m.book command reply b) (is_shut old m.book is keeps.book) a

  -- the desk stays, and so does the book
  stays_next : (command : Command) (reply : Reply) (new : Desk) → MarkedAnswers m command reply m → new ≡ old → NextMarked m command reply new
  stays_next command reply new answers same = record { next = m; answers = answers; keeps = subst (λ desk. KeepsMarked desk m) (sym same) keeps }

  -- ---- creates

  creates_next : (text : List ℕ) (children : ℕ) (keys : PoolKeys) (reply : Reply) (new : Desk) → Creates text children keys old reply new → Next m.book (CreatePool text children keys) reply new
      → NextMarked m (CreatePool text children keys) reply new
  creates_next text children keys (Created called stripes) (Open new) c n = record {
    next = unmarked n.book;
    answers = (n.answers, no_mark n.book);
    keeps = record { book = n.keeps; marks = fresh_opens c.geometry new n.book c.fresh };
  }
  creates_next text children keys (CreateRefused why) new c n =
      stays_next (CreatePool text children keys) (CreateRefused why) new (answers_by (CreatePool text children keys) (CreateRefused why) m.book refl, keeps_own m m.book) c.1
  creates_next text children keys (NoMemory name.Create) new (geometry, layout, inl same) n =
      stays_next (CreatePool text children keys) (NoMemory name.Create) new (answers_by (CreatePool text children keys) (NoMemory name.Create) m.book (inl refl), inl (keeps_own m m.book)) same
  creates_next text children keys (NoMemory name.Create) new (geometry, layout, inr (inl (told, made))) n = record {
    next = unmarked n.book;
    answers = (n.answers, inr (no_mark n.book));
    keeps = record { book = n.keeps; marks = subst (λ desk. KeepsMarks desk (unmarked n.book)) (sym made) (no_mark n.book) };
  }
  creates_next text children keys (NoMemory name.Create) new (geometry, layout, inr (inr (fresh, made, are))) n = record {
    next = unmarked n.book;
    answers = (n.answers, inr (no_mark n.book));
    keeps = record { book = n.keeps; marks = subst (λ desk. KeepsMarks desk (unmarked n.book)) (sym are) (fresh_says geometry fresh n.book made) };
  }
  creates_next text children keys reply new c n = absurd c

  creates_end : (text : List ℕ) (children : ℕ) (keys : PoolKeys) (new : Desk) → MakesNone text children keys old new → EndsIn m.book (CreatePool text children keys) new → EndsMarked m (CreatePool text children keys) new
  creates_end text children keys new (geometry, layout, inl same) e = record {
    last = m;
    breaks = (subst (λ z. BreaksBy z m.book (CreatePool text children keys) m.book) (sym (is_shut old m.book is keeps.book)) (inl refl), inl (keeps_own m m.book));
    keeps = subst (λ desk. KeepsMarked desk m) (sym same) keeps;
  }
  creates_end text children keys new (geometry, layout, inr (inl (told, made))) e = record {
    last = unmarked e.book;
    breaks = (e.breaks, inr (no_mark e.book));
    keeps = record { book = e.keeps; marks = subst (λ desk. KeepsMarks desk (unmarked e.book)) (sym made) (no_mark e.book) };
  }
  creates_end text children keys new (geometry, layout, inr (inr (fresh, made, are))) e = record {
    last = unmarked e.book;
    breaks = (e.breaks, inr (no_mark e.book));
    keeps = record { book = e.keeps; marks = subst (λ desk. KeepsMarks desk (unmarked e.book)) (sym are) (fresh_says geometry fresh e.book made) };
  }

-- ---- imports

-- the book goes on, and its group is the same
book_on : (m : Marked) (reply : Reply) (new : Desk) (b : Book) → MarkedAnswers m ImportPool reply (record m { book = b }) → Keeps new b → KeepsMarks new (record m { book = b }) → NextMarked m ImportPool reply new
book_on m reply new b answers keeps marks = record { next = record m { book = b }; answers = answers; keeps = record { book = keeps; marks = marks } }

says_on : (committed : ℕ) (x : State) (m : Marked) (b : Book) → b.group ≡ m.book.group → SaysMarks committed x.store.changes x.store.marks m → SaysMarks committed x.store.changes x.store.marks (record m { book = b })
says_on committed x m b same s = says_book committed x.store.changes x.store.marks m b same s

module _ (finds : Finding → Type 0) where
  new_imports : (failed : ℕ) (geometry : Geometry) (m : Marked) (reply : Reply) (new : Desk) → HasNoMark m → FindsNew failed geometry reply new → Next m.book ImportPool reply new → NextMarked m ImportPool reply new
  new_imports failed geometry m (NoPool name.Import) new none (more, rises, is) n =
      book_on m (NoPool name.Import) new n.book (n.answers, keeps_own m n.book) n.keeps (subst (λ desk. KeepsMarks desk (record m { book = n.book })) (sym is) (no_mark_on m n.book none))
  new_imports failed geometry m (NoMemory name.Import) new none (more, rises, is) n =
      book_on m (NoMemory name.Import) new n.book (n.answers, keeps_own m n.book) n.keeps (subst (λ desk. KeepsMarks desk (record m { book = n.book })) (sym is) (no_mark_on m n.book none))
  new_imports failed geometry m reply new none f n = absurd f

  given_imports : (crash : Bool) (x : State) (m : Marked) (reply : Reply) (new : Desk) → KeepsMarked (Shut crash x) m → FindsGiven x reply new → Next m.book ImportPool reply new → NextMarked m ImportPool reply new
  given_imports crash x m (Imported called group many) (Open new) keeps (imports, named, has) n =
      let found = imports_found x new group imports in
      let which = which_found x m group keeps.book.low found.from keeps.marks in
      record {
        next = record { book = n.book; mark = which.mark; kept_mark = which.mark; since_marks = [] };
        answers = (n.answers, record { found = which.found; kept = refl; since = refl });
        keeps = record { book = n.keeps; marks = found_opens x group new found which.mark which.is n.book n.keeps.steps };
      }
  given_imports crash x m (NoPool name.Import) (Shut true new) keeps none n =
      let a = shut_answers (Shut crash x) m tt keeps ImportPool (NoPool name.Import) n.book n.answers in
      book_on m (NoPool name.Import) (Shut true new) n.book (n.answers, keeps_own m n.book) n.keeps
      (says_on new.committed new m n.book (ap (λ (b : Book). b.group) a.1) (none_says x new m none keeps.marks))
  given_imports crash x m (NoMemory name.Import) (Shut true new) keeps leaves n =
      let a = shut_answers (Shut crash x) m tt keeps ImportPool (NoMemory name.Import) n.book n.answers in
      book_on m (NoMemory name.Import) (Shut true new) n.book (n.answers, keeps_own m n.book) n.keeps
      (says_on new.committed new m n.book (ap (λ (b : Book). b.group) a) (leaves_says x new m keeps.book.low leaves keeps.marks))
  given_imports crash x m (NoMemory name.Import) (Shut false new) keeps back n =
      let a = shut_answers (Shut crash x) m tt keeps ImportPool (NoMemory name.Import) n.book n.answers in
      book_on m (NoMemory name.Import) (Shut false new) n.book (n.answers, keeps_own m n.book) n.keeps
      (says_on new.committed new m n.book (ap (λ (b : Book). b.group) a) (back_says x new m keeps.book.low back keeps.marks))
  given_imports crash x m reply new keeps f n = absurd f

  import_next : (old new : Desk) (m : Marked) (reply : Reply) → IsShutDesk old → KeepsMarked old m → ImportTurns finds old reply new → Next m.book ImportPool reply new → NextMarked m ImportPool reply new
  import_next Bare new m reply is keeps turns n = subst (λ r. NextMarked m ImportPool r new) (sym turns.0)
      (book_on m (NoPool name.Import) new n.book (subst (λ r. Answers m.book ImportPool r n.book) turns.0 n.answers, keeps_own m n.book) n.keeps
      (subst (λ desk. KeepsMarks desk (record m { book = n.book })) (sym turns.1) (no_mark_on m n.book keeps.marks)))
  import_next (Made told failed geometry) new m reply is keeps turns n =
      new_imports failed geometry m reply new keeps.marks (subst (λ t. FindsNewIf t failed geometry reply new) keeps.book.1 turns) n
  import_next (Shut crash x) new m reply is keeps turns n = given_imports crash x m reply new keeps (subst (λ t. FindsGivenIf t x reply new) keeps.book.told turns) n
  import_next (Open x) new m reply is keeps turns n = absurd is
  import_next old new m reply is keeps turns n = absurd keeps.book

  -- ---- each command

  pub shut_marked : (old new : Desk) (m : Marked) (command : Command) (reply : Reply) → IsShutDesk old → KeepsMarked old m → ShutTurns finds old command reply new → Agrees true new
      → NextMarked m command reply new
  shut_marked old new m command reply is keeps turns agrees = by command turns (shut_turns finds old new m.book command reply is keeps.book turns agrees)
    where
      told_none : (command : Command) → ((called : CommandName) → name_of command ≡ Some called → MarkedAnswers m command (NoPool called) m)
          → (called : CommandName) × (name_of command ≡ Some called) × (reply ≡ NoPool called) × (new ≡ old) → NextMarked m command reply new
      told_none command answers (called, named, replied, same) =
          subst (λ r. NextMarked m command r new) (sym replied) (stays_next old m is keeps command (NoPool called) new (answers called named) same)

      shut : m.book.is_open ≡ false
      shut = is_shut old m.book is keeps.book

      by : (command : Command) → ShutTurns finds old command reply new → Next m.book command reply new → NextMarked m command reply new
      by (CreatePool text children keys) t n = creates_next old m is keeps text children keys reply new t n
      by ImportPool t n = import_next old new m reply is keeps t n
      by TakeCheckpoint t n = told_none TakeCheckpoint (λ called named. subst (λ z. IsOpenThen z TakesMark m (NoPool called) m) (sym shut) refl) t
      by RewindPool t n = told_none RewindPool (λ called named. subst (λ z. IsOpenThen z GoesBack m (NoPool called) m) (sym shut) refl) t
      by DiscardCheckpoint t n = told_none DiscardCheckpoint (λ called named. subst (λ z. IsOpenThen z GivesUp m (NoPool called) m) (sym shut) refl) t
      by command t n = told_none command (λ called named. (answers_by old m is keeps command (NoPool called) m.book (named, refl), keeps_own m m.book)) t

-- ---- where a device fails

given_ends : (crash : Bool) (x : State) (m : Marked) (cause : Cause) (new : Desk) → KeepsMarked (Shut crash x) m → BreaksGiven true cause x new → EndsIn m.book ImportPool new → EndsMarked m ImportPool new
given_ends crash x m ShelfFails new keeps (state, same, leaves) e = record {
  last = record m { book = e.book };
  breaks = (e.breaks, keeps_own m e.book);
  keeps = record {
    book = e.keeps;
    marks = subst (λ desk. KeepsMarks desk (record m { book = e.book })) (sym same)
        (says_on state.committed state m e.book (ap (λ (b : Book). b.group) (subst (λ z. BreaksBy z m.book ImportPool e.book) keeps.book.is_shut e.breaks)) (leaves_says x state m keeps.book.low leaves keeps.marks));
  };
}
given_ends crash x m RecordFails new keeps none e = absurd none

new_ends : (failed : ℕ) (geometry : Geometry) (m : Marked) (cause : Cause) (new : Desk) → HasNoMark m → BreaksNew true cause failed geometry new → EndsIn m.book ImportPool new → EndsMarked m ImportPool new
new_ends failed geometry m ShelfFails new none (more, rises, same) e = record {
  last = record m { book = e.book };
  breaks = (e.breaks, keeps_own m e.book);
  keeps = record { book = e.keeps; marks = subst (λ desk. KeepsMarks desk (record m { book = e.book })) (sym same) (no_mark_on m e.book none) };
}
new_ends failed geometry m RecordFails new none never e = absurd never

import_ends : (cause : Cause) (old new : Desk) (m : Marked) → IsShutDesk old → KeepsMarked old m → BreaksImport cause old new → EndsIn m.book ImportPool new → EndsMarked m ImportPool new
import_ends cause (Made told failed geometry) new m is keeps breaks e = new_ends failed geometry m cause new keeps.marks (subst (λ t. BreaksNew t cause failed geometry new) keeps.book.1 breaks) e
import_ends cause (Shut crash x) new m is keeps breaks e = given_ends crash x m cause new keeps (subst (λ t. BreaksGiven t cause x new) keeps.book.told breaks) e
import_ends cause Bare new m is keeps breaks e = absurd breaks
import_ends cause (Open x) new m is keeps breaks e = absurd is
import_ends cause old new m is keeps breaks e = absurd keeps.book

pub shut_ends : (cause : Cause) (old new : Desk) (m : Marked) (command : Command) → IsShutDesk old → KeepsMarked old m → BreaksShut cause old command new → Agrees true new → EndsMarked m command new
shut_ends cause old new m command is keeps breaks agrees = by cause command breaks (shut_breaks cause old new m.book command is keeps.book breaks agrees)
  where
    by : (cause : Cause) (command : Command) → BreaksShut cause old command new → EndsIn m.book command new → EndsMarked m command new
    by ShelfFails (CreatePool text children keys) b e = creates_end old m is keeps text children keys new b e
    by cause ImportPool b e = import_ends cause old new m is keeps b e
    by cause command b e = absurd b
