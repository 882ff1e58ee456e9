-- Behind a rewind each object has the bytes that it had as the checkpoint was made.
use Rattle.std.proofs.Common.{◌≡◌, ◌∙◌, ◌≤◌, ◌++◌, ℕ, Bool, true, false, nat_le, cond, List, [], ◌∷◌, Some, option_map, inl, inr, refl, sym, ap, subst, arith}
use Rattle.draid_machine.proofs.Small.{low, some_injective}
use Rattle.draid_objects.specs.Changes.{kept, write_of}
use Rattle.draid_objects.specs.Marks.{Check, Dropped, Made, Mark, check_by, drops_in, marks_upto}
use Rattle.draid_reply.specs.declared.reply.Reply.TheVariants.{Synced}
use Rattle.draid_script.specs.Grammar.{line_of}
use Rattle.draid_script.specs.Line.{SyncPool}
use Rattle.draid_session.specs.Book.{Book}
use Rattle.draid_session.specs.Choices.{Choices}
use Rattle.draid_session.specs.Keeping.{Keeps, KeepsOpen, bytes_in}
use Rattle.draid_session.specs.Looks.{AllOf}
use Rattle.draid_session.specs.Rewinding.{AreDrops, GoesBackIn, MakesCheck, MarksGo, RunsBeside, committed_at}
use Rattle.draid_session.specs.Said.{Said}
use Rattle.draid_session.specs.Session.{CarriesOut, Desk, Finding, Open, Shut}
use Rattle.draid_session.specs.State.{State, Store}
use Rattle.draid_session.specs.Staying.{MakesNoPool, Stays}
use Rattle.draid_session.proofs.Following.{in_open}
use Rattle.draid_session.proofs.Staying.{line_stays, stays_same}
use Rattle.draid_session.proofs.Turning.{line_turns}
use Rattle.draid_session.proofs.WithPool.{open_turns}

-- ---- what befell the checkpoint

-- a checkpoint was made of this group, and behind that blocks were dropped alone
record HasMade (group : ℕ) (marks : List Mark) : Type 0 where
  pub drops : List Mark
  pub rest : List Mark
  pub are : marks ≡ drops ++ Made group ∷ rest
  pub all : AreDrops drops

-- so its checkpoint is of this group
record IsOf (group : ℕ) (marks : List Mark) : Type 0 where
  pub check : Check
  pub there : check_by marks ≡ Some check
  pub own : check.group ≡ group

made_of : (group : ℕ) (rest drops : List Mark) → AreDrops drops → IsOf group (drops ++ Made group ∷ rest)
made_of group rest [] all = record { check = record { group = group; dropped = λ k. false }; there = refl; own = refl }
made_of group rest (Dropped key g ∷ drops) all =
    let it = made_of group rest drops all in
    record { check = drops_in key it.check; there = ap (option_map (drops_in key)) it.there; own = it.own }
made_of group rest (mark ∷ drops) all = absurd all

made_group : (group : ℕ) (marks : List Mark) (check : Check) → HasMade group marks → check_by marks ≡ Some check → check.group ≡ group
made_group group marks check m is =
    let it = made_of group m.rest m.drops m.all in
    ap (λ (c : Check). c.group) (some_injective check it.check (sym is ∙ (ap check_by m.are ∙ it.there))) ∙ it.own

-- further drops
more_drops : (drops more : List Mark) → AreDrops more → AreDrops drops → AreDrops (more ++ drops)
more_drops drops [] some all = all
more_drops drops (Dropped key g ∷ more) some all = more_drops drops more some all
more_drops drops (mark ∷ more) some all = absurd some

joined : (more drops back : List Mark) → more ++ (drops ++ back) ≡ (more ++ drops) ++ back
joined [] drops back = refl
joined (mark ∷ more) drops back = ap (λ ms. mark ∷ ms) (joined more drops back)

made_more : (group : ℕ) (marks new more : List Mark) → HasMade group marks → AreDrops more → new ≡ more ++ marks → HasMade group new
made_more group marks new more m some is = record {
  drops = more ++ m.drops;
  rest = m.rest;
  are = is ∙ (ap (λ ms. more ++ ms) m.are ∙ joined more m.drops (Made group ∷ m.rest));
  all = more_drops m.drops more some m.all;
}

-- those up to a later group
made_upto : (group found : ℕ) (rest drops : List Mark) → group ≤ found → AreDrops drops → HasMade group (marks_upto found (drops ++ Made group ∷ rest))
made_upto group found rest [] less all = record {
  drops = [];
  rest = marks_upto found rest;
  are = ap (λ b. cond b (Made group ∷ marks_upto found rest) (marks_upto found rest)) (low group found less);
  all = tt;
}
made_upto group found rest (Dropped key g ∷ drops) less all = by (nat_le g found) (made_upto group found rest drops less all)
  where
    by : (b : Bool) → HasMade group (marks_upto found (drops ++ Made group ∷ rest))
        → HasMade group (cond b (Dropped key g ∷ marks_upto found (drops ++ Made group ∷ rest)) (marks_upto found (drops ++ Made group ∷ rest)))
    by true inner = record { drops = Dropped key g ∷ inner.drops; rest = inner.rest; are = ap (λ ms. Dropped key g ∷ ms) inner.are; all = inner.all }
    by false inner = inner
made_upto group found rest (mark ∷ drops) less all = absurd all

made_found : (group found : ℕ) (marks : List Mark) → group ≤ found → HasMade group marks → HasMade group (marks_upto found marks)
made_found group found marks less m = subst (λ ms. HasMade group (marks_upto found ms)) (sym m.are) (made_upto group found m.rest m.drops less m.all)

made_goes : (group committed : ℕ) (marks new : List Mark) → group ≤ committed → HasMade group marks → MarksGo committed marks new → HasMade group new
made_goes group committed marks new less m (drops, all, inl is) = made_more group marks new drops m all is
made_goes group committed marks new less m (drops, all, inr (found, from, is)) =
    made_more group (marks_upto found marks) new drops (made_found group found marks (omega (arith, less, from)) m) all is

-- ---- lines

-- the committed group doesn't fall
stays_low : (x : State) (desk : Desk) → Stays x desk → x.committed ≤ committed_at desk
stays_low x (Open y) s = s.later
stays_low x (Shut crash y) s = s.later
stays_low x desk s = absurd s

module _ (choices : Choices) (finds : Finding → Type 0) where
  beside : (lines : List (List ℕ)) (replies : List (List Said)) (x : State) (group : ℕ) (old new : Desk) (marks left : List Mark) (b : Book) → AllOf MakesNoPool lines → group ≤ x.committed
      → Keeps old b → Stays x old → HasMade group marks → RunsBeside choices finds true old marks lines replies new left → Stays x new × HasMade group left
  beside [] [] x group old new marks left b none less keeps stays made runs = (subst (Stays x) (sym runs.0) stays, subst (HasMade group) (sym runs.1) made)
  beside (line ∷ lines) (saids ∷ replies) x group old new marks left b none less keeps stays made (mid, some, turns, agrees, goes, runs) =
      let one = line_turns choices finds (line_of line) old mid b saids keeps turns agrees in
      let late = stays_low x old stays in
      beside lines replies x group mid new some left one.book none.1 less one.keeps (line_stays choices finds x old mid b (line_of line) saids none.0 keeps stays turns)
      (made_goes group (committed_at old) marks some (omega (arith, less, late)) made goes) runs
  beside [] (saids ∷ replies) x group old new marks left b none less keeps stays made runs = absurd runs
  beside (line ∷ lines) [] x group old new marks left b none less keeps stays made runs = absurd runs

-- ---- a checkpoint and its rewind

module _ (choices : Choices) where
  -- what a sync leaves: the book has been committed, and the group is the committed one
  record Committed (x y : State) (b : Book) (group : ℕ) : Type 0 where
    pub book : Book
    pub keeps : Keeps (Open y) book
    pub same : group ≡ y.committed
    pub bytes : (object : ℕ) → bytes_in (kept y.committed y.store.changes object) ≡ b.now object

  sync_commits : (x y : State) (b : Book) (group thin : ℕ) → KeepsOpen x x.store b → CarriesOut choices SyncPool (Synced group thin) x y → Committed x y b group
  sync_commits x y b group thin keeps it =
      let n = open_turns choices x b keeps SyncPool (Synced group thin) (Open y) (y, it, refl) in
      let s = in_open b n.book SyncPool (Synced group thin) keeps.is_open n.answers in
      let at = ap (λ (k : Book). k.group) s.1 in
      let sure = ap (λ (k : Book). k.untold) s.1 in
      let least = n.keeps.low in
      let most = n.keeps.few in
      record {
        book = n.book;
        keeps = n.keeps;
        same = omega (arith, at, sure, least, most);
        bytes = λ object. sym (n.keeps.says.keeps (omega (arith, at, sure, least, most)) object) ∙ ap (λ (k : Book). k.kept object) s.1;
      }

  -- a sync changes nothing for the objects
  sync_same : (x y : State) (group thin : ℕ) → CarriesOut choices SyncPool (Synced group thin) x y → y.store ≡ x.store
  sync_same x y group thin it = ap (λ (s : State). s.store) it.made ∙ it.does.0

  pub comes_back : (finds : Finding → Type 0) (lines : List (List ℕ)) (replies : List (List Said)) (x first y new : State) (book : Book) (marks made some left : List Mark) (group later : ℕ)
      → Keeps (Open x) book → MakesCheck choices x marks group first made → AllOf MakesNoPool lines → RunsBeside choices finds true (Open first) made lines replies (Open y) some
      → GoesBackIn choices y some later new left → (object : ℕ) → bytes_in (write_of new.store.changes object) ≡ bytes_in (write_of x.store.changes object)
  comes_back finds lines replies x first y new book marks made some left group later keeps makes none runs goes object =
      let c = sync_commits x first book group makes.thin keeps makes.syncs in
      let same = c.same in
      let here = beside choices finds lines replies first group (Open first) (Open y) made some c.book none (omega (arith, same)) c.keeps (stays_same first)
      (record { drops = []; rest = marks; are = makes.made; all = tt }) runs in
      let own = made_group group some goes.back.check here.1 goes.back.there in
      let at : goes.back.check.group ≡ first.committed = own ∙ same in
      let from : goes.back.check.group ≤ first.committed = omega (arith, at) in
      ap bytes_in (
      ap (λ (s : Store). write_of s.changes object) (sync_same (record goes.mid { store = goes.store }) new later goes.thin goes.syncs)
      ∙ (goes.back.back.now object
      ∙ (here.0.each goes.back.check.group object from
      ∙ ap (λ n. kept n first.store.changes object) at))
      )
      ∙ (c.bytes object ∙ keeps.says.now object)
