-- Where each object goes back to a checkpoint, the book has what it has then.
use Rattle.std.proofs.Common.{◌≡◌, ◌∙◌, ◌+◌, ◌<◌, ◌≤◌, ◌++◌, ℕ, Bool, true, false, nat_le, List, [], ◌∷◌, All, inl, inr, refl, sym, ap, subst, arith}
use Rattle.std.specs.Prelude.{Contains}
use Rattle.std.proofs.lemmas.List.Elements.{All-cons, All-head, All-tail, All-weaker, Contains-append_left, Contains-push}
use Rattle.draid_machine.proofs.Small.{is_low, none_some}
use Rattle.draid_objects.specs.Changes.{Change, Freed, Restored, Wrote, group_of, kept, object_of, write_of}
use Rattle.draid_objects.specs.Marks.{GivenUp, Mark}
use Rattle.draid_objects.specs.Rewinds.{GoesBack}
use Rattle.draid_objects.proofs.Finding.{kept_all, kept_later}
use Rattle.draid_session.specs.Book.{Book, HaveBeen, Objects, reverted}
use Rattle.draid_session.specs.GoingBack.{Reverts}
use Rattle.draid_session.specs.Keeping.{KeepsOpen, bytes_in, HasLowFloor}
use Rattle.draid_session.specs.State.{State, Store}
use Rattle.draid_session.proofs.Saying.{have_same, high, not_low}
use Rattle.draid_session.proofs.Syncing.{AreIdle}

back_group : (check at : ℕ) (cs : List Change) (c : Change) → GoesBack check at cs c → group_of c ≡ at
back_group check at cs (Wrote w) g = absurd g
back_group check at cs (Freed o n) g = g.0
back_group check at cs (Restored w n) g = g.0

-- an earlier group keeps what it did
pub kept_back : (t check at : ℕ) (old cs back : List Change) (o : ℕ) → t < at → All (GoesBack check at old) back → kept t (back ++ cs) o ≡ kept t cs o
kept_back t check at old cs [] o less all = refl
kept_back t check at old cs (c ∷ back) o less all =
    let is = back_group check at old c (All-head (GoesBack check at old) c back all) in
    kept_later t c (back ++ cs) o (not_low (group_of c) t (omega (arith, is, less))) ∙ kept_back t check at old cs back o less (All-tail (GoesBack check at old) c back all)

back_low : (n check at : ℕ) (old cs back : List Change) → at ≤ n → All (λ c. group_of c ≤ n) cs → All (GoesBack check at old) back → All (λ c. group_of c ≤ n) (back ++ cs)
back_low n check at old cs [] less low all = low
back_low n check at old cs (c ∷ back) less low all =
    let is = back_group check at old c (All-head (GoesBack check at old) c back all) in
    All-cons (λ d. group_of d ≤ n) c (back ++ cs) (omega (arith, is, less)) (back_low n check at old cs back less low (All-tail (GoesBack check at old) c back all))

-- where no group is closing, the floor is the open group
pub idle_floor : (y : State) (marks : List Mark) (floor : ℕ) → AreIdle y → HasLowFloor y marks floor → floor ≤ y.committed + 1
idle_floor y marks floor idle (inr e) = absurd (none_some e.closes.y.world.closing e.closes.group (idle e.closes.k e.closes.y e.closes.there) e.closes.closing)
idle_floor y marks floor idle (inl (inl low)) = low
idle_floor y marks floor idle (inl (inr (low, ahead))) = absurd (none_some ahead.y.world.closing ahead.group (idle ahead.k ahead.y ahead.there) ahead.closing)

pub reverted_fit : (y : State) (old new : Store) (b : Book) (committed : ℕ) → AreIdle y → committed ≡ y.committed → Reverts (committed + 1) old new → KeepsOpen y old b
    → KeepsOpen y new (reverted (λ o. bytes_in (write_of new.changes o)) b)
reverted_fit y old new b committed idle at r f = record {
  is_open = f.is_open;
  says = record { now = λ o. refl; keeps = λ same o. f.says.keeps same o ∙ sym (ap bytes_in (earlier y.committed o (omega (arith, at)))); had = had };
  low = f.low;
  few = f.few;
  under = f.under;
  told = f.told;
  some = f.some;
  steps = f.steps;
  inside = f.inside;
  place = f.place;
  noted = f.noted;
  shows = inr (inr (record {
    mark = GivenUp (committed + 1);
    there = subst (λ ms. Contains ms (GivenUp (committed + 1))) (sym r.marks)
        (Contains-append_left (GivenUp (committed + 1) ∷ []) old.marks (GivenUp (committed + 1)) (Contains-push [] (GivenUp (committed + 1))));
    late = omega (arith, at);
  }));
  groups = all new.floor (let is = r.floor in omega (arith, is)) (let is = r.floor in omega (arith, is));
  floor = inl (inl (let is = r.floor in let low = idle_floor y old.marks old.floor idle f.floor in omega (arith, is, low, at)));
}
  where
    all : (n : ℕ) → committed + 1 ≤ n → old.floor ≤ n → All (λ c. group_of c ≤ n) new.changes
    all n here low = subst (All (λ c. group_of c ≤ n)) (sym r.goes.back.are)
        (back_low n r.goes.check.group (committed + 1) old.changes old.changes r.goes.back.back here
        (All-weaker (λ c. group_of c ≤ old.floor) (λ c. group_of c ≤ n) (λ c less. omega (arith, less, low)) old.changes f.groups) r.goes.back.each)

    earlier : (t o : ℕ) → t < committed + 1 → kept t new.changes o ≡ kept t old.changes o
    earlier t o less = ap (λ cs. kept t cs o) r.goes.back.are ∙ kept_back t r.goes.check.group (committed + 1) old.changes old.changes r.goes.back.back o less r.goes.back.each

    later : (t o : ℕ) → committed + 1 ≤ t → kept t new.changes o ≡ write_of new.changes o
    later t o less =
        let low = idle_floor y old.marks old.floor idle f.floor in
        kept_all t o new.changes (All-weaker (λ c. group_of c ≤ t) (λ c. object_of c ≡ o → group_of c ≤ t) (λ c small is. small) new.changes (all t less (omega (arith, low, at, less))))

    had_then : (objects : Objects) → HaveBeen b objects → HaveBeen (reverted (λ o. bytes_in (write_of new.changes o)) b) objects
    had_then objects (inl is) = inl is
    had_then objects (inr so) = inr (inr so)

    had : (t : ℕ) → y.committed ≤ t → HaveBeen (reverted (λ o. bytes_in (write_of new.changes o)) b) (λ o. bytes_in (kept t new.changes o))
    had t from = by (nat_le (committed + 1) t) refl
      where
        by : (z : Bool) → nat_le (committed + 1) t ≡ z → HaveBeen (reverted (λ o. bytes_in (write_of new.changes o)) b) (λ o. bytes_in (kept t new.changes o))
        by true is = inr (inl (λ o. ap bytes_in (later t o (is_low (committed + 1) t is))))
        by false is = had_then (λ o. bytes_in (kept t new.changes o))
            (have_same b (λ o. bytes_in (kept t old.changes o)) (λ o. bytes_in (kept t new.changes o)) (λ o. sym (ap bytes_in (earlier t o (high (committed + 1) t is)))) (f.says.had t from))
