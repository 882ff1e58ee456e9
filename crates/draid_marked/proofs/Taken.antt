-- What a checkpoint that is made, given up or gone back to is to a book beside it.
use Rattle.std.proofs.Common.{◌≢◌, ◌≡◌, ◌∙◌, ◌+◌, ◌<◌, ◌≤◌, ◌++◌, ℕ, false, List, [], ◌∷◌, Option, Some, None, All, inl, inr, refl, sym, ap, subst, arith}
use Rattle.std.specs.Prelude.{max, slice_get}
use Rattle.std.proofs.lemmas.List.Elements.{All-cons, All-weaker}
use Rattle.draid_spec.specs.declared.layout.Geometry.{Geometry}
use Rattle.draid_machine.specs.declared.event.Event.TheVariants as event
use Rattle.draid_machine.proofs.Small.{none_some}
use Rattle.draid_objects.specs.Changes.{group_of, kept, object_of, write_of}
use Rattle.draid_objects.specs.Marks.{GivenUp, Made, Mark, check_by, mark_group}
use Rattle.draid_objects.proofs.Finding.{kept_all}
use Rattle.draid_session.specs.Book.{Book, HaveBeen, NamesNext, Objects, doubtful, reverted, synced}
use Rattle.draid_session.specs.Discarding.{Discards, FreesKept}
use Rattle.draid_session.specs.Follows.{Follows}
use Rattle.draid_session.specs.GoingBack.{FreesBorn, GoesBack}
use Rattle.draid_session.specs.Groups as groups
use Rattle.draid_session.specs.Holds.{Did, Hold, LookedUber, On, OnUber, UberView}
use Rattle.draid_session.specs.Keeping.{AreInStep, KeepsOpen, bytes_in}
use Rattle.draid_session.specs.Looks.{AllOf}
use Rattle.draid_session.specs.Marked.{Marked, doubts, keeps_both, rewound, with_mark}
use Rattle.draid_session.specs.Phases.{End, Went}
use Rattle.draid_session.specs.Points.{given_up, marked}
use Rattle.draid_session.specs.State.{Metaslab, State, Store}
use Rattle.draid_session.specs.Taking.{StopsBehind}
use Rattle.draid_session.proofs.Calm.{IsCalmHold, calm_follows}
use Rattle.draid_session.proofs.Changing.{calm_fit}
use Rattle.draid_session.proofs.Grouping.{Steady, close_walk, group_walk, steady_inside, steady_steps}
use Rattle.draid_session.proofs.Groupwise.{IsSteadyHold}
use Rattle.draid_session.proofs.Looked.{follows_split}
use Rattle.draid_session.proofs.Reverted.{idle_floor, kept_back, reverted_fit}
use Rattle.draid_session.proofs.Syncing.{AreIdle, FinishLeaves, finishes, syncs_fit}
use Rattle.draid_marked.specs.Keeping.{AreStill, IsClosedIn, IsMark, MadeSo, MarksOpen, SaysMarks}
use Rattle.draid_marked.proofs.Marking.{made_low, mark_some, says_later, says_named, says_new}
use Rattle.draid_marked.proofs.Opening.{closed_low, closed_on, low_on}
use Rattle.draid_marked.proofs.Rising.{Rises, holds_rise}
use Rattle.draid_marked.proofs.Sharp.{sharp, sharp_fit}

-- ---- holds

all_behind : {A : Type 0} (P : A → Type 0) (xs ys : List A) → AllOf P (xs ++ ys) → AllOf P ys
all_behind P [] ys all = all
all_behind P (x ∷ xs) ys all = all_behind P xs ys all.1

-- as all marks of a store are of groups up to the one behind the committed one
all_low : (floor committed later n : ℕ) (marks : List Mark) → floor ≤ n → committed + 1 ≤ n → n ≤ later → All (λ mark. mark_group mark ≤ max floor (committed + 1)) marks → All (λ mark. mark_group mark ≤ later) marks
all_low floor committed later n marks above next on all = All-weaker (λ mark. mark_group mark ≤ max floor (committed + 1)) (λ mark. mark_group mark ≤ later) (λ mark less. omega (arith, less, above, next, on)) marks all

-- ---- a named group

-- what a pool is in whose committed group a checkpoint was made, or given up
pub named_open : (z : State) (store : Store) (b : Book) (mark : Option Objects) → All (λ m. mark_group m ≤ z.committed) store.marks → AreInStep z → IsMark store.changes (check_by store.marks) mark
    → MarksOpen z store (record { book = b; mark = mark; kept_mark = mark; since_marks = [] })
named_open z store b mark all steps now = record {
  now = now;
  says = says_named z.committed store.changes store.marks b mark all now;
  closed = closed_low z store.marks steps (made_low z.committed store.marks all);
  low = All-weaker (λ m. mark_group m ≤ z.committed) (λ m. mark_group m ≤ max store.floor (z.committed + 1)) (λ m less. omega (arith, less)) store.marks all;
  still = λ none. All-weaker (λ m. mark_group m ≤ z.committed) (λ m. mark_group m ≤ z.committed + 1) (λ m less. omega (arith, less)) store.marks all;
}

-- ---- one that is made, whose sync is stopped

module _ (old : State) (m : Marked) (fit : KeepsOpen old old.store m.book) (marks : MarksOpen old old.store m) (z : State) (holds : List Hold) (follows : Follows holds old z) (steady : AllOf IsSteadyHold holds)
    (later : old.committed ≤ z.committed) where
  rises : Rises old z
  rises = holds_rise holds old z steady follows

  pub made_stops : (end : End) (new : Store) → StopsBehind old.geometry old.perms old.store holds end new → MarksOpen z new (doubts (with_mark (Some m.book.now) m))
  made_stops end new s = subst (λ t. MarksOpen z t (doubts (with_mark (Some m.book.now) m))) (sym s.made) made
    where
      first : (a : State) × Follows s.front old a × Follows (OnUber s.u LookedUber ∷ (s.close ++ s.back)) a z
      first = follows_split s.front (OnUber s.u LookedUber ∷ (s.close ++ s.back)) old z (subst (λ hs. Follows hs old z) s.are follows)

      f : FinishLeaves old.geometry old.perms Went first.0 old.store m.book
      f = finishes old.geometry old.perms s.front Went old first.0 old.store m.book s.finishes first.1 refl fit

      rest : Follows (s.close ++ s.back) first.0 z
      rest = subst (λ (t : State). Follows (s.close ++ s.back) t z) first.2.1.acts first.2.2

      next : s.group ≡ first.0.committed + 1
      next = s.next ∙ ap (λ (u : UberView). u.committed + 1) first.2.1.sees

      parts : (c : State) × Follows s.close first.0 c × Follows s.back c z
      parts = follows_split s.close s.back first.0 z rest

      closing : Steady first.0 parts.0 × (Went ≡ Went → (k : ℕ) (y : Metaslab) → k < 0 + old.geometry.props.metaslabs → slice_get parts.0.metaslabs k ≡ Some y → y.world.closing ≡ Some s.group)
      closing = close_walk old.geometry old.perms s.group 0 old.geometry.props.metaslabs s.close Went 0 first.0 parts.0 s.closes parts.1 next (λ k y low there. absurd (omega (arith, low)))

      -- each metaslab closes the group, and has the next one open
      closed_at : IsClosedIn parts.0 s.group
      closed_at k y there =
          let inside : k < parts.0.geometry.props.metaslabs = steady_inside first.0 parts.0 closing.0 f.keeps.inside k y there in
          let low : k < old.geometry.props.metaslabs = subst (λ (g : Geometry). k < g.props.metaslabs) (closing.0.geometry ∙ f.layout refl) inside in
          let is = closing.1 refl k y (omega (arith, low)) there in
          let busy = (steady_steps first.0 parts.0 closing.0 f.keeps.steps k y there).busy s.group is in
          let open_group = busy.1 in
          omega (arith, open_group)

      back_steady : AllOf IsSteadyHold s.back
      back_steady = all_behind IsSteadyHold s.close s.back (all_behind IsSteadyHold (OnUber s.u LookedUber ∷ []) (s.close ++ s.back) (all_behind IsSteadyHold s.front (OnUber s.u LookedUber ∷ (s.close ++ s.back)) (subst (AllOf IsSteadyHold) s.are steady)))

      closed_now : AllOf (MadeSo (IsClosedIn z)) (Made s.group ∷ [])
      closed_now = closed_on parts.0 z (Made s.group ∷ []) (holds_rise s.back parts.0 z back_steady parts.2) (closed_at, tt)

      stays : Steady first.0 z
      stays = (group_walk old.geometry old.perms s.group s.thin (s.close ++ s.back) end first.0 z (inl (s.close, s.back, refl, s.closes, s.rest)) rest next f.keeps.steps f.keeps.inside f.keeps.place f.keeps.noted (f.layout refl)).1 s.stopped

      -- its group keeps the objects as they are
      own : (object : ℕ) → m.book.now object ≡ bytes_in (kept s.group old.store.changes object)
      own object =
          let low = idle_floor first.0 old.store.marks old.store.floor (f.idle refl) f.keeps.floor in
          fit.says.now object ∙ sym (ap bytes_in (kept_all s.group object old.store.changes
          (All-weaker (λ c. group_of c ≤ old.store.floor) (λ c. object_of c ≡ object → group_of c ≤ s.group) (λ c less same. omega (arith, less, low, next)) old.store.changes fit.groups)))

      made : MarksOpen z (marked (Made s.group) old.store) (doubts (with_mark (Some m.book.now) m))
      made = record {
        now = own;
        says = says_new z.committed old.store.changes old.store.changes (Made s.group) old.store.marks m (doubtful m.book) (Some m.book.now) refl
            (let low = f.keeps.low in omega (arith, low, next)) (λ t object less. refl) (λ ms. own)
            (says_later old.committed z.committed old.store.changes old.store.marks m fit.low later marks.says);
        closed = (closed_now.0, closed_on old z old.store.marks rises marks.closed);
        low = All-cons (λ mark. mark_group mark ≤ max old.store.floor (z.committed + 1)) (Made s.group) old.store.marks (let same = stays.committed in omega (arith, next, same))
            (low_on old.store.floor old.store.floor old.committed z.committed old.store.marks (omega arith) later marks.low);
        still = λ none. absurd (none_some (check_by (Made s.group ∷ old.store.marks)) (record { group = s.group; dropped = λ k. false }) none refl);
      }

  -- ---- where blocks are freed, and a sync follows

  -- the pool before the sync: no group is closing
  record Turned (u : UberView) (back : List Hold) : Type 0 where
    pub y : State
    pub after : Follows back y z
    pub idle : AreIdle y
    pub layout : y.geometry ≡ old.geometry
    pub sees : u.committed ≡ y.committed
    pub fits : KeepsOpen y old.store m.book
    pub on : old.committed ≤ y.committed

  turned : (front : List Hold) (u : UberView) (frees back : List Hold) → holds ≡ front ++ (OnUber u LookedUber ∷ (frees ++ back)) → groups.Finishes old.geometry old.perms front Went → AllOf IsCalmHold frees → Turned u back
  turned front u frees back are ends free_calm =
      let first = follows_split front (OnUber u LookedUber ∷ (frees ++ back)) old z (subst (λ hs. Follows hs old z) are follows) in
      let f = finishes old.geometry old.perms front Went old first.0 old.store m.book ends first.1 refl fit in
      let own = finishes old.geometry old.perms front Went old first.0 old.store (sharp old old.store m.book fit) ends first.1 refl (sharp_fit old old.store m.book fit) in
      let rest : Follows (frees ++ back) first.0 z = subst (λ (t : State). Follows (frees ++ back) t z) first.2.1.acts first.2.2 in
      let next = follows_split frees back first.0 z rest in
      let calm = calm_follows frees first.0 next.0 free_calm next.1 in
      record {
        y = next.0;
        after = next.2;
        idle = λ k y there. (let one = calm.back k y there in one.2.closing ∙ f.idle refl k one.0 one.1);
        layout = calm.geometry ∙ f.layout refl;
        sees = ap (λ (u : UberView). u.committed) first.2.1.sees ∙ sym calm.committed;
        fits = calm_fit first.0 next.0 old.store m.book calm f.keeps;
        on = (let low = own.keeps.low in let same = calm.committed in omega (arith, low, same));
      }

  -- a mark of the group behind the one that was seen, and all that were there, are of groups up to the one that the sync commits
  turned_low : (u : UberView) (back : List Hold) (t : Turned u back) (group thin : ℕ) (store : Store) (b : Book) → groups.Syncs old.geometry old.perms group thin back Went → KeepsOpen z store (synced group b)
      → (u.committed + 1 ≤ z.committed) × All (λ mark. mark_group mark ≤ z.committed) old.store.marks
  turned_low u back t group thin store b syncs keeps =
      let sharp_t = sharp t.y old.store m.book t.fits in
      let next = (syncs_fit old.geometry old.perms group thin back Went t.y z old.store sharp_t syncs t.after t.layout (sharp_fit t.y old.store m.book t.fits)).0 refl in
      let above = next.0.0 in
      let low = keeps.low in
      let sees = t.sees in
      let floor = idle_floor t.y old.store.marks old.store.floor t.idle t.fits.floor in
      let on = t.on in
      (omega (arith, above, low, sees), all_low old.store.floor old.committed z.committed (t.y.committed + 1) old.store.marks floor (omega (arith, on)) (omega (arith, above, low)) marks.low)

  -- so where the sync is stopped, up to the group behind the committed one
  turned_stops : (u : UberView) (back : List Hold) (t : Turned u back) (group thin : ℕ) (end : End) → groups.Syncs old.geometry old.perms group thin back end → end ≢ Went
      → (u.committed + 1 ≤ z.committed + 1) × All (λ mark. mark_group mark ≤ z.committed + 1) old.store.marks
  turned_stops u back t group thin end syncs stopped =
      let sharp_t = sharp t.y old.store m.book t.fits in
      let left = (syncs_fit old.geometry old.perms group thin back end t.y z old.store sharp_t syncs t.after t.layout (sharp_fit t.y old.store m.book t.fits)).1 stopped in
      let low = left.low in
      let sees = t.sees in
      let floor = idle_floor t.y old.store.marks old.store.floor t.idle t.fits.floor in
      let on = t.on in
      (omega (arith, low, sees), all_low old.store.floor old.committed (z.committed + 1) (t.y.committed + 1) old.store.marks floor (omega (arith, on)) (omega (arith, low)) marks.low)

  -- ---- one that is given up

  kept_calm : (at : ℕ) (frees : List Hold) → FreesKept old.store at frees → AllOf IsCalmHold frees
  kept_calm at [] f = tt
  kept_calm at (On v (Did (event.Free key t) w) ∷ frees) f = (tt, kept_calm at frees f.2)
  kept_calm at (hold ∷ frees) f = absurd f

  pub discarded : (at group thin : ℕ) (frees : List Hold) → Discards old.geometry old.perms old.store at group thin frees holds Went → KeepsOpen z (given_up at old.store) (synced group m.book)
      → MarksOpen z (given_up at old.store) (keeps_both group (with_mark None m))
  discarded at group thin frees d keeps =
      let t = turned d.front d.u frees d.back d.are d.finishes (kept_calm at frees d.frees_are) in
      let all = turned_low d.u d.back t group thin (given_up at old.store) m.book d.syncs keeps in
      let is = d.at_is in
      let first = all.0 in
      named_open z (given_up at old.store) (synced group m.book) None (All-cons (λ mark. mark_group mark ≤ z.committed) (GivenUp at) old.store.marks (omega (arith, is, first)) all.1) keeps.steps tt

  discard_late : (at group thin : ℕ) (frees : List Hold) (end : End) → Discards old.geometry old.perms old.store at group thin frees holds end → m.book.group < at
  discard_late at group thin frees end d =
      let t = turned d.front d.u frees d.back d.are d.finishes (kept_calm at frees d.frees_are) in
      let is = d.at_is in
      let low = t.fits.low in
      let sees = t.sees in
      omega (arith, is, low, sees)

  pub discard_stops : (at group thin : ℕ) (frees : List Hold) (end : End) → end ≢ Went → Discards old.geometry old.perms old.store at group thin frees holds end → MarksOpen z (given_up at old.store) (doubts (with_mark None m))
  discard_stops at group thin frees end stopped d = record {
    now = tt;
    says = says_new z.committed old.store.changes old.store.changes (GivenUp at) old.store.marks m (doubtful m.book) None refl (discard_late at group thin frees end d) (λ t object less. refl) (λ ms. tt)
        (says_later old.committed z.committed old.store.changes old.store.marks m fit.low later marks.says);
    closed = (tt, closed_on old z old.store.marks rises marks.closed);
    low = All-cons (λ mark. mark_group mark ≤ max (max at old.store.floor) (z.committed + 1)) (GivenUp at) old.store.marks (omega arith)
        (low_on old.store.floor (max at old.store.floor) old.committed z.committed old.store.marks (omega arith) later marks.low);
    still = λ none. (let t = turned d.front d.u frees d.back d.are d.finishes (kept_calm at frees d.frees_are) in let all = turned_stops d.u d.back t group thin end d.syncs stopped in let is = d.at_is in let first = all.0 in
        All-cons (λ mark. mark_group mark ≤ z.committed + 1) (GivenUp at) old.store.marks (omega (arith, is, first)) all.1);
  }

  -- ---- one that is gone back to

  born_calm : (check at : ℕ) (frees : List Hold) → FreesBorn check at frees → AllOf IsCalmHold frees
  born_calm check at [] f = tt
  born_calm check at (On v (Did (event.Free key t) w) ∷ frees) f = (tt, born_calm check at frees f.2)
  born_calm check at (hold ∷ frees) f = absurd f

  module _ (new : Store) (group thin : ℕ) (end : End) (d : GoesBack old.geometry old.perms old.store new group thin holds end) where
    t : Turned d.u d.back
    t = turned d.front d.u d.frees d.back d.are d.finishes (born_calm d.reverts.goes.check.group (d.u.committed + 1) d.frees d.frees_are)

    -- the objects of the checkpoint are those that there are then
    pub back_objects : (objects : Objects) × (m.mark ≡ Some objects) × ((object : ℕ) → objects object ≡ bytes_in (write_of new.changes object))
    back_objects =
        let one = mark_some old.store.changes d.reverts.goes.check m.mark (subst (λ o. IsMark old.store.changes o m.mark) d.reverts.goes.there marks.now) in
        (one.0, one.1, λ object. one.2 object ∙ sym (ap bytes_in (d.reverts.goes.back.now object)))

    abbrev objects : Objects
    objects = back_objects.0

    been : (others : Objects) → HaveBeen (reverted (λ object. bytes_in (write_of new.changes object)) m.book) others → HaveBeen (reverted objects m.book) others
    been others (inl is) = inl is
    been others (inr (inl is)) = inr (inl (λ object. is object ∙ sym (back_objects.2 object)))
    been others (inr (inr so)) = inr (inr so)

    reverted_same : (y : State) → KeepsOpen y new (reverted (λ object. bytes_in (write_of new.changes object)) m.book) → KeepsOpen y new (reverted objects m.book)
    reverted_same y f = record {
      is_open = f.is_open;
      says = record { now = back_objects.2; keeps = f.says.keeps; had = λ u from. been (λ o. bytes_in (kept u new.changes o)) (f.says.had u from) };
      low = f.low;
      few = f.few;
      under = f.under;
      told = f.told;
      some = f.some;
      steps = f.steps;
      inside = f.inside;
      place = f.place;
      noted = f.noted;
      shows = f.shows;
      groups = f.groups;
      floor = f.floor;
    }

    pub back_fit : (end ≡ Went → NamesNext m.book group × KeepsOpen z new (synced group (reverted objects m.book))) × ((end ≡ Went → ⊥) → KeepsOpen z new (doubtful (reverted objects m.book)))
    back_fit = syncs_fit old.geometry old.perms group thin d.back end t.y z new (reverted objects m.book) d.syncs t.after t.layout
        (reverted_same t.y (reverted_fit t.y old.store new m.book d.u.committed t.idle t.sees d.reverts t.fits))

    pub back_named : end ≡ Went → KeepsOpen z new (synced group (reverted objects m.book)) → MarksOpen z new (keeps_both group (rewound objects m))
    back_named went keeps =
        let all = turned_low d.u d.back t group thin new (reverted objects m.book) (subst (groups.Syncs old.geometry old.perms group thin d.back) went d.syncs) keeps in
        named_open z new (synced group (reverted objects m.book)) None
        (subst (All (λ mark. mark_group mark ≤ z.committed)) (sym d.reverts.marks) (All-cons (λ mark. mark_group mark ≤ z.committed) (GivenUp (d.u.committed + 1)) old.store.marks all.0 all.1)) keeps.steps
        (subst (λ ms. IsMark new.changes (check_by ms) None) (sym d.reverts.marks) tt)

    early : (u object : ℕ) → u < d.u.committed + 1 → kept u new.changes object ≡ kept u old.store.changes object
    early u object less = ap (λ cs. kept u cs object) d.reverts.goes.back.are
        ∙ kept_back u d.reverts.goes.check.group (d.u.committed + 1) old.store.changes old.store.changes d.reverts.goes.back.back object less d.reverts.goes.back.each

    pub back_stops : end ≢ Went → MarksOpen z new (doubts (rewound objects m))
    back_stops stopped = record {
      now = subst (λ ms. IsMark new.changes (check_by ms) None) (sym d.reverts.marks) tt;
      says = subst (λ ms. SaysMarks z.committed new.changes ms (doubts (rewound objects m))) (sym d.reverts.marks)
          (says_new z.committed old.store.changes new.changes (GivenUp (d.u.committed + 1)) old.store.marks m (doubtful (reverted objects m.book)) None refl
          (let low = t.fits.low in let sees = t.sees in omega (arith, low, sees)) early (λ ms. tt)
          (says_later old.committed z.committed old.store.changes old.store.marks m fit.low later marks.says));
      closed = subst (AllOf (MadeSo (IsClosedIn z))) (sym d.reverts.marks) (tt, closed_on old z old.store.marks rises marks.closed);
      low = subst (All (λ mark. mark_group mark ≤ max new.floor (z.committed + 1))) (sym d.reverts.marks)
          (let floor = d.reverts.floor in
          All-cons (λ mark. mark_group mark ≤ max new.floor (z.committed + 1)) (GivenUp (d.u.committed + 1)) old.store.marks (omega (arith, floor))
          (low_on old.store.floor new.floor old.committed z.committed old.store.marks (omega (arith, floor)) later marks.low));
      still = subst (AreStill z.committed) (sym d.reverts.marks)
          (λ none. (let all = turned_stops d.u d.back t group thin end d.syncs stopped in All-cons (λ mark. mark_group mark ≤ z.committed + 1) (GivenUp (d.u.committed + 1)) old.store.marks all.0 all.1));
    }
