-- A pool that was given back and a book beside a checkpoint, and how an import takes both up.
use Rattle.std.proofs.Common.{◌≡◌, ◌∙◌, ◌+◌, ◌<◌, ◌≤◌, ◌⊎◌, ◌++◌, ℕ, Bool, true, false, nat_le, cond, List, [], ◌∷◌, Option, All, inl, inr, refl, sym, ap, subst, arith}
use Rattle.std.specs.Prelude.{Contains, max}
use Rattle.std.proofs.lemmas.List.Elements.{All-append, All-cons, All-head, All-nil, All-tail, All-weaker, filter_passes}
use Rattle.draid_machine.specs.declared.event.Event.TheVariants as event
use Rattle.draid_machine.specs.declared.names.Key.{Key}
use Rattle.draid_machine.proofs.Small.{is_low}
use Rattle.draid_objects.specs.Changes.{Change, group_of, upto, write_of}
use Rattle.draid_objects.specs.Marks.{Dropped, GivenUp, Made, Mark, check_at, check_by, mark_group, marks_upto}
use Rattle.draid_objects.proofs.Checking.{marks_again}
use Rattle.draid_objects.proofs.Marking.{check_at_low}
use Rattle.draid_session.specs.Book.{Book, Objects}
use Rattle.draid_session.specs.Holds.{Did, Hold, On}
use Rattle.draid_session.specs.Keeping.{AreInStep}
use Rattle.draid_session.specs.Looks.{AllOf}
use Rattle.draid_session.specs.Marked.{Marked}
use Rattle.draid_session.specs.Opening.{DropsOlder, Finds, FreesOlder, Imports, MayFind}
use Rattle.draid_session.specs.Session.{FindsNoGroup, ImportsBack, IsStill, LeavesState}
use Rattle.draid_session.specs.State.{State, Store}
use Rattle.draid_session.proofs.Calm.{IsCalmHold, calm_follows, follows_store}
use Rattle.draid_session.proofs.Saying.{high, not_low, same_or_low}
use Rattle.draid_marked.specs.Keeping.{IsAmong, IsMark, MadeSo, MarksOpen, SaysMarks}
use Rattle.draid_marked.proofs.Marking.{contains_head, drop_at, made_low, mark_dropped, mark_kept}
use Rattle.draid_marked.proofs.Opening.{closed_low}

-- ---- what a group finds

-- what a group keeps, of what a later one keeps
under : (t group : ℕ) → t ≤ group → (cs : List Change) → upto t (upto group cs) ≡ upto t cs
under t group low [] = refl
under t group low (c ∷ cs) = by (nat_le (group_of c) group) refl (under t group low cs)
  where
    by : (b : Bool) → nat_le (group_of c) group ≡ b → upto t (upto group cs) ≡ upto t cs → upto t (cond b (c ∷ upto group cs) (upto group cs)) ≡ upto t (c ∷ cs)
    by true is rest = ap (λ xs. cond (nat_le (group_of c) t) (c ∷ xs) xs) rest
    by false is rest = (let more = high (group_of c) group is in
        rest ∙ sym (ap (λ b. cond b (c ∷ upto t cs) (upto t cs)) (not_low (group_of c) t (omega (arith, more, low)))))

-- a pool as it is where a group was found
pub record Found (x : State) (group : ℕ) (z : State) : Type 0 where
  pub from : x.committed ≤ group
  pub committed : z.committed ≡ group
  pub changes : z.store.changes ≡ upto group x.store.changes
  pub drops : List Mark
  pub marks : z.store.marks ≡ drops ++ marks_upto group x.store.marks
  pub each : AllOf (λ mark. (key : Key) × (mark ≡ Dropped key (group + 1))) drops
  pub floor : z.store.floor ≡ group + 1

found_from : (x : State) (group : ℕ) → MayFind x group → x.committed ≤ group
found_from x group (inl same) = omega (arith, same)
found_from x group (inr next) = (let is = next.1 in omega (arith, is))

drops_each : (x : State) (group : ℕ) (drops : List Mark) → All (DropsOlder x group) drops → AllOf (λ mark. (key : Key) × (mark ≡ Dropped key (group + 1))) drops
drops_each x group [] all = tt
drops_each x group (mark ∷ drops) all = (by mark (All-head (DropsOlder x group) mark drops all), drops_each x group drops (All-tail (DropsOlder x group) mark drops all))
  where
    by : (mark : Mark) → DropsOlder x group mark → (key : Key) × (mark ≡ Dropped key (group + 1))
    by (Dropped key t) d = (key, ap (Dropped key) d.0)
    by (Made t) d = absurd d
    by (GivenUp t) d = absurd d

finds_found : (x mid : State) (group : ℕ) → Finds x group mid → Found x group mid
finds_found x mid group f = record {
  from = found_from x group f.found;
  committed = f.committed;
  changes = f.changes;
  drops = f.drops;
  marks = f.marks;
  each = drops_each mid group f.drops f.drops_are;
  floor = f.floor;
}

older_calm : (x : State) (group : ℕ) (holds : List Hold) → FreesOlder x group holds → AllOf IsCalmHold holds
older_calm x group [] f = tt
older_calm x group (On v (Did (event.Free key t) w) ∷ holds) f = (tt, older_calm x group holds f.2)
older_calm x group holds f = absurd f

pub imports_found : (x new : State) (group : ℕ) → Imports x group new → Found x group new
imports_found x new group i =
    let one = finds_found x i.mid group i.finds in
    let same = follows_store i.holds i.mid new i.follows in
    record {
      from = one.from;
      committed = (calm_follows i.holds i.mid new (older_calm i.mid group i.holds i.older) i.follows).committed ∙ one.committed;
      changes = ap (λ (s : Store). s.changes) same ∙ one.changes;
      drops = one.drops;
      marks = ap (λ (s : Store). s.marks) same ∙ one.marks;
      each = one.each;
      floor = ap (λ (s : Store). s.floor) same ∙ one.floor;
    }

-- ---- its checkpoint

module _ (x : State) (group : ℕ) (z : State) (f : Found x group z) (mark : Option Objects) (is : IsMark x.store.changes (check_at group x.store.marks) mark) where
  abbrev base : List Mark
  base = marks_upto group x.store.marks

  abbrev cs : List Change
  cs = upto group x.store.changes

  base_is : IsMark cs (check_by base) mark
  base_is = mark_kept x.store.changes cs (check_by base) mark
      (λ check at object. ap (λ es. write_of es object) (under check.group group (check_at_low group x.store.marks check at) x.store.changes)) is

  at_base : (t : ℕ) → group ≤ t → IsMark cs (check_at t base) mark
  at_base t less = subst (λ ms. IsMark cs (check_by ms) mark) (sym (marks_again group t less x.store.marks)) base_is

  dropped_at : (t : ℕ) → group ≤ t → (drops : List Mark) → AllOf (λ d. (key : Key) × (d ≡ Dropped key (group + 1))) drops → IsMark cs (check_at t (drops ++ base)) mark
  dropped_at t less [] all = at_base t less
  dropped_at t less (d ∷ drops) all = subst (λ e. IsMark cs (check_at t (e ∷ (drops ++ base))) mark) (sym all.0.1) (drop_at t cs all.0.0 (group + 1) (drops ++ base) mark (dropped_at t less drops all.1))

  dropped_now : (drops : List Mark) → AllOf (λ d. (key : Key) × (d ≡ Dropped key (group + 1))) drops → IsMark cs (check_by (drops ++ base)) mark
  dropped_now [] all = base_is
  dropped_now (d ∷ drops) all = subst (λ e. IsMark cs (check_by (e ∷ (drops ++ base))) mark) (sym all.0.1) (mark_dropped cs all.0.0 (check_by (drops ++ base)) mark (dropped_now drops all.1))

  found_at : (t : ℕ) → group ≤ t → IsMark z.store.changes (check_at t z.store.marks) mark
  found_at t less = subst (λ es. IsMark es (check_at t z.store.marks) mark) (sym f.changes) (subst (λ ms. IsMark cs (check_at t ms) mark) (sym f.marks) (dropped_at t less f.drops f.each))

  found_now : IsMark z.store.changes (check_by z.store.marks) mark
  found_now = subst (λ es. IsMark es (check_by z.store.marks) mark) (sym f.changes) (subst (λ ms. IsMark cs (check_by ms) mark) (sym f.marks) (dropped_now f.drops f.each))

  dropped_low : (drops : List Mark) → AllOf (λ d. (key : Key) × (d ≡ Dropped key (group + 1))) drops → AllOf (MadeSo (λ g. g ≤ group)) (drops ++ base)
  dropped_low [] all = made_low group base (All-weaker (λ m. nat_le (mark_group m) group ≡ true) (λ m. mark_group m ≤ group) (λ m at. is_low (mark_group m) group at) base (filter_passes (λ m. nat_le (mark_group m) group) x.store.marks))
  dropped_low (d ∷ drops) all = (subst (MadeSo (λ g. g ≤ group)) (sym all.0.1) tt, dropped_low drops all.1)

  drops_below : (drops : List Mark) → AllOf (λ d. (key : Key) × (d ≡ Dropped key (group + 1))) drops → All (λ m. mark_group m ≤ group + 1) drops
  drops_below [] all = All-nil (λ m. mark_group m ≤ group + 1)
  drops_below (d ∷ drops) all = All-cons (λ m. mark_group m ≤ group + 1) d drops (subst (λ m. mark_group m ≤ group + 1) (sym all.0.1) (omega arith)) (drops_below drops all.1)

  -- the pool as it is opened
  pub found_opens : (b : Book) → AreInStep z → MarksOpen z z.store (record { book = b; mark = mark; kept_mark = mark; since_marks = [] })
  found_opens b steps = record {
    now = found_now;
    says = record {
      keeps = λ same. found_at z.committed (let at = f.committed in omega (arith, at));
      had = λ t from. (mark, contains_head mark [], found_at t (let at = f.committed in omega (arith, at, from)));
    };
    closed = closed_low z z.store.marks steps (subst (AllOf (MadeSo (λ g. g ≤ z.committed))) (sym f.marks) (subst (λ n. AllOf (MadeSo (λ g. g ≤ n)) (f.drops ++ base)) (sym f.committed) (dropped_low f.drops f.each)));
    low = subst (All (λ m. mark_group m ≤ max z.store.floor (z.committed + 1))) (sym f.marks)
        (All-append (λ m. mark_group m ≤ max z.store.floor (z.committed + 1)) f.drops base
        (All-weaker (λ m. mark_group m ≤ group + 1) (λ m. mark_group m ≤ max z.store.floor (z.committed + 1)) (λ m less. (let at = f.committed in omega (arith, at, less))) f.drops (drops_below f.drops f.each))
        (All-weaker (λ m. nat_le (mark_group m) group ≡ true) (λ m. mark_group m ≤ max z.store.floor (z.committed + 1)) (λ m is. (let less = is_low (mark_group m) group is in let at = f.committed in omega (arith, at, less))) base
        (filter_passes (λ m. nat_le (mark_group m) group) x.store.marks)));
    still = λ none. subst (All (λ m. mark_group m ≤ z.committed + 1)) (sym f.marks)
        (All-append (λ m. mark_group m ≤ z.committed + 1) f.drops base
        (All-weaker (λ m. mark_group m ≤ group + 1) (λ m. mark_group m ≤ z.committed + 1) (λ m less. (let at = f.committed in omega (arith, at, less))) f.drops (drops_below f.drops f.each))
        (All-weaker (λ m. nat_le (mark_group m) group ≡ true) (λ m. mark_group m ≤ z.committed + 1) (λ m is. (let less = is_low (mark_group m) group is in let at = f.committed in omega (arith, at, less))) base
        (filter_passes (λ m. nat_le (mark_group m) group) x.store.marks)));
  }

-- the checkpoint of the group that was found
pub record Finding (x : State) (m : Marked) (group : ℕ) : Type 0 where
  pub mark : Option Objects
  pub found : ((group ≡ m.book.group) × (mark ≡ m.kept_mark)) ⊎ ((m.book.group < group) × Contains (m.kept_mark ∷ m.since_marks) mark)
  pub is : IsMark x.store.changes (check_at group x.store.marks) mark

pub which_found : (x : State) (m : Marked) (group : ℕ) → m.book.group ≤ x.committed → x.committed ≤ group → SaysMarks x.committed x.store.changes x.store.marks m → Finding x m group
which_found x m group low from s = by (same_or_low m.book.group group (omega (arith, low, from)))
  where
    by : (m.book.group ≡ group) ⊎ (m.book.group < group) → Finding x m group
    by (inl same) =
        let own : x.committed ≡ group = omega (arith, low, from, same) in
        record { mark = m.kept_mark; found = inl (sym same, refl); is = subst (λ n. IsMark x.store.changes (check_at n x.store.marks) m.kept_mark) own (s.keeps (same ∙ sym own)) }
    by (inr less) = (let a = s.had group from in record { mark = a.0; found = inr (less, a.1); is = a.2 })

-- ---- a pool that is given back again

found_says : (x z : State) (m : Marked) (group : ℕ) → m.book.group ≤ x.committed → SaysMarks x.committed x.store.changes x.store.marks m → Found x group z → SaysMarks z.committed z.store.changes z.store.marks m
found_says x z m group low s f = record { keeps = keeps; had = had }
  where
    keeps : m.book.group ≡ z.committed → IsMark z.store.changes (check_at z.committed z.store.marks) m.kept_mark
    keeps same =
        let at = f.committed in
        let from = f.from in
        let own : x.committed ≡ group = omega (arith, same, low, at, from) in
        found_at x group z f m.kept_mark (subst (λ n. IsMark x.store.changes (check_at n x.store.marks) m.kept_mark) own (s.keeps (same ∙ (at ∙ sym own)))) z.committed (omega (arith, at))

    had : (t : ℕ) → z.committed ≤ t → IsAmong z.store.changes (check_at t z.store.marks) (m.kept_mark ∷ m.since_marks)
    had t from = (let a = s.had group f.from in let at = f.committed in (a.0, a.1, found_at x group z f a.0 a.2 t (omega (arith, at, from))))

still_says : (x y : State) (m : Marked) → IsStill x y → SaysMarks x.committed x.store.changes x.store.marks m → SaysMarks y.committed y.store.changes y.store.marks m
still_says x y m s says = subst (λ (z : State). SaysMarks z.committed z.store.changes z.store.marks m) (sym s.same) says

pub leaves_says : (x y : State) (m : Marked) → m.book.group ≤ x.committed → LeavesState x y → SaysMarks x.committed x.store.changes x.store.marks m → SaysMarks y.committed y.store.changes y.store.marks m
leaves_says x y m low (inl s) says = still_says x y m s says
leaves_says x y m low (inr (group, finds)) says = found_says x y m group low says (finds_found x y group finds)

pub back_says : (x y : State) (m : Marked) → m.book.group ≤ x.committed → ImportsBack x y → SaysMarks x.committed x.store.changes x.store.marks m → SaysMarks y.committed y.store.changes y.store.marks m
back_says x y m low (group, i) says = found_says x y m group low says (imports_found x y group i)

pub none_says : (x y : State) (m : Marked) → FindsNoGroup x y → SaysMarks x.committed x.store.changes x.store.marks m → SaysMarks y.committed y.store.changes y.store.marks m
none_says x y m n says = still_says (record x { pending = false }) y m n.is says
