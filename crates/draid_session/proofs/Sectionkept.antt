-- A section of writes, frees, reads and syncs keeps the book.
use Rattle.std.proofs.Common.{◌≡◌, ◌≢◌, ◌∙◌, ◌==◌, ◌+◌, ◌<◌, ◌≤◌, ◌⊎◌, ◌++◌, ℕ, suc, Bool, true, false, nat_le, List, [], ◌∷◌, Option, Some, None, All, inl, inr, refl, sym, ap, subst, arith, map, flat_map, max}
use Rattle.std.specs.Prelude.{⊤, slice_get}
use Rattle.std.proofs.lemmas.List.Elements.{All-nil, All-weaker}
use Rattle.std.proofs.lemmas.List.{append_cancel_right}
use Rattle.draid_spec.specs.declared.layout.Geometry.{Geometry}
use Rattle.draid_machine.specs.declared.event.Event.{Event}
use Rattle.draid_machine.specs.declared.event.Event.TheVariants as event
use Rattle.draid_machine.specs.State as machine
use Rattle.draid_machine.specs.Step.{CloseStep, CommitStep}
use Rattle.draid_machine.proofs.Small.{absurd_test, bool_cases, equal, is_equal, is_low, low, none_some, some_same}
use Rattle.draid_objects.specs.Changes.{Change, group_of, object_of, own}
use Rattle.draid_reply.specs.declared.reply.Reply.{Reply}
use Rattle.draid_script.specs.Writing.{IsForLanes}
use Rattle.draid_script.specs.Line.{Command}
use Rattle.draid_session.specs.Book.{Book}
use Rattle.draid_session.specs.Choices.{Choices}
use Rattle.draid_layouts.specs.Layout.{layout_of}
use Rattle.draid_session.specs.Follows.{Adds, Follows, Holds, MetaslabActs}
use Rattle.draid_session.specs.Holds.{Act, AreaFailed, AsksVersion, CommitFailed, CommitStarved, Committed, Did, Hold, Looked, LookedUber, MadeLeaf, NextLeaf, On, OnUber, RackFailed, Reserved, View, CallStarved}
use Rattle.draid_session.specs.Points.{HasLateMark}
use Rattle.draid_session.specs.Keeping.{IsInStep, HasAhead, HasUnsynced, IsLowFloor, IsNoted, IsUnderWay, KeepsOpen, SaysObjects, HasLowFloor}
use Rattle.draid_session.specs.LaneBook.{AnswersSection, AreCertain, Changes, Deed, LanesSay, Named}
use Rattle.draid_session.specs.Lanes.{Clashes, IsMerged, Lane, LanesRan, Names, Section, greatest, holds_of, is_of, store_of}
use Rattle.draid_session.specs.Looks.{AllOf}
use Rattle.draid_session.specs.State.{Metaslab, State, Store}
use Rattle.draid_session.proofs.Calm.{alike_by, step_alike}
use Rattle.draid_session.proofs.Groupwise.{InLine, IsSteady, IsSteadyHold, LiesIn, Rides, RidesAt, Trails, busy_place, chain_lies, chain_rides, held_by, idle_place, join, merged_rides, place, through}
use Rattle.draid_session.proofs.Lanerun as lane
use Rattle.draid_session.proofs.Lanewise.{all_both, all_more, every, filter_all, filter_so, lanes_of_locks, map_all, map_back, merged_all, merged_back}
use Rattle.draid_session.proofs.Lists.{some_of}
use Rattle.draid_session.proofs.Parts.{Ascends, Came, Changed, Grouped, IsOther, IsPart, OfNames, Part, RunFrom, Strict, changes_in, deeds_in, last_of, merge, merge_ascends, merged_more, merged_own, merges, merges_all, own_both, run_on, strict_low, strict_merge}
use Rattle.draid_session.proofs.Saying.{tells_later}
use Rattle.draid_session.proofs.Sectionwise.{Apart, Has, InSome, LaneRun, PartNamed, commits, end_place, lane_runs, merged_apart, merged_commits, rides_rising, tells_own}
use Rattle.draid_session.proofs.LanesSteady.{says_steady}
use Rattle.draid_session.proofs.LanesPend.{get_low, low_get, all_join, says_same, Fits, Pends, says_pend}
use Rattle.draid_session.proofs.LanesUpTo.{UpTo, DeedUpTo, lane_upto, names_end, turns_last, certain_lanes}

-- ---- the lanes' parts

-- of the object of a change this is so
abbrev OfObjects : (ℕ → Type 0) → Part → Type 0
OfObjects P (Changed d) = P (object_of d)
OfObjects P (Grouped g) = ⊤

other_or : (P : ℕ → Type 0) (o : ℕ) (ps : List Part) → AllOf (OfObjects P) ps → AllOf (IsOther o) ps ⊎ P o
other_or P o [] all = inl tt
other_or P o (Grouped g ∷ ps) all = elim (other_or P o ps all.1) [ inl others ↦ inl (tt, others) | inr is ↦ inr is ]
other_or P o (Changed d ∷ ps) all = by (object_of d == o) refl (other_or P o ps all.1)
  where
    by : (t : Bool) → (object_of d == o) ≡ t → AllOf (IsOther o) ps ⊎ P o → AllOf (IsOther o) (Changed d ∷ ps) ⊎ P o
    by true is rest = inr (subst P (is_equal (object_of d) o is) all.0)
    by false is (inl others) = inl (is, others)
    by false is (inr so) = inr so

-- some lane names an object
abbrev Somewhere : List (List Command) → ℕ → Type 0
Somewhere lanes object = (j : ℕ) × Names lanes j object

names_more : (commands : List Command) (more : List (List Command)) (object j : ℕ) → Names more j object → Names (commands ∷ more) (suc j) object
names_more commands more object j it = record { lane = it.lane; there = it.there; k = it.k; command = it.command; in_it = it.in_it; from = it.from; to = it.to }

somewhere_more : (commands : List Command) (more : List (List Command)) (object : ℕ) → Somewhere more object → Somewhere (commands ∷ more) object
somewhere_more commands more object (j, it) = (suc j, names_more commands more object j it)

names_first : (commands : List Command) (more : List (List Command)) (p : Part) → PartNamed commands p → OfObjects (Names (commands ∷ more) 0) p
names_first commands more (Changed d) (i, command, there, within) = record { lane = commands; there = refl; k = i; command = command; in_it = there; from = within.0; to = within.1 }
names_first commands more (Grouped g) is = tt

clash_more : (commands : List Command) (more : List (List Command)) (object : ℕ) → Clashes more object → Clashes (commands ∷ more) object
clash_more commands more object c =
    let one = c.first in
    let two = c.other in
    let before = c.before in
    record {
      i = suc c.i;
      j = suc c.j;
      before = omega (arith, before);
      first = record { lane = one.lane; there = one.there; k = one.k; command = one.command; in_it = one.in_it; from = one.from; to = one.to };
      other = record { lane = two.lane; there = two.there; k = two.k; command = two.command; in_it = two.in_it; from = two.from; to = two.to };
    }

-- ---- a section

module _ (x : State) (choices : Choices) (commands : List (List Command)) (replies : List (List Reply)) (new : State) (of : AllOf (AllOf IsForLanes) commands) (it : Section x choices commands replies new)
    (b : Book) (fit : KeepsOpen x x.store b) where
  abbrev c : ℕ
  c = x.committed

  abbrev many : ℕ
  many = x.geometry.props.metaslabs

  abbrev first : ℕ
  first = x.store.floor

  abbrev holds_in : List (Lane x choices) → List (List Hold)
  holds_in lanes = map (λ (l : Lane x choices). l.holds) lanes

  abbrev held : List (List Hold)
  held = holds_in it.lanes

  -- ---- along each lock

  ran_steady : (lanes : List (Lane x choices)) (commands : List (List Command)) (replies : List (List Reply)) → AllOf (AllOf IsForLanes) commands → LanesRan x choices lanes commands replies
      → AllOf (AllOf IsSteadyHold) (holds_in lanes)
  ran_steady [] [] [] of ran = tt
  ran_steady (l ∷ lanes) (cs ∷ more) (rs ∷ others) of ran = (says_steady x choices cs x.store l.store l.holds rs of.0 ran.0.says, ran_steady lanes more others of.1 ran.1)
  ran_steady [] [] (r ∷ rs) of ran = absurd ran
  ran_steady [] (k ∷ ks) replies of ran = absurd ran
  ran_steady (l ∷ lanes) [] replies of ran = absurd ran
  ran_steady (l ∷ lanes) (k ∷ ks) [] of ran = absurd ran

  lanes_steady : AllOf (AllOf IsSteadyHold) held
  lanes_steady = ran_steady it.lanes commands replies of it.ran

  order_steady : (lock : Option ℕ) → AllOf IsSteadyHold (it.together.each lock).order
  order_steady lock =
      let t = it.together.each lock in
      merged_all IsSteadyHold (map (holds_of lock) held) t.order
      (map_all (AllOf IsSteadyHold) (holds_of lock) held (all_more (AllOf IsSteadyHold) (λ holds. AllOf IsSteadyHold (holds_of lock holds)) held (λ holds all. filter_all IsSteadyHold (is_of lock) holds all) lanes_steady)) t.merged

  order_own : (lock : Option ℕ) → AllOf (λ hold. is_of lock hold ≡ true) (it.together.each lock).order
  order_own lock =
      let t = it.together.each lock in
      merged_all (λ hold. is_of lock hold ≡ true) (map (holds_of lock) held) t.order
      (map_all (AllOf (λ hold. is_of lock hold ≡ true)) (holds_of lock) held (every (λ holds. AllOf (λ hold. is_of lock hold ≡ true) (holds_of lock holds)) held (λ holds. filter_so (is_of lock) holds))) t.merged

  in_step : (m : ℕ) (y : Metaslab) → slice_get new.metaslabs m ≡ Some y → IsInStep new.committed y.world
  in_step = it.steps fit.steps

  back : (m : ℕ) (y : Metaslab) → slice_get new.metaslabs m ≡ Some y → (k : Metaslab) × (slice_get x.metaslabs m ≡ Some k)
  back m y there = low_get x.metaslabs m (subst (λ n. m < n) (sym it.together.rest.many) (get_low new.metaslabs m y there))

  inside : (m : ℕ) (y : Metaslab) → slice_get new.metaslabs m ≡ Some y → m < many
  inside m y there = (let k = back m y there in fit.inside m k.0 k.1)

  in_line : (m : ℕ) (y : Metaslab) → slice_get x.metaslabs m ≡ Some y → InLine y.world
  in_line m y there = λ g is. ((fit.steps m y there).busy g is).1

  -- a metaslab in the end
  record Reached (m : ℕ) (y : Metaslab) : Type 0 where
    pub last : Metaslab
    pub there : slice_get new.metaslabs m ≡ Some last
    pub rises : place y.world ≤ place last.world
    pub noted : IsNoted y → IsNoted last
    pub trails : (k : ℕ) → Trails k y → Trails k last

  reach : (m : ℕ) (y : Metaslab) → slice_get x.metaslabs m ≡ Some y → Reached m y
  reach m y there =
      let t = it.together.each (Some m) in
      let r = through m t.order x t.reached y (order_steady (Some m)) (order_own (Some m)) t.follows there (in_line m y there) in
      record { last = r.last; there = sym t.same ∙ r.there; rises = r.rises; noted = r.noted; trails = r.trails }

  origin : (y : Metaslab) × (slice_get new.metaslabs 0 ≡ Some y)
  origin = (let r = reach 0 fit.place.0 fit.place.1 in (r.last, r.there))

  absent : (m : ℕ) (order : List Hold) (s reached : State) → AllOf (λ hold. is_of (Some m) hold ≡ true) order → Follows order s reached → slice_get s.metaslabs m ≡ None → order ≡ []
  absent m [] s reached own follows none = refl
  absent m (On v act ∷ order) s reached own follows none =
      absurd (none_some (slice_get s.metaslabs v.metaslab) follows.1.before (ap (λ k. slice_get s.metaslabs k) (is_equal v.metaslab m own.0) ∙ none) follows.1.there)
  absent m (OnUber u act ∷ order) s reached own follows none = absurd (let is = own.0 in cc)

  abbrev start : Option Metaslab → ℕ
  start None = 0
  start (Some y) = place y.world

  abbrev from : ℕ → ℕ
  from m = start (slice_get x.metaslabs m)

  order_rides : (m : ℕ) → RidesAt (from m) (it.together.each (Some m)).order
  order_rides m = by (slice_get x.metaslabs m) refl
    where
      by : (o : Option Metaslab) → slice_get x.metaslabs m ≡ o → RidesAt (start o) (it.together.each (Some m)).order
      by None is = (let t = it.together.each (Some m) in subst (RidesAt 0) (sym (absent m t.order x t.reached (order_own (Some m)) t.follows is)) tt)
      by (Some y) is = (let t = it.together.each (Some m) in chain_rides m t.order x t.reached y (order_steady (Some m)) (order_own (Some m)) t.follows is (in_line m y is))

  order_lies : (m : ℕ) → AllOf (LiesIn new) (it.together.each (Some m)).order
  order_lies m = by (slice_get x.metaslabs m) refl
    where
      by : (o : Option Metaslab) → slice_get x.metaslabs m ≡ o → AllOf (LiesIn new) (it.together.each (Some m)).order
      by None is = (let t = it.together.each (Some m) in subst (AllOf (LiesIn new)) (sym (absent m t.order x t.reached (order_own (Some m)) t.follows is)) tt)
      by (Some y) is = (let t = it.together.each (Some m) in chain_lies new m t.order x t.reached y (order_steady (Some m)) (order_own (Some m)) t.follows is (in_line m y is) (fit.noted m y is) t.same)

  uber_lies : (order : List Hold) → AllOf (λ hold. is_of None hold ≡ true) order → AllOf (LiesIn new) order
  uber_lies [] own = tt
  uber_lies (On v act ∷ order) own = absurd (let is = own.0 in cc)
  uber_lies (OnUber u act ∷ order) own = (tt, uber_lies order own.1)

  lock_lies : (lock : Option ℕ) → AllOf (LiesIn new) (it.together.each lock).order
  lock_lies None = uber_lies (it.together.each None).order (order_own None)
  lock_lies (Some m) = order_lies m

  all_lie : AllOf (AllOf (LiesIn new)) held
  all_lie = lanes_of_locks (LiesIn new) held (λ lock. map_back (AllOf (LiesIn new)) (holds_of lock) held (merged_back (LiesIn new) (map (holds_of lock) held) (it.together.each lock).order (lock_lies lock) (it.together.each lock).merged))

  lanes_join : (lists : List (List Hold)) → ((m : ℕ) → AllOf (λ holds. RidesAt (from m) (holds_of (Some m) holds)) lists) → AllOf (Rides from) lists
  lanes_join [] each = tt
  lanes_join (holds ∷ lists) each = (join holds from (λ m. (each m).0), lanes_join lists (λ m. (each m).1))

  all_ride : AllOf (Rides from) held
  all_ride = lanes_join held (λ m. map_back (RidesAt (from m)) (holds_of (Some m)) held (merged_rides (map (holds_of (Some m)) held) (it.together.each (Some m)).order (from m) (it.together.each (Some m)).merged (order_rides m)))

  abbrev committed_in : List (Lane x choices) → List (List ℕ)
  committed_in lanes = map commits (map (holds_of (Some 0)) (holds_in lanes))

  all_apart : Apart (committed_in it.lanes)
  all_apart =
      let t = it.together.each (Some 0) in
      merged_apart (committed_in it.lanes) (commits t.order) (from 0) (merged_commits (map (holds_of (Some 0)) held) t.order t.merged) (rides_rising t.order (from 0) (order_rides 0))

  -- ---- at the beginning

  base_place : (w : machine.State) → IsInStep c w → c + c + 3 ≤ place w
  base_place w s = by w.closing refl
    where
      by : (o : Option ℕ) → w.closing ≡ o → c + c + 3 ≤ place w
      by None is = (let p = idle_place w is in let o = s.idle is in omega (arith, p, o))
      by (Some g) is = (let p = busy_place w g is in let q = s.busy g is in let q0 = q.0 in let q1 = q.1 in omega (arith, p, q0, q1))

  carry : (m k : ℕ) (y : Metaslab) → slice_get x.metaslabs m ≡ Some y → Trails k y → IsLowFloor new k × (new.committed < k → HasUnsynced new)
  carry m k y there t = (let r = reach m y there in lane.trails_end new m k r.last r.there (in_step m r.last r.there) (r.trails k t))

  ahead_trails : (a : HasAhead x) → Trails (c + 2) a.y
  ahead_trails a =
      let s = (fit.steps a.k a.y a.there).busy a.group a.closing in
      let s0 = s.0 in
      let s1 = s.1 in
      let p = busy_place a.y.world a.group a.closing in
      record { low = omega (arith, s0, s1, p); kept = λ small. (((fit.noted a.k a.y a.there).closes a.group a.closing).1, λ g is at. (a.group, a.closing, a.ahead)) }

  unsynced_trails : (u : HasUnsynced x) → Trails (c + 1) u.y
  unsynced_trails u =
      let p = base_place u.y.world (fit.steps u.k u.y u.there) in
      record {
        low = omega (arith, p);
        kept = λ small. (u.unsynced, λ g is at. absurd (let q = ((fit.steps u.k u.y u.there).busy g is).0 in omega (arith, q, at)));
      }

  c_low : c ≤ new.committed
  c_low =
      let r = reach 0 fit.place.0 fit.place.1 in
      let p = base_place fit.place.0.world (fit.steps 0 fit.place.0 fit.place.1) in
      let e = end_place new.committed r.last.world (in_step 0 r.last r.there) in
      let up = r.rises in
      omega (arith, p, e, up)

  from_is : (m : ℕ) (y : Metaslab) → slice_get x.metaslabs m ≡ Some y → from m ≡ place y.world
  from_is m y there = ap start there

  base : (m : ℕ) (y : Metaslab) → slice_get new.metaslabs m ≡ Some y → c + c + 3 ≤ from m
  base m y there =
      let k = back m y there in
      let p = base_place k.0.world (fit.steps m k.0 k.1) in
      let is = from_is m k.0 k.1 in
      omega (arith, p, is)

  low_down : (k floor : ℕ) → floor ≤ k → IsLowFloor new k → IsLowFloor new floor
  low_down k floor less (inl a) = inl (omega (arith, less, a))
  low_down k floor less (inr a) = (let a0 = a.0 in inr (omega (arith, less, a0), a.1))

  -- no block was dropped ahead, as no checkpoint stands
  low_first : IsLowFloor x first
  low_first = by fit.floor
    where
      by : HasLowFloor x x.store.marks first → IsLowFloor x first
      by (inl low) = low
      by (inr e) = absurd (e.stands it.unpointed)

  floors : (mine : ℕ → Type 0) → lane.Floors new c first many mine in_step inside origin from first
  floors mine = elim low_first [
    | inl l ↦ (let b0 = base 0 origin.0 origin.1 in let cl = c_low in record {
      base = base;
      m = 0;
      there = inside 0 origin.0 origin.1;
      found = omega (arith, l, b0);
      least = omega (arith);
      low = inl (omega (arith, l, cl));
      owes = λ more. inr l;
    })
    | inr a ↦ (let a0 = a.0 in let y = a.1 in let is = from_is y.k y.y y.there in let p = (ahead_trails y).low in let go = carry y.k (c + 2) y.y y.there (ahead_trails y) in record {
      base = base;
      m = y.k;
      there = fit.inside y.k y.y y.there;
      found = omega (arith, a0, is, p);
      least = omega (arith);
      low = low_down (c + 2) first a0 go.0;
      owes = λ more. elim (bool_cases (nat_le first (c + 1))) [ inl e ↦ inr (is_low first (c + 1) e) | inr e ↦ inl (go.1 (omega (arith, more, a0))) ];
    })
  ]

  ahead : (mine : ℕ → Type 0) → lane.Ahead new c first many mine in_step inside origin from (c + c + 1) first
  ahead mine = inr (λ m y there. (let p = base m y there in omega (arith, p)))

  -- ---- all lanes

  -- a part: of a later group than the committed one at the beginning; a change of a later one than in the end leaves a metaslab unsynced; a group that is named is committed in the end
  abbrev IsAll : Part → Type 0
  IsAll (Changed d) = (c < group_of d) × (new.committed < group_of d → HasUnsynced new) × (first ≤ group_of d)
  IsAll (Grouped g) = (c < g) × (first ≤ g) × (g ≤ new.committed)

  abbrev IsLate : ℕ → Change → Type 0
  IsLate floor d = (group_of d ≤ floor) × (new.committed < group_of d → HasUnsynced new)

  late_up : (floor more : ℕ) → floor ≤ more → (d : Change) → IsLate floor d → IsLate more d
  late_up floor more less d is = (let a = is.0 in (omega (arith, a, less), is.1))

  abbrev flat : List (Lane x choices) → List Change
  flat lanes = flat_map (λ (l : Lane x choices). l.own) lanes

  record LanesRun (lanes : List (Lane x choices)) (asked : List (List Command)) (said : List (List Reply)) : Type 0 where
    pub parts : List Part
    pub deeds : List (List Deed)
    pub says : LanesSay b asked said deeds
    pub merged : IsMerged deeds (deeds_in parts)
    pub ascends : Ascends (c + c + 1) parts
    pub strict : Strict b.group parts
    pub each : AllOf IsAll parts
    pub named : AllOf (OfNames (InSome (committed_in lanes))) parts
    pub names : AllOf (OfObjects (Somewhere asked)) parts
    pub low : IsLowFloor new (greatest x choices (λ (s : Store). s.floor) lanes)
    pub least : first ≤ greatest x choices (λ (s : Store). s.floor) lanes
    pub late : AllOf (IsLate (greatest x choices (λ (s : Store). s.floor) lanes)) (flat lanes)
    pub owned : (o : ℕ) → own o (changes_in parts) ≡ own o (flat lanes)

  done_all : (mine : ℕ → Type 0) (floor : ℕ) (p : Part) → lane.IsDone new c first many mine in_step inside origin floor p → IsAll p
  done_all mine floor (Changed d) is = (is.0, is.2, is.3)
  done_all mine floor (Grouped g) is = (is.0, is.1, is.2)

  done_named : (mine : ℕ → Type 0) (floor : ℕ) (p : Part) → lane.IsDone new c first many mine in_step inside origin floor p → OfNames mine p
  done_named mine floor (Changed d) is = tt
  done_named mine floor (Grouped g) is = is.3

  done_late : (mine : ℕ → Type 0) (floor : ℕ) (ps : List Part) → AllOf (lane.IsDone new c first many mine in_step inside origin floor) ps → AllOf (IsLate floor) (changes_in ps)
  done_late mine floor [] all = tt
  done_late mine floor (Changed d ∷ ps) all = all_both (IsLate floor) (changes_in ps) (d ∷ []) (done_late mine floor ps all.1) ((all.0.1, all.0.2), tt)
  done_late mine floor (Grouped g ∷ ps) all = done_late mine floor ps all.1

  of_or : (P Q : ℕ → Type 0) → ((g : ℕ) → P g → Q g) → (p : Part) → OfNames P p → OfNames Q p
  of_or P Q more (Changed d) is = tt
  of_or P Q more (Grouped g) is = more g is

  objects_or : (P Q : ℕ → Type 0) → ((g : ℕ) → P g → Q g) → (p : Part) → OfObjects P p → OfObjects Q p
  objects_or P Q more (Changed d) is = more (object_of d) is
  objects_or P Q more (Grouped g) is = tt

  max_low : (m n : ℕ) → IsLowFloor new m → IsLowFloor new n → IsLowFloor new (max m n)
  max_low m n (inl p) (inl q) = inl (omega (arith, p, q))
  max_low m n (inl p) (inr q) = (let q0 = q.0 in inr (omega (arith, p, q0), q.1))
  max_low m n (inr p) (inl q) = (let p0 = p.0 in inr (omega (arith, p0, q), p.1))
  max_low m n (inr p) (inr q) = (let p0 = p.0 in let q0 = q.0 in inr (omega (arith, p0, q0), p.1))

  lanes_run : (lanes : List (Lane x choices)) (commands : List (List Command)) (replies : List (List Reply)) → AllOf (AllOf IsForLanes) commands → LanesRan x choices lanes commands replies
      → ((object : ℕ) → Clashes commands object → ⊥) → AllOf (AllOf (LiesIn new)) (holds_in lanes) → AllOf (Rides from) (holds_in lanes) → Apart (committed_in lanes) → LanesRun lanes commands replies
  lanes_run [] [] [] of ran apart lies rides distinct = record {
    parts = [];
    deeds = [];
    says = tt;
    merged = All-nil (λ (l : List Deed). l ≡ []);
    ascends = tt;
    strict = tt;
    each = tt;
    named = tt;
    names = tt;
    low = (floors (λ g. ⊤)).low;
    least = omega (arith);
    late = tt;
    owned = λ o. refl;
  }
  lanes_run (l ∷ lanes) (cs ∷ more) (rs ∷ others) of ran apart lies rides distinct =
      let mine : ℕ → Type 0 = Has (commits (holds_of (Some 0) l.holds)) in
      let rest = lanes_run lanes more others of.1 ran.1 (λ object clash. apart object (clash_more cs more object clash)) lies.1 rides.1 distinct.1 in
      let one : LaneRun new c first many mine in_step inside origin x choices refl (c + c + 1) c cs rs x.store l.store b =
      lane_runs new c first many mine in_step inside origin x choices refl cs rs x.store l.store l.holds from (c + c + 1) c b of.0 ran.0.says rides.0 lies.0 (tells_own l.holds) (floors mine) (ahead mine) fit.says.now it.unpointed
      (base 0 origin.0 origin.1) in
      let parts = merge one.parts rest.parts in
      let m = merges one.parts rest.parts in
      let floor : ℕ = max l.store.floor (greatest x choices (λ (s : Store). s.floor) lanes) in
      let owned : changes_in one.parts ≡ l.own = append_cancel_right (changes_in one.parts) l.own x.store.changes (sym one.changes ∙ ran.0.changes) in
      let up = merge_ascends (c + c + 1) one.parts rest.parts one.ascends rest.ascends in
      let first_named = all_more (lane.IsDone new c first many mine in_step inside origin l.store.floor) (OfNames mine) one.parts (done_named mine l.store.floor) one.each in
      let first_names : AllOf (OfObjects (Names (cs ∷ more) 0)) one.parts = all_more (PartNamed cs) (OfObjects (Names (cs ∷ more) 0)) one.parts (names_first cs more) one.names in
      let apart_of : (o : ℕ) → AllOf (IsOther o) one.parts ⊎ AllOf (IsOther o) rest.parts = λ o. elim (other_or (Names (cs ∷ more) 0) o one.parts first_names) [
        | inl others ↦ inl others
        | inr here ↦ (elim (other_or (Somewhere more) o rest.parts rest.names) [
          | inl others ↦ inr others
          | inr there ↦ absurd (apart o (record { i = 0; j = suc there.0; before = omega (arith); first = here; other = names_more cs more o there.0 there.1 }))
        ])
      ] in
      record {
        parts = parts;
        deeds = deeds_in one.parts ∷ rest.deeds;
        says = (one.says, rest.says);
        merged = merged_more one.parts rest.parts parts rest.deeds m rest.merged;
        ascends = up;
        strict = strict_merge mine (InSome (committed_in lanes)) distinct.0 b.group (c + c + 1) one.parts rest.parts parts m up first_named rest.named (strict_low b.group c fit.low one.parts one.strict) rest.strict;
        each = merges_all IsAll one.parts rest.parts parts m (all_more (lane.IsDone new c first many mine in_step inside origin l.store.floor) IsAll one.parts (done_all mine l.store.floor) one.each) rest.each;
        named = merges_all (OfNames (InSome (committed_in (l ∷ lanes)))) one.parts rest.parts parts m
            (all_more (OfNames mine) (OfNames (InSome (committed_in (l ∷ lanes)))) one.parts (of_or mine (InSome (committed_in (l ∷ lanes))) (λ g has. inl has)) first_named)
            (all_more (OfNames (InSome (committed_in lanes))) (OfNames (InSome (committed_in (l ∷ lanes)))) rest.parts (of_or (InSome (committed_in lanes)) (InSome (committed_in (l ∷ lanes))) (λ g some. inr some)) rest.named);
        names = merges_all (OfObjects (Somewhere (cs ∷ more))) one.parts rest.parts parts m
            (all_more (OfObjects (Names (cs ∷ more) 0)) (OfObjects (Somewhere (cs ∷ more))) one.parts (objects_or (Names (cs ∷ more) 0) (Somewhere (cs ∷ more)) (λ o is. (0, is))) first_names)
            (all_more (OfObjects (Somewhere more)) (OfObjects (Somewhere (cs ∷ more))) rest.parts (objects_or (Somewhere more) (Somewhere (cs ∷ more)) (somewhere_more cs more)) rest.names);
        low = max_low l.store.floor (greatest x choices (λ (s : Store). s.floor) lanes) one.low rest.low;
        least = (let a = rest.least in omega (arith, a));
        late = all_both (IsLate floor) l.own (flat lanes)
            (all_more (IsLate l.store.floor) (IsLate floor) l.own (late_up l.store.floor floor (omega (arith))) (subst (AllOf (IsLate l.store.floor)) owned (done_late mine l.store.floor one.parts one.each)))
            (all_more (IsLate (greatest x choices (λ (s : Store). s.floor) lanes)) (IsLate floor) (flat lanes) (late_up (greatest x choices (λ (s : Store). s.floor) lanes) floor (omega (arith))) rest.late);
        owned = λ o. merged_own o one.parts rest.parts parts m (apart_of o) ∙ ((λ i. own o (owned i) ++ rest.owned o i) ∙ sym (own_both o l.own (flat lanes)));
      }
  lanes_run [] [] (r ∷ rs) of ran apart lies rides distinct = absurd ran
  lanes_run [] (k ∷ ks) replies of ran apart lies rides distinct = absurd ran
  lanes_run (l ∷ lanes) [] replies of ran apart lies rides distinct = absurd ran
  lanes_run (l ∷ lanes) (k ∷ ks) [] of ran apart lies rides distinct = absurd ran

  all_run : LanesRun it.lanes commands replies
  all_run = lanes_run it.lanes commands replies of it.ran it.apart all_lie all_ride all_apart

  -- ---- in the end

  ran_pends : (lanes : List (Lane x choices)) (commands : List (List Command)) (replies : List (List Reply)) → AllOf (AllOf IsForLanes) commands → LanesRan x choices lanes commands replies
      → AllOf (AllOf (LiesIn new)) (holds_in lanes) → AllOf (Rides from) (holds_in lanes) → AllOf (AllOf (Pends new)) (holds_in lanes)
  ran_pends [] [] [] of ran lies rides = tt
  ran_pends (l ∷ lanes) (cs ∷ more) (rs ∷ others) of ran lies rides =
      (says_pend new x choices (let i = inside 0 origin.0 origin.1 in omega (arith, i)) cs x.store l.store l.holds rs from of.0 ran.0.says lies.0 rides.0, ran_pends lanes more others of.1 ran.1 lies.1 rides.1)
  ran_pends [] [] (r ∷ rs) of ran lies rides = absurd ran
  ran_pends [] (k ∷ ks) replies of ran lies rides = absurd ran
  ran_pends (l ∷ lanes) [] replies of ran lies rides = absurd ran
  ran_pends (l ∷ lanes) (k ∷ ks) [] of ran lies rides = absurd ran

  uber_pends : AllOf (Pends new) (it.together.each None).order
  uber_pends =
      let t = it.together.each None in
      merged_all (Pends new) (map (holds_of None) held) t.order
      (map_all (AllOf (Pends new)) (holds_of None) held (all_more (AllOf (Pends new)) (λ holds. AllOf (Pends new) (holds_of None holds)) held (λ holds all. filter_all (Pends new) (is_of None) holds all)
      (ran_pends it.lanes commands replies of it.ran all_lie all_ride))) t.merged

  -- a commit that was refused is of the group that metaslab 0 closes, or it was refused before
  abbrev Waits : State → Type 0
  Waits s = s.pending ≡ true → Fits new (s.committed + 1) ⊎ ((x.pending ≡ true) × (s.committed ≡ c))

  hold_waits : (hold : Hold) (s z : State) → Pends new hold → Holds hold s z → Waits s → Waits z
  hold_waits (On v act) s z p h w = subst Waits (sym h.made) w
  hold_waits (OnUber u LookedUber) s z p h w = subst Waits (sym h.acts) w
  hold_waits (OnUber u (Committed group)) s z p h w = subst Waits (sym h.acts.2) (λ pending. absurd (cc))
  hold_waits (OnUber u (CommitFailed t)) s z p h w =
      subst Waits (sym h.acts.2) (λ pending. inl (subst (Fits new) (p.0 ∙ ap (λ n. n + 1) (ap (λ (k : _). k.committed) h.sees)) p.1))
  hold_waits (OnUber u (CommitStarved t)) s z p h w =
      subst Waits (sym h.acts.2) (λ pending. inl (subst (Fits new) (p.0 ∙ ap (λ n. n + 1) (ap (λ (k : _). k.committed) h.sees)) p.1))
  hold_waits (OnUber u (NextLeaf next)) s z p h w = subst Waits (sym h.acts) w
  hold_waits (OnUber u (AsksVersion version)) s z p h w = subst Waits (sym h.acts) w

  chain_waits : (order : List Hold) (s z : State) → AllOf (Pends new) order → Follows order s z → Waits s → Waits z
  chain_waits [] s z all follows w = subst Waits (sym follows) w
  chain_waits (hold ∷ order) s z all follows w = chain_waits order follows.0 z all.1 follows.2 (hold_waits hold s follows.0 all.0 follows.1 w)

  noted : (m : ℕ) (y : Metaslab) → slice_get new.metaslabs m ≡ Some y → IsNoted y
  noted m y there =
      let k = back m y there in
      let r = reach m k.0 k.1 in
      subst IsNoted (some_of (slice_get new.metaslabs m) r.last y r.there there) (r.noted (fit.noted m k.0 k.1))

  waits_end : new.pending ≡ true → Fits new (new.committed + 1) ⊎ ((x.pending ≡ true) × (new.committed ≡ c))
  waits_end pending =
      let t = it.together.each None in
      let w = chain_waits t.order x t.reached uber_pends t.follows (λ p. inr (p, refl)) in
      elim (w (t.same.6 ∙ pending)) [ inl fits ↦ inl (subst (λ n. Fits new (n + 1)) t.same.0 fits) | inr was ↦ inr (was.0, sym t.same.0 ∙ was.1) ]

  -- some metaslab isn't synced, or something befell the checkpoint since the committed group
  abbrev StillShows : Type 0
  StillShows = HasUnsynced new ⊎ HasLateMark new.committed x.store.marks

  -- so it is where it was so, and no group was committed
  still : HasUnsynced x ⊎ HasLateMark c x.store.marks → new.committed ≡ c → StillShows
  still (inl u) same = inl ((carry u.k (c + 1) u.y u.there (unsynced_trails u)).1 (omega (arith, same)))
  still (inr late) same = inr (subst (λ n. HasLateMark n x.store.marks) (sym same) late)

  refused_unsynced : new.pending ≡ true → StillShows
  refused_unsynced pending = elim (waits_end pending) [ inl fits ↦ inl (closing fits) | inr was ↦ before was ]
    where
      closing : Fits new (new.committed + 1) → HasUnsynced new
      closing (y, there, high) = by y.world.closing refl
        where
          by : (o : Option ℕ) → y.world.closing ≡ o → HasUnsynced new
          by None is = (let p = idle_place y.world is in let q = (in_step 0 y there).idle is in absurd (omega (arith, p, q, high)))
          by (Some g) is = record { k = 0; y = y; there = there; unsynced = ((noted 0 y there).closes g is).1 }

      before : (x.pending ≡ true) × (new.committed ≡ c) → StillShows
      before (was, same) = elim fit.shows [ inl all ↦ absurd (let a = all.1 in cc) | inr u ↦ still u same ]

  -- what befell the objects before the section
  earlier : All (λ d. group_of d ≤ new.committed) x.store.changes ⊎ StillShows
  earlier = elim fit.shows [ inl all ↦ inl (All-weaker (λ d. group_of d ≤ c) (λ d. group_of d ≤ new.committed) (λ d less. (let cl = c_low in omega (arith, less, cl))) x.store.changes all.0) | inr u ↦ by u ]
    where
      up : first ≤ new.committed → All (λ d. group_of d ≤ new.committed) x.store.changes
      up high = All-weaker (λ d. group_of d ≤ first) (λ d. group_of d ≤ new.committed) (λ d less. omega (arith, less, high)) x.store.changes fit.groups

      later : new.committed + 0 ≢ c → All (λ d. group_of d ≤ new.committed) x.store.changes ⊎ StillShows
      later other = elim low_first [
        | inl l ↦ inl (up (let cl = c_low in omega (arith, l, cl, other)))
        | inr a ↦ (let a0 = a.0 in elim (bool_cases (nat_le (c + 2) new.committed)) [
          | inl e ↦ inl (up (let far = is_low (c + 2) new.committed e in omega (arith, a0, far)))
          | inr e ↦ inr (inl ((carry a.1.k (c + 2) a.1.y a.1.there (ahead_trails a.1)).1 (let not : c + 2 ≤ new.committed → ⊥ = λ less. absurd_test (nat_le (c + 2) new.committed) (low (c + 2) new.committed less) e in omega (arith, not))))
        ])
      ]

      by : HasUnsynced x ⊎ HasLateMark c x.store.marks → All (λ d. group_of d ≤ new.committed) x.store.changes ⊎ StillShows
      by u = elim (bool_cases (new.committed == c)) [
        | inl e ↦ inr (still u (is_equal new.committed c e))
        | inr e ↦ later (λ same. (let s : new.committed ≡ c = omega (arith, same) in absurd_test (new.committed == c) (equal new.committed c s) e))
      ]

  lately : (floor : ℕ) (ds : List Change) → AllOf (IsLate floor) ds → AllOf (λ d. group_of d ≤ new.committed) ds ⊎ HasUnsynced new
  lately floor [] all = inl tt
  lately floor (d ∷ ds) all = elim (bool_cases (nat_le (group_of d) new.committed)) [
    | inl e ↦ (elim (lately floor ds all.1) [ inl rest ↦ inl (is_low (group_of d) new.committed e, rest) | inr u ↦ inr u ])
    | inr e ↦ inr (all.0.1 (let not : group_of d ≤ new.committed → ⊥ = λ less. absurd_test (nat_le (group_of d) new.committed) (low (group_of d) new.committed less) e in omega (arith, not)))
  ]

  ran : LanesRun it.lanes commands replies
  ran = all_run

  parts_in : (ps : List Part) → AllOf IsAll ps → AllOf (IsPart c first new.committed) ps
  parts_in [] all = tt
  parts_in (Changed d ∷ ps) all = ((all.0.0, all.0.2), parts_in ps all.1)
  parts_in (Grouped g ∷ ps) all = (all.0, parts_in ps all.1)

  run : RunFrom c new.committed c x.store.changes b ran.parts
  run = run_on c first new.committed c (c + c + 1) x.store.changes b ran.parts fit.says (inl refl) (All-weaker (λ d. group_of d ≤ first) (Came (c + c + 1) first) (λ d less. inr less) x.store.changes fit.groups)
      ran.ascends ran.strict (parts_in ran.parts ran.each)

  -- a book behind a section, of which some groups may be untold
  book_keeps : (n : ℕ) → new.committed ≤ run.mid.group + (run.mid.untold + n) → (IsUnderWay new → new.committed + 1 ≤ run.mid.group + (run.mid.untold + n)) → KeepsOpen new new.store (record run.mid { untold = run.mid.untold + n })
  book_keeps = keeps
    where
      all : Store
      all = store_of x choices it.lanes

      owned : (o : ℕ) → own o (changes_in ran.parts ++ x.store.changes) ≡ own o all.changes
      owned o = own_both o (changes_in ran.parts) x.store.changes ∙ (ap (λ cs. cs ++ own o x.store.changes) (ran.owned o) ∙ sym (own_both o (flat it.lanes) x.store.changes))

      last_low : run.last ≤ new.committed
      last_low = elim run.what [ inl w ↦ (let e = w.0 in let cl = c_low in omega (arith, e, cl)) | inr w ↦ w.2 ]

      group_low : run.mid.group ≤ new.committed
      group_low = elim run.what [ inl w ↦ (let e = w.1 in let cl = c_low in let l = fit.low in omega (arith, e, cl, l)) | inr w ↦ (let e = w.0 in let l = w.2 in omega (arith, e, l)) ]

      says_end : SaysObjects new.committed (changes_in ran.parts ++ x.store.changes) run.mid
      says_end = elim (bool_cases (run.last == new.committed)) [
        | inl e ↦ subst (λ n. SaysObjects n (changes_in ran.parts ++ x.store.changes) run.mid) (is_equal run.last new.committed e) run.says
        | inr e ↦ tells_later run.last new.committed (changes_in ran.parts ++ x.store.changes) run.mid last_low (not e) run.says
      ]
        where
          not : (run.last == new.committed) ≡ false → run.mid.group ≡ new.committed → ⊥
          not e same = elim run.what [
            | inl w ↦ (let a = w.0 in let d = w.1 in let l = fit.low in let h = last_low in absurd_test (run.last == new.committed) (equal run.last new.committed (omega (arith, a, d, l, h, same))) e)
            | inr w ↦ absurd_test (run.last == new.committed) (equal run.last new.committed (sym w.0 ∙ same)) e
          ]

      says_all : SaysObjects new.committed all.changes run.mid
      says_all = says_same new.committed (changes_in ran.parts ++ x.store.changes) all.changes run.mid owned says_end

      keeps : (n : ℕ) → new.committed ≤ run.mid.group + (run.mid.untold + n) → (IsUnderWay new → new.committed + 1 ≤ run.mid.group + (run.mid.untold + n))
          → KeepsOpen new new.store (record run.mid { untold = run.mid.untold + n })
      keeps n few under = subst (λ s. KeepsOpen new s (record run.mid { untold = run.mid.untold + n })) (sym it.made) (record {
        is_open = run.is_open ∙ fit.is_open;
        says = record { now = says_all.now; keeps = says_all.keeps; had = says_all.had };
        low = group_low;
        few = few;
        under = under;
        told = sym it.together.rest.told ∙ fit.told;
        some = (let a = fit.some in let cl = c_low in omega (arith, a, cl));
        steps = in_step;
        inside = λ k y there. subst (λ (g : Geometry). k < g.props.metaslabs) it.together.rest.geometry (inside k y there);
        place = origin;
        noted = noted;
        shows = shows;
        groups = all_join (λ d. group_of d ≤ all.floor) (flat it.lanes) x.store.changes (all_more (IsLate all.floor) (λ d. group_of d ≤ all.floor) (flat it.lanes) (λ d is. is.0) ran.late)
            (All-weaker (λ d. group_of d ≤ first) (λ d. group_of d ≤ all.floor) (λ d less. (let l = ran.least in omega (arith, less, l))) x.store.changes fit.groups);
        floor = inl ran.low;
      })
        where
          quiet : AllOf (λ d. group_of d ≤ new.committed) (flat it.lanes) → All (λ d. group_of d ≤ new.committed) x.store.changes → (t : Bool) → new.pending ≡ t
              → (All (λ d. group_of d ≤ new.committed) all.changes × (new.pending ≡ false)) ⊎ StillShows
          quiet late old true is = inr (refused_unsynced is)
          quiet late old false is = inl (all_join (λ d. group_of d ≤ new.committed) (flat it.lanes) x.store.changes late old, is)

          shows : (All (λ d. group_of d ≤ new.committed) all.changes × (new.pending ≡ false)) ⊎ StillShows
          shows = elim (lately all.floor (flat it.lanes) ran.late) [
            | inl late ↦ (elim earlier [ inl old ↦ quiet late old new.pending refl | inr u ↦ inr u ])
            | inr u ↦ inr (inl u)
          ]

  -- ---- where each group is named

  -- the last group that is named, or the one that was committed
  abbrev top : ℕ
  top = run.last

  names_top : AllOf (DeedUpTo top) (deeds_in ran.parts)
  names_top =
      let e = names_end b.group ran.parts ran.strict in
      let g = turns_last ran.parts b run.mid run.turns in
      let less : last_of b.group ran.parts ≤ top = elim run.what [
        | inl w ↦ (let a = w.0 in let d = w.1 in let l = fit.low in omega (arith, g, a, d, l))
        | inr w ↦ (let a = w.0 in omega (arith, g, a))
      ] in
      all_more (DeedUpTo (last_of b.group ran.parts)) (DeedUpTo top) (deeds_in ran.parts) (deed_up (last_of b.group ran.parts) top less) e.0
    where
      deed_up : (g h : ℕ) → g ≤ h → (d : Deed) → DeedUpTo g d → DeedUpTo h d
      deed_up g h less (Changes object bytes) is = tt
      deed_up g h less (Named group) is = omega (arith, less, is)

  lanes_upto : (lanes : List (Lane x choices)) (asked : List (List Command)) (said : List (List Reply)) (deeds : List (List Deed)) → AllOf (AllOf IsForLanes) asked → LanesRan x choices lanes asked said → LanesSay b asked said deeds
      → AreCertain asked said → AllOf (AllOf (DeedUpTo top)) deeds → AllOf (Rides from) (holds_in lanes) → AllOf (AllOf (UpTo top)) (holds_in lanes)
  lanes_upto [] [] [] deeds of ran_ says certain all rides = tt
  lanes_upto (l ∷ lanes) (cs ∷ more) (rs ∷ others) (ds ∷ rest) of ran_ says certain all rides = (
    lane_upto x choices top (let i = inside 0 origin.0 origin.1 in omega (arith, i)) b cs rs x.store l.store l.holds ds from of.0 certain.0 ran_.0.says says.0 all.0 rides.0,
    lanes_upto lanes more others rest of.1 ran_.1 says.1 certain.1 all.1 rides.1,
  )
  lanes_upto (l ∷ lanes) (cs ∷ more) (rs ∷ others) [] of ran_ says certain all rides = absurd says
  lanes_upto [] [] (r ∷ rs) deeds of ran_ says certain all rides = absurd ran_
  lanes_upto [] (k ∷ ks) said deeds of ran_ says certain all rides = absurd ran_
  lanes_upto (l ∷ lanes) [] said deeds of ran_ says certain all rides = absurd ran_
  lanes_upto (l ∷ lanes) (k ∷ ks) [] deeds of ran_ says certain all rides = absurd ran_

  module _ (certain : AreCertain commands replies) where
    order_upto : (lock : Option ℕ) → AllOf (UpTo top) (it.together.each lock).order
    order_upto lock =
        let t = it.together.each lock in
        let all = lanes_upto it.lanes commands replies ran.deeds of it.ran ran.says certain (merged_back (DeedUpTo top) ran.deeds (deeds_in ran.parts) names_top ran.merged) all_ride in
        merged_all (UpTo top) (map (holds_of lock) held) t.order
        (map_all (AllOf (UpTo top)) (holds_of lock) held (all_more (AllOf (UpTo top)) (λ holds. AllOf (UpTo top) (holds_of lock holds)) held (λ holds up. filter_all (UpTo top) (is_of lock) holds up) all)) t.merged

    c_top : c ≤ top
    c_top = elim run.what [ inl w ↦ (let a = w.0 in omega (arith, a)) | inr w ↦ (let a = w.1 in omega (arith, a)) ]

    abbrev Upper : State → Type 0
    Upper s = (s.committed ≤ top) × (s.pending ≡ true → (x.pending ≡ true) × (s.committed ≡ c))

    hold_upper : (hold : Hold) (s z : State) → UpTo top hold → Holds hold s z → Upper s → Upper z
    hold_upper (On v act) s z p h w = subst Upper (sym h.made) w
    hold_upper (OnUber u LookedUber) s z p h w = subst Upper (sym h.acts) w
    hold_upper (OnUber u (Committed group)) s z p h w = subst Upper (sym h.acts.2) (p, λ pending. absurd (cc))
    hold_upper (OnUber u (CommitFailed t)) s z p h w = absurd p
    hold_upper (OnUber u (CommitStarved t)) s z p h w = absurd p
    hold_upper (OnUber u (NextLeaf next)) s z p h w = subst Upper (sym h.acts) w
    hold_upper (OnUber u (AsksVersion version)) s z p h w = subst Upper (sym h.acts) w

    chain_upper : (order : List Hold) (s z : State) → AllOf (UpTo top) order → Follows order s z → Upper s → Upper z
    chain_upper [] s z all follows w = subst Upper (sym follows) w
    chain_upper (hold ∷ order) s z all follows w = chain_upper order follows.0 z all.1 follows.2 (hold_upper hold s follows.0 all.0 follows.1 w)

    upper_end : (new.committed ≤ top) × (new.pending ≡ true → (x.pending ≡ true) × (new.committed ≡ c))
    upper_end =
        let t = it.together.each None in
        let w = chain_upper t.order x t.reached (order_upto None) t.follows (c_top, λ p. (p, refl)) in
        let up = w.0 in
        let same = t.same.0 in
        (omega (arith, up, same), λ p. (let q = w.1 (t.same.6 ∙ p) in (q.0, sym t.same.0 ∙ q.1)))

    -- a group that is closing is up to that one, or was closing before
    abbrev Closing : Metaslab → Type 0
    Closing y = (g : ℕ) → y.world.closing ≡ Some g → (g ≤ top) ⊎ (IsUnderWay x × (g ≡ c + 1))

    did_closing : (l : machine.Layout) (e : Event) (w : machine.State) (v : View) (y z : Metaslab) → IsSteady e → Adds l e w y z → UpTo top (On v (Did e w)) → Closing y → Closing z
    did_closing l (event.Close t) w v y z steady adds up k g is =
        let legal : CloseStep y.world t w = adds.legal in
        let same : t ≡ g = some_same z.world.closing t g (ap (λ (s : machine.State). s.closing) adds.world ∙ ap (λ (s : machine.State). s.closing) legal.made) is in
        inl (omega (arith, up, same))
    did_closing l (event.Commit t) w v y z steady adds up k g is =
        let legal : CommitStep l y.world t w = adds.legal in
        absurd (none_some z.world.closing g (ap (λ (s : machine.State). s.closing) (adds.world ∙ legal.made)) is)
    did_closing l e w v y z steady adds up k g is = k g (sym (alike_by y.world w z.world adds.world (step_alike l y.world e w steady adds.legal)).closing ∙ is)

    act_closing : (l : machine.Layout) (act : Act) (v : View) (y z : Metaslab) → IsSteadyHold (On v act) → MetaslabActs l act y z → UpTo top (On v act) → Closing y → Closing z
    act_closing l Looked v y z steady a up k g is = k g (sym (ap (λ (s : machine.State). s.closing) (ap (λ (k : Metaslab). k.world) a)) ∙ is)
    act_closing l (Did e w) v y z steady a up k g is = did_closing l e w v y z steady a up k g is
    act_closing l (Reserved n) v y z steady a up k g is = k g (sym (ap (λ (s : machine.State). s.closing) (ap (λ (k : Metaslab). k.world) a)) ∙ is)
    act_closing l (MadeLeaf n) v y z steady a up k g is = k g (sym (ap (λ (s : machine.State). s.closing) a.0.world) ∙ is)
    act_closing l (AreaFailed n) v y z steady a up k g is = k g (sym (ap (λ (s : machine.State). s.closing) a.0.world) ∙ is)
    act_closing l RackFailed v y z steady a up k g is = k g (sym (ap (λ (s : machine.State). s.closing) a.0.world) ∙ is)
    act_closing l CallStarved v y z steady a up k g is = k g (sym (ap (λ (s : machine.State). s.closing) a.0.world) ∙ is)

    chain_closing : (m : ℕ) (order : List Hold) (s reached : State) (y : Metaslab) → AllOf IsSteadyHold order → AllOf (λ hold. is_of (Some m) hold ≡ true) order → AllOf (UpTo top) order → Follows order s reached
        → slice_get s.metaslabs m ≡ Some y → Closing y → (z : Metaslab) × (slice_get reached.metaslabs m ≡ Some z) × Closing z
    chain_closing m [] s reached y steady own up follows there k = (y, ap (λ (r : State). slice_get r.metaslabs m) follows ∙ there, k)
    chain_closing m (On v act ∷ order) s reached y steady own up follows there k =
        let h = held_by m y v act s follows.0 (is_equal v.metaslab m own.0) there steady.0 follows.1 in
        chain_closing m order follows.0 reached h.after steady.1 own.1 up.1 follows.2 h.here (act_closing (layout_of s.geometry s.perms v.metaslab) act v y h.after steady.0 h.acts up.0 k)
    chain_closing m (OnUber u act ∷ order) s reached y steady own up follows there k = absurd (let is = own.0 in cc)

    closing_end : (m : ℕ) (y : Metaslab) → slice_get new.metaslabs m ≡ Some y → Closing y
    closing_end m y there =
        let k = back m y there in
        let t = it.together.each (Some m) in
        let first_ : Closing k.0 = λ g is. inr (inl (m, k.0, g, k.1, is), ((fit.steps m k.0 k.1).busy g is).0) in
        let r = chain_closing m t.order x t.reached k.0 (order_steady (Some m)) (order_own (Some m)) (order_upto (Some m)) t.follows k.1 first_ in
        subst Closing (some_of (slice_get new.metaslabs m) r.0 y (sym t.same ∙ r.1) there) r.2

    certain_few : new.committed ≤ run.mid.group + (run.mid.untold + 0)
    certain_few =
        let up = upper_end.0 in
        elim run.what [
          | inl w ↦ (let a = w.0 in let g = w.1 in let u = w.2 in let f = fit.few in omega (arith, up, a, g, u, f))
          | inr w ↦ (let a = w.0 in let u = w.3 in omega (arith, up, a, u))
        ]

    certain_under : IsUnderWay new → new.committed + 1 ≤ run.mid.group + (run.mid.untold + 0)
    certain_under way = elim run.what [
      | inl w ↦ (let a = w.0 in let g = w.1 in let u = w.2 in let f = fit.under (before way a) in let up = upper_end.0 in omega (arith, a, g, u, f, up))
      | inr w ↦ absurd (never way w.1 w.2)
    ]
      where
        at : (k : ℕ) (y : Metaslab) (g : ℕ) → slice_get new.metaslabs k ≡ Some y → y.world.closing ≡ Some g → (new.committed + 1 ≤ top) ⊎ (IsUnderWay x × (new.committed ≡ c))
        at k y g there closing =
            let s = ((in_step k y there).busy g closing).0 in
            elim (closing_end k y there g closing) [ inl up ↦ inl (omega (arith, s, up)) | inr was ↦ (let e = was.1 in inr (was.0, omega (arith, s, e))) ]

        before : IsUnderWay new → top ≡ c → IsUnderWay x
        before (inl (k, y, g, there, closing)) same = elim (at k y g there closing) [ inl up ↦ (let cl = c_low in absurd (omega (arith, up, same, cl))) | inr was ↦ was.0 ]
        before (inr pending) same = inr (upper_end.1 pending).0

        never : IsUnderWay new → c < top → top ≤ new.committed → ⊥
        never (inl (k, y, g, there, closing)) less high = elim (at k y g there closing) [ inl up ↦ absurd (omega (arith, up, high)) | inr was ↦ (let e = was.1 in absurd (omega (arith, e, less, high))) ]
        never (inr pending) less high = (let e = (upper_end.1 pending).1 in absurd (omega (arith, e, less, high)))

  -- ---- the book

  -- a book behind a section
  pub record SectionKept : Type 0 where
    pub book : Book
    pub answers : AnswersSection b commands replies book
    pub keeps : KeepsOpen new new.store book

  pub section_keeps : SectionKept
  section_keeps = elim (certain_lanes commands replies of) [
    | inl yes_ ↦ record {
      book = record run.mid { untold = run.mid.untold + 0 };
      answers = record { deeds = ran.deeds; order = deeds_in ran.parts; mid = run.mid; untold = 0; says = ran.says; merged = ran.merged; turns = run.turns; certain = λ all. refl; made = refl };
      keeps = book_keeps 0 (certain_few yes_) (certain_under yes_);
    }
    | inr not ↦ record {
      book = record run.mid { untold = run.mid.untold + (new.committed + 1) };
      answers = record { deeds = ran.deeds; order = deeds_in ran.parts; mid = run.mid; untold = new.committed + 1; says = ran.says; merged = ran.merged; turns = run.turns; certain = λ all. absurd (not all); made = refl };
      keeps = book_keeps (new.committed + 1) (omega (arith)) (λ way. omega (arith));
    }
  ]
