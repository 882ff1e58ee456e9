-- A lane that meets the passes of the groups looks at each metaslab: these looks are holds of its own.
use Rattle.std.proofs.Common.{◌≡◌, ◌<◌, ◌≤◌, ◌+◌, ◌-◌, ◌++◌, ◌∷◌, ◌∙◌, [], inr, ℕ, zero, suc, true, List, Option, Some, None, Contains, arith, refl, sym, ap, subst, length, if◌then◌else◌, eq-eqb, ne_eqb}
use mathlib.Core.Logic.{dite}
use native.Mathlib.Decide.{ℕ_discrete}
use Rattle.std.specs.Prelude.{cond, nat_lt, slice_get, slice_index_or}
use Rattle.std.proofs.lemmas.Bool.Decides.{nat_tests}
use Rattle.std.proofs.lemmas.List.{length-append}
use Rattle.std.proofs.lemmas.List.Elements.{All-cons, All-nil}
use Rattle.std.proofs.lemmas.Option.{slice_get_within}
use Rattle.draid_rack.specs.declared.Rack as racks
use Rattle.draid_area.specs.declared.Area as areas
use Rattle.draid_machine.proofs.Small.{none_some}
use Rattle.draid_session.specs.Holds.{Hold, Looked, On, view_of}
use Rattle.draid_session.specs.Lanes.{holds_of}
use Rattle.draid_session.specs.State.{Metaslab, State}
use Rattle.draid_turn.specs.Calls.{Caller, Lock}
use Rattle.draid_turn.specs.Lists.{AllAbove, Ascends, StartsWith, merge, with_place}
use Rattle.draid_turn.specs.declared.past.Past.{Past}
use Rattle.draid_pool.specs.Metaslabs.{IsMetaslab}
use Rattle.draid_pool.specs.Pools.{part_in}
use Rattle.draid_pool.specs.declared.cell.Cell.{Cell}
use Rattle.draid_pool.proofs.BytesKept.{still_bytes}
use Rattle.draid_pool.proofs.Lists.{present, some_of}
use Rattle.draid_pool.proofs.Looking.{looks_at}
use Rattle.draid_lanes.specs.Governing.{lane_last}
use Rattle.draid_lanes.specs.Locks.{last_of, left_in}
use Rattle.draid_lanes.specs.Meeting.{EachMeets, Meets}
use Rattle.draid_lanes.specs.Traces.{IsShardTurn, LaneTurn, holds_in}
use Rattle.draid_lanes.specs.declared.locked.Locked.{Locked}
use Rattle.draid_lanes.proofs.Drifted.{left_append}
use Rattle.draid_lanes.proofs.Held.{has_place}
use Rattle.draid_lanes.proofs.OneTurn.{CameTo, HasCame, came_at, came_is, came_on}
use Rattle.draid_lanes.proofs.Tracing.{PassWent, Traced, starts_self}

-- ---- lists

get_push_end : {X : Type 0} (xs : List X) (z : X) → slice_get (xs ++ z ∷ []) (length xs) ≡ Some z
get_push_end [] z = refl
get_push_end (y ∷ xs) z = get_push_end xs z

get_push_front : {X : Type 0} (xs : List X) (z : X) (m : ℕ) → m < length xs → slice_get (xs ++ z ∷ []) m ≡ slice_get xs m
get_push_front [] z m lt = absurd (omega (arith, lt))
get_push_front (y ∷ xs) z zero lt = refl
get_push_front (y ∷ xs) z (suc m) lt = get_push_front xs z m (omega (arith, lt))

-- a list of what there is at each place
pub record Listed {X : Type 0} (n : ℕ) (P : ℕ → X → Type 0) : Type 0 where
  pub list : List X
  pub many : length list ≡ n
  pub each : (m : ℕ) (z : X) → slice_get list m ≡ Some z → P m z

listed_more : {X : Type 0} (n : ℕ) (P : ℕ → X → Type 0) → Listed n P → (last : (z : X) × P n z) → Listed (suc n) P
listed_more n P front last = record {
  list = front.list ++ last.0 ∷ [];
  many = (let long = length-append front.list (last.0 ∷ []) in let many = front.many in omega (arith, long, many));
  each = λ m z is. dite (ℕ_discrete m n)
      (λ same.
      let here = ap (slice_get (front.list ++ last.0 ∷ [])) (same ∙ sym front.many) ∙ get_push_end front.list last.0 in
      subst (λ k. P k z) (sym same) (subst (P n) (some_of (slice_get (front.list ++ last.0 ∷ []) m) last.0 z here is) last.1))
      (λ not.
      let within = slice_get_within (front.list ++ last.0 ∷ []) m z is in
      let long = length-append front.list (last.0 ∷ []) in
      let many = front.many in
      let less : m < length front.list = omega (arith, within, long, many, not) in
      front.each m z (sym (get_push_front front.list last.0 m less) ∙ is));
}

pub list_of : {X : Type 0} (n : ℕ) (P : ℕ → X → Type 0) → ((m : ℕ) → m < n → (z : X) × P m z) → Listed n P
list_of zero P at = record { list = []; many = refl; each = λ m z is. absurd (none_some None z refl is) }
list_of (suc n) P at = listed_more n P (list_of n P (λ m less. at m (omega (arith, less)))) (at n (omega arith))

-- ---- places

with_none : (x : ℕ) (xs : List ℕ) → AllAbove x xs → with_place x xs ≡ x ∷ xs
with_none x [] above = refl
with_none x (y ∷ xs) above = ap (λ b. if b then x ∷ y ∷ xs else y ∷ with_place x xs) (let less = above.0 in let is : nat_lt x y ≡ true = grind (arith, nat_tests, less) in is)

pub merge_none : (xs : List ℕ) → Ascends xs → merge xs [] ≡ xs
merge_none [] up = refl
merge_none (x ∷ xs) up = ap (with_place x) (merge_none xs up.1) ∙ with_none x xs up.0

-- ---- the looks of each lock

abbrev pub look_of : ℕ → Option Metaslab → List Hold
look_of m None = []
look_of m (Some y) = On (view_of m y) Looked ∷ []

looks_before : (m j : ℕ) (ys : List Metaslab) → j < m → holds_of (Some j) (looks_at m ys) ≡ []
unfolding looks_at
looks_before m j [] less = refl
looks_before m j (y ∷ ys) less =
    ap (λ b. cond b (On (view_of m y) Looked ∷ holds_of (Some j) (looks_at (m + 1) ys)) (holds_of (Some j) (looks_at (m + 1) ys))) (ne_eqb m j (λ same. omega (arith, same, less)))
    ∙ looks_before (m + 1) j ys (omega (arith, less))

looks_here : (m k : ℕ) (ys : List Metaslab) → holds_of (Some (m + k)) (looks_at m ys) ≡ look_of (m + k) (slice_get ys k)
unfolding looks_at
looks_here m k [] = refl
looks_here m zero (y ∷ ys) =
    let same : m ≡ m + 0 = omega arith in
    ap (λ b. cond b (On (view_of m y) Looked ∷ holds_of (Some (m + 0)) (looks_at (m + 1) ys)) (holds_of (Some (m + 0)) (looks_at (m + 1) ys))) (eq-eqb m (m + 0) same)
    ∙ (ap (λ hs. On (view_of m y) Looked ∷ hs) (looks_before (m + 1) (m + 0) ys (omega arith)) ∙ ap (λ j. On (view_of j y) Looked ∷ []) same)
looks_here m (suc k) (y ∷ ys) =
    let later : m + suc k ≡ m + 1 + k = omega arith in
    ap (λ b. cond b (On (view_of m y) Looked ∷ holds_of (Some (m + suc k)) (looks_at (m + 1) ys)) (holds_of (Some (m + suc k)) (looks_at (m + 1) ys))) (ne_eqb m (m + suc k) (λ same. omega (arith, same)))
    ∙ (ap (λ j. holds_of (Some j) (looks_at (m + 1) ys)) later ∙ (looks_here (m + 1) k ys ∙ ap (λ j. look_of j (slice_get ys k)) (sym later)))

-- of one lock there is the one look
pub looks_for : (k : ℕ) (ys : List Metaslab) → holds_of (Some k) (looks_at 0 ys) ≡ look_of k (slice_get ys k)
looks_for k ys = (let same : 0 + k ≡ k = omega arith in ap (λ j. holds_of (Some j) (looks_at 0 ys)) (sym same) ∙ (looks_here 0 k ys ∙ ap (λ j. look_of j (slice_get ys k)) same))

pub looks_uber : (m : ℕ) (ys : List Metaslab) → holds_of None (looks_at m ys) ≡ []
unfolding looks_at
looks_uber m [] = refl
looks_uber m (y ∷ ys) = looks_uber (m + 1) ys

-- ---- one metaslab

module _ {R A : Type 0} (rack : racks.Ghosts R) (area : areas.Ghosts A) (x : State) (lock : Lock (Cell R A)) (m : ℕ) (lane other met : Caller (Past (Cell R A))) (meets : Meets rack area lock lane other met) where
  -- the place of the look is the last one that was seen
  met_place : meets.place ≡ length met.seen - 1
  met_place = (let all = ap length meets.seen ∙ length-append meets.log (meets.left ∷ []) in let is = meets.place_is in omega (arith, all, is))

  -- the look found what it left
  found_same : left_in lock meets.log ≡ left_in lock met.seen
  found_same =
      ap (λ (c : Cell R A). c.shard) (sym meets.still)
      ∙ (sym (ap (λ (c : Cell R A). c.shard) (left_append lock.first meets.log (meets.left ∷ []))) ∙ ap (left_in lock) (sym meets.seen))

  module _ (y : Metaslab) (came : CameTo rack area x m (left_in lock met.seen) y) where
    turn_at : LaneTurn
    turn_at = record { place = length met.seen - 1; holds = On (view_of m y) Looked ∷ [] }

    glance_turn : IsShardTurn rack area x lock met.seen m (length met.seen - 1) (On (view_of m y) Looked ∷ [])
    glance_turn = record {
      log = meets.log;
      left = meets.left;
      place_is = sym met_place ∙ meets.place_is;
      begins = subst (λ seen. StartsWith seen (meets.log ++ meets.left ∷ [])) (sym meets.seen) (starts_self (meets.log ++ meets.left ∷ []));
      found = y;
      reached = y;
      found_is = came_at rack area x lock meets.log m (left_in lock met.seen) y found_same came;
      reached_is = came_at rack area x lock (meets.log ++ meets.left ∷ []) m (left_in lock met.seen) y (ap (left_in lock) (sym meets.seen)) came;
      follows = (Looked, y, refl, refl, refl);
      bytes = still_bytes rack area (part_in x m) (left_in lock meets.log) meets.left.left.shard y (λ pieces is. subst (λ (c : Cell R A). IsMetaslab rack area (part_in x m) pieces c.shard y) (sym meets.still) is);
    }

    pub glance_went : Ascends lane.own → other.own ≡ [] → PassWent rack area x lock m lane met (record { place = length met.seen - 1; holds = On (view_of m y) Looked ∷ [] } ∷ [])
    glance_went up none = record {
      own = meets.own ∙ ((λ i. merge lane.own (none i) ++ met_place i ∷ []) ∙ ap (λ l. l ++ (length met.seen - 1) ∷ []) (merge_none lane.own up));
      seen = meets.begins;
      above = All-cons (λ place. length lane.seen ≤ place) (length met.seen - 1) [] from (All-nil (λ place. length lane.seen ≤ place));
      below = All-cons (λ place. place < length met.seen) (length met.seen - 1) [] under (All-nil (λ place. place < length met.seen));
      ascends = (tt, tt);
      ends = inr (record { front = []; last = record { place = length met.seen - 1; holds = On (view_of m y) Looked ∷ [] }; are = refl; log = meets.log; left = meets.left; place_is = sym met_place ∙ meets.place_is; seen_is = meets.seen });
      shards = λ turn among. subst (λ (u : LaneTurn). IsShardTurn rack area x lock met.seen m u.place u.holds) (one_in turn among) glance_turn;
    }
      where
        long : length met.seen ≡ length meets.log + 1
        long = ap length meets.seen ∙ length-append meets.log (meets.left ∷ [])

        under : length met.seen - 1 < length met.seen
        under = omega (arith, long)

        from : length lane.seen ≤ length met.seen - 1
        from = (let all = ap length meets.behind.1 ∙ length-append lane.seen meets.behind.0 in omega (arith, all, long))

        one_in : (turn : LaneTurn) → Contains (record { place = length met.seen - 1; holds = On (view_of m y) Looked ∷ [] } ∷ []) turn → record { place = length met.seen - 1; holds = On (view_of m y) Looked ∷ [] } ≡ turn
        one_in turn among = by among.0 among.1 among.2
          where
            by : (k : ℕ) → k < 1 → slice_index_or (record { place = length met.seen - 1; holds = On (view_of m y) Looked ∷ [] } ∷ []) k turn ≡ turn → record { place = length met.seen - 1; holds = On (view_of m y) Looked ∷ [] } ≡ turn
            by zero less is = is
            by (suc k) less is = absurd (omega (arith, less))

-- ---- all of them

-- the turn in which one was looked at
abbrev pub glance_of : {R A : Type 0} → ℕ → Option Metaslab → Option (Caller (Past (Cell R A))) → List LaneTurn
glance_of m None pass = []
glance_of m (Some y) None = []
glance_of m (Some y) (Some pass) = record { place = length pass.seen - 1; holds = On (view_of m y) Looked ∷ [] } ∷ []

module _ {R A G W : Type 0} (rack : racks.Ghosts R) (area : areas.Ghosts A) (x : State) (old met : Locked R A G W) (others : List (Caller (Past (Cell R A)))) (locks : met.turns.now ≡ old.turns.now) (meets : EachMeets rack area old.turns.now old.passes.items others met.passes.items)
    (many : length old.passes.items ≡ length old.turns.now) (many_others : length others ≡ length old.turns.now) (ordered : (m : ℕ) (pass : Caller (Past (Cell R A))) → slice_get old.passes.items m ≡ Some pass → Ascends pass.own)
    (alone : (m : ℕ) (pass : Caller (Past (Cell R A))) → slice_get others m ≡ Some pass → pass.own ≡ []) (came : HasCame rack area x old) where
  -- what became of one
  pub record MetOne (m : ℕ) (lock : Lock (Cell R A)) : Type 0 where
    pub lane : Caller (Past (Cell R A))
    pub other : Caller (Past (Cell R A))
    pub next : Caller (Past (Cell R A))
    pub lane_is : slice_get old.passes.items m ≡ Some lane
    pub other_is : slice_get others m ≡ Some other
    pub next_is : slice_get met.passes.items m ≡ Some next
    pub took : Meets rack area lock lane other next
    pub y : Metaslab
    pub y_is : CameTo rack area x m (left_in lock next.seen) y

  met_one : (m : ℕ) (lock : Lock (Cell R A)) → slice_get old.turns.now m ≡ Some lock → MetOne m lock
  met_one m lock there =
      let within = slice_get_within old.turns.now m lock there in
      let lane = present old.passes.items m (omega (arith, within, many)) in
      let other = present others m (omega (arith, within, many_others)) in
      let z = meets.each m lock lane.0 other.0 there lane.1 other.1 in
      let was = came m (left_in lock lane.0.seen) (λ i. last_of (there i) (lane.1 i)) in
      let is = came_is rack area x m (left_in lock lane.0.seen) was.0 was.1 in
      let g = z.2.drifts.state (part_in x m) was.1.came.pieces was.0 is in
      record {
        lane = lane.0;
        other = other.0;
        next = z.0;
        lane_is = lane.1;
        other_is = other.1;
        next_is = z.1;
        took = z.2;
        y = g.reached;
        y_is = came_on rack area x m (left_in lock lane.0.seen) (left_in lock z.0.seen) was.0 g.reached g.now was.1 g.is g.since;
      }

  pub met_came : HasCame rack area x met
  met_came m shard at =
      let place = has_place met.turns.now met.passes.items m shard at in
      let one = met_one m place.lock (sym (ap (λ ls. slice_get ls m) locks) ∙ place.lock_is) in
      (one.y, subst (λ s. CameTo rack area x m s one.y) (some_of (lane_last met m) (left_in place.lock one.next.seen) shard (λ i. last_of (place.lock_is i) (one.next_is i)) at) one.y_is)

  -- what each metaslab was as it was looked at
  abbrev pub IsSeen : ℕ → Metaslab → Type 0
  IsSeen m y = (lock : Lock (Cell R A)) (next : Caller (Past (Cell R A))) → slice_get old.turns.now m ≡ Some lock → slice_get met.passes.items m ≡ Some next → CameTo rack area x m (left_in lock next.seen) y

  pub seen_all : Listed (length old.turns.now) IsSeen
  seen_all = list_of (length old.turns.now) IsSeen
      (λ m less.
      let lock = present old.turns.now m less in
      let one = met_one m lock.0 lock.1 in (
        one.y,
        λ other next there at.
            subst (λ (z : Lock (Cell R A) × Caller (Past (Cell R A))). CameTo rack area x m (left_in z.0 z.1.seen) one.y)
            (λ i. (some_of (slice_get old.turns.now m) lock.0 other lock.1 there i, some_of (slice_get met.passes.items m) one.next next one.next_is at i)) one.y_is,
      ))

  abbrev pub ys : List Metaslab
  ys = seen_all.list

  abbrev pub glances : ℕ → List LaneTurn
  glances m = glance_of m (slice_get ys m) (slice_get met.passes.items m)

  glance_same : (m : ℕ) → holds_of (Some m) (looks_at 0 ys) ≡ holds_in (glances m)
  glance_same m =
      let same : 0 + m ≡ m = omega arith in
      ap (λ k. holds_of (Some k) (looks_at 0 ys)) (sym same) ∙ (looks_here 0 m ys ∙ (ap (λ k. look_of k (slice_get ys m)) same ∙ by (slice_get ys m) refl (slice_get met.passes.items m) refl))
    where
      by : (o : Option Metaslab) → slice_get ys m ≡ o → (p : Option (Caller (Past (Cell R A)))) → slice_get met.passes.items m ≡ p → look_of m o ≡ holds_in (glance_of m o p)
      by None a p b = refl
      by (Some y) a (Some pass) b = refl
      by (Some y) a None b =
          let within = slice_get_within ys m y a in
          let long = seen_all.many in
          let lock = present old.turns.now m (omega (arith, within, long)) in
          let one = met_one m lock.0 lock.1 in
          absurd (none_some (slice_get met.passes.items m) one.next b one.next_is)

  pub met_traced : Traced rack area x old met glances (looks_at 0 ys) []
  met_traced = record {
    locks = locks;
    many = meets.many;
    same = glance_same;
    of_uber = looks_uber 0 ys;
    none = λ m none. lost m none (slice_get ys m) refl;
    each = λ m pass at lock there.
        (let one = met_one m lock there in
        let within = slice_get_within old.turns.now m lock there in
        let long = seen_all.many in
        let y = present ys m (omega (arith, within, long)) in
        let is : one.lane ≡ pass = some_of (slice_get old.passes.items m) one.lane pass one.lane_is at in
        let seen = seen_all.each m y.0 y.1 lock one.next there one.next_is in
        let went = glance_went rack area x lock m one.lane one.other one.next one.took y.0 seen (ordered m one.lane one.lane_is) (alone m one.other one.other_is) in (
          one.next,
          one.next_is,
          subst (λ ts. PassWent rack area x lock m pass one.next ts) (sym (λ i. glance_of m (y.1 i) (one.next_is i)))
              (subst (λ p. PassWent rack area x lock m p one.next (glance_of m (Some y.0) (Some one.next))) is went),
        ));
    absent = λ m none. gone m none (slice_get met.passes.items m) refl;
  }
    where
      beyond : (m : ℕ) → slice_get old.passes.items m ≡ None → (lock : Lock (Cell R A)) → slice_get old.turns.now m ≡ Some lock → ⊥
      beyond m none lock there = (let one = met_one m lock there in none_some (slice_get old.passes.items m) one.lane none one.lane_is)

      lost : (m : ℕ) → slice_get old.passes.items m ≡ None → (o : Option Metaslab) → slice_get ys m ≡ o → glance_of m (slice_get ys m) (slice_get met.passes.items m) ≡ []
      lost m none None a = ap (λ o. glance_of m o (slice_get met.passes.items m)) a
      lost m none (Some y) a =
          let within = slice_get_within ys m y a in
          let long = seen_all.many in
          let lock = present old.turns.now m (omega (arith, within, long)) in
          absurd (beyond m none lock.0 lock.1)

      gone : (m : ℕ) → slice_get old.passes.items m ≡ None → (o : Option (Caller (Past (Cell R A)))) → slice_get met.passes.items m ≡ o → slice_get met.passes.items m ≡ None
      gone m none None a = a
      gone m none (Some pass) a =
          let within = slice_get_within met.passes.items m pass a in
          let long = meets.many in
          let lane = present old.passes.items m (omega (arith, within, long)) in
          absurd (none_some (slice_get old.passes.items m) lane.0 none lane.1)
