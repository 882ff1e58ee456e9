-- Looks at all metaslabs behind what a lane did: each stands in the lane's last turn of its lock.
use Rattle.std.proofs.Common.{◌≡◌, ◌<◌, ◌≤◌, ◌++◌, ◌∷◌, ◌∙◌, ◌⊎◌, [], inl, inr, ℕ, zero, suc, List, Option, Some, None, All, Contains, arith, refl, sym, ap, subst, length}
use Rattle.std.specs.Prelude.{slice_get, slice_index_or}
use Rattle.std.proofs.lemmas.Grind.{flat_map-append}
use Rattle.std.proofs.lemmas.List.{append-nil, append_assoc, map-append}
use Rattle.std.proofs.lemmas.List.Elements.{Contains-append_cases, Contains-append_left, Contains-append_right, filter-append}
use Rattle.draid_rack.specs.declared.Rack as racks
use Rattle.draid_area.specs.declared.Area as areas
use Rattle.draid_machine.proofs.Small.{none_some}
use Rattle.draid_session.specs.Holds.{Hold, Looked, On, view_of}
use Rattle.draid_session.specs.Lanes.{is_of}
use Rattle.draid_session.specs.State.{Metaslab, State}
use Rattle.draid_shard.specs.Part.{layout_in}
use Rattle.draid_shard.specs.declared.shard.Shard.{Shard}
use Rattle.draid_machine.specs.State as machine
use Rattle.draid_turn.specs.Calls.{Caller, Lock}
use Rattle.draid_turn.specs.Lists.{Ascends}
use Rattle.draid_turn.specs.declared.past.Past.{Past}
use Rattle.draid_pool.specs.Pools.{part_in}
use Rattle.draid_pool.specs.Shards.{FollowsIn}
use Rattle.draid_pool.specs.declared.cell.Cell.{Cell}
use Rattle.draid_lanes.specs.Locks.{left_in}
use Rattle.draid_lanes.specs.Traces.{Came, IsShardTurn, LaneTurn, holds_in, places_in}
use Rattle.draid_lanes.proofs.OneCame.{one_metaslab}
use Rattle.draid_lanes.specs.Governing.{lane_last}
use Rattle.draid_lanes.specs.Locks.{last_of}
use Rattle.draid_lanes.specs.declared.locked.Locked.{Locked}
use Rattle.draid_lanes.proofs.MeetWords.{Listed, list_of, look_of, looks_for, looks_uber}
use Rattle.draid_lanes.proofs.OneTurn.{CameTo, HasCame, came_to}
use Rattle.draid_lanes.proofs.Tracing.{EndsAt, PassWent, Traced}
use Rattle.draid_pool.proofs.Lists.{present, some_of}
use Rattle.draid_pool.proofs.Looking.{looks_at}
use Rattle.std.proofs.lemmas.Option.{slice_get_within}

-- a hold more in the last turn
pub add_last : Hold → List LaneTurn → List LaneTurn
add_last hold [] = []
add_last hold (t ∷ []) = record { place = t.place; holds = t.holds ++ hold ∷ [] } ∷ []
add_last hold (t ∷ u ∷ ts) = t ∷ add_last hold (u ∷ ts)

last_is : (hold : Hold) (front : List LaneTurn) (t : LaneTurn) → add_last hold (front ++ t ∷ []) ≡ front ++ record { place = t.place; holds = t.holds ++ hold ∷ [] } ∷ []
unfolding add_last
last_is hold [] t = refl
last_is hold (u ∷ []) t = refl
last_is hold (u ∷ v ∷ front) t = ap (λ ts. u ∷ ts) (last_is hold (v ∷ front) t)

-- the places are the same
pub last_places : (hold : Hold) (front : List LaneTurn) (t : LaneTurn) → places_in (add_last hold (front ++ t ∷ [])) ≡ places_in (front ++ t ∷ [])
last_places hold front t =
    ap places_in (last_is hold front t)
    ∙ (map-append (λ (u : LaneTurn). u.place) front (record { place = t.place; holds = t.holds ++ hold ∷ [] } ∷ []) ∙ sym (map-append (λ (u : LaneTurn). u.place) front (t ∷ [])))

-- and the hold comes behind all others
pub last_holds : (hold : Hold) (front : List LaneTurn) (t : LaneTurn) → holds_in (add_last hold (front ++ t ∷ [])) ≡ holds_in (front ++ t ∷ []) ++ hold ∷ []
last_holds hold front t =
    let f = λ (u : LaneTurn). u.holds in
    ap holds_in (last_is hold front t)
    ∙ (flat_map-append f front (record { place = t.place; holds = t.holds ++ hold ∷ [] } ∷ [])
    ∙ (ap (λ l. holds_in front ++ l) (append-nil (t.holds ++ hold ∷ []))
    ∙ (sym (append_assoc (holds_in front) t.holds (hold ∷ []))
    ∙ ap (λ l. l ++ hold ∷ []) (ap (λ l. holds_in front ++ l) (sym (append-nil t.holds)) ∙ sym (flat_map-append f front (t ∷ []))))))

-- a hold behind others
follows_more : (l : machine.Layout) (m : ℕ) (hs : List Hold) (y z : Metaslab) → FollowsIn l m hs y z → FollowsIn l m (hs ++ On (view_of m z) Looked ∷ []) y z
follows_more l m [] y z is = subst (λ v. FollowsIn l m (On (view_of m z) Looked ∷ []) v z) is (Looked, z, refl, refl, refl)
follows_more l m (h ∷ hs) y z f = (f.0, f.1, f.2, f.3, follows_more l m hs f.1 z f.4)

-- two beginnings as long are one
same_front : {E : Type 0} (xs ys rest : List E) (x y : E) → xs ++ x ∷ rest ≡ ys ++ y ∷ [] → length xs ≡ length ys → xs ++ x ∷ [] ≡ ys ++ y ∷ []
same_front [] [] rest x y is long = (let same : x ≡ y = cc in ap (λ z. z ∷ []) same)
same_front [] (z ∷ ys) rest x y is long = absurd (omega (arith, long))
same_front (z ∷ xs) [] rest x y is long = absurd (omega (arith, long))
same_front {E} (z ∷ xs) (w ∷ ys) rest x y is long =
    (let head : z ≡ w = cc in let tail : xs ++ x ∷ rest ≡ ys ++ y ∷ [] = cc in (λ i. head i ∷ same_front xs ys rest x y tail (omega (arith, long)) i))

module _ {R A : Type 0} (rack : racks.Ghosts R) (area : areas.Ghosts A) (x : State) where
  came_same : (m : ℕ) (now : Shard R A) (f g : Metaslab) → g ≡ f → (c : Came rack area (part_in x m) g now) (d : Came rack area (part_in x m) f now) → d.reached ≡ c.reached
  came_same m now f g same c d = subst (λ (h : Metaslab). (d : Came rack area (part_in x m) h now) → d.reached ≡ c.reached) same (λ d. one_metaslab rack area (part_in x m) g now d c) d

  -- what a shard stands for is one alone
  pub one_came : (m : ℕ) (now : Shard R A) (y z : Metaslab) → CameTo rack area x m now y → CameTo rack area x m now z → y ≡ z
  one_came m now y z a b = sym a.is ∙ (came_same m now a.first b.first (some_of (slice_get x.metaslabs m) b.first a.first b.there a.there) b.came a.came ∙ b.is)

  -- a look in a turn behind which nothing was seen
  look_turn : (lock : Lock (Cell R A)) (seen log : List (Past (Cell R A))) (left : Past (Cell R A)) (m place : ℕ) (holds : List Hold) (y : Metaslab) → place ≡ length log → seen ≡ log ++ left ∷ [] → CameTo rack area x m (left_in lock seen) y
      → IsShardTurn rack area x lock seen m place holds → IsShardTurn rack area x lock seen m place (holds ++ On (view_of m y) Looked ∷ [])
  look_turn lock seen log left m place holds y place_is seen_is came t =
      let long : length t.log ≡ length log = sym t.place_is ∙ place_is in
      let both : t.log ++ t.left ∷ t.begins.0 ≡ log ++ left ∷ [] = sym (append_assoc t.log (t.left ∷ []) t.begins.0) ∙ (sym t.begins.1 ∙ seen_is) in
      let same : t.log ++ t.left ∷ [] ≡ seen = same_front t.log log t.begins.0 t.left left both long ∙ sym seen_is in
      let reached : CameTo rack area x m (left_in lock seen) t.reached = subst (λ l. CameTo rack area x m (left_in lock l) t.reached) same (came_to rack area x lock (t.log ++ t.left ∷ []) m t.reached t.reached_is) in
      record {
        log = t.log;
        left = t.left;
        place_is = t.place_is;
        begins = t.begins;
        found = t.found;
        reached = t.reached;
        found_is = t.found_is;
        reached_is = t.reached_is;
        follows = subst (λ v. FollowsIn (layout_in (part_in x m)) m (holds ++ On (view_of m v) Looked ∷ []) t.found t.reached) (one_came m (left_in lock seen) t.reached y reached came)
            (follows_more (layout_in (part_in x m)) m holds t.found t.reached t.follows);
        bytes = t.bytes;
      }

  module _ (lock : Lock (Cell R A)) (m : ℕ) (pass next : Caller (Past (Cell R A))) (y : Metaslab) (came : CameTo rack area x m (left_in lock next.seen) y) where
    abbrev look : Hold
    look = On (view_of m y) Looked

    look_ends : (front : List LaneTurn) (last : LaneTurn) (log : List (Past (Cell R A))) (left : Past (Cell R A)) → last.place ≡ length log → next.seen ≡ log ++ left ∷ [] → PassWent rack area x lock m pass next (front ++ last ∷ [])
        → PassWent rack area x lock m pass next (add_last look (front ++ last ∷ []))
    look_ends front last log left place_is seen_is w =
        let same = sym (last_places look front last) in
        record {
          own = w.own ∙ ap (λ l. pass.own ++ l) same;
          seen = w.seen;
          above = subst (All (λ place. length pass.seen ≤ place)) same w.above;
          below = subst (All (λ place. place < length next.seen)) same w.below;
          ascends = subst Ascends same w.ascends;
          ends = inr (record { front = front; last = record { place = last.place; holds = last.holds ++ look ∷ [] }; are = last_is look front last; log = log; left = left; place_is = place_is; seen_is = seen_is });
          shards = λ turn among. elim (Contains-append_cases front (record { place = last.place; holds = last.holds ++ look ∷ [] } ∷ []) turn (subst (λ l. Contains l turn) (last_is look front last) among)) [
            | inl in_front ↦ w.shards turn (Contains-append_left front (last ∷ []) turn in_front)
            | inr at_end ↦ subst (λ (u : LaneTurn). IsShardTurn rack area x lock next.seen m u.place u.holds) (one_in turn at_end.0 at_end.1 at_end.2)
                (look_turn lock next.seen log left m last.place last.holds y place_is seen_is came (w.shards last (Contains-append_right front (last ∷ []) last (0, (let less : 0 < 1 = omega arith in less), refl))))
          ];
        }
      where
        one_in : (turn : LaneTurn) (k : ℕ) → k < 1 → slice_index_or (record { place = last.place; holds = last.holds ++ look ∷ [] } ∷ []) k turn ≡ turn → record { place = last.place; holds = last.holds ++ look ∷ [] } ≡ turn
        one_in turn zero less is = is
        one_in turn (suc k) less is = absurd (omega (arith, less))

    pub look_pass : (ts : List LaneTurn) → EndsAt rack area x next.seen ts → PassWent rack area x lock m pass next ts → PassWent rack area x lock m pass next (add_last look ts) × (holds_in (add_last look ts) ≡ holds_in ts ++ look ∷ [])
    look_pass ts e w = (
      subst (λ us. PassWent rack area x lock m pass next (add_last look us)) (sym e.are) (look_ends e.front e.last e.log e.left e.place_is e.seen_is (subst (PassWent rack area x lock m pass next) e.are w)),
      subst (λ us. holds_in (add_last look us) ≡ holds_in us ++ look ∷ []) (sym e.are) (last_holds look e.front e.last),
    )

-- ---- all of them

-- the turns of a lock, with a look at what its metaslab was
abbrev pub with_look : ℕ → Option Metaslab → List LaneTurn → List LaneTurn
with_look m None ts = ts
with_look m (Some y) ts = add_last (On (view_of m y) Looked) ts

module _ {R A G W : Type 0} (rack : racks.Ghosts R) (area : areas.Ghosts A) (x : State) (old b : Locked R A G W) (ts : ℕ → List LaneTurn) (hs us : List Hold) (traced : Traced rack area x old b ts hs us) (count : ℕ) (all : count ≡ length old.turns.now) (many : length old.passes.items ≡ length old.turns.now)
    (some : (m : ℕ) (pass : Caller (Past (Cell R A))) → slice_get old.passes.items m ≡ Some pass → ts m ≡ [] → ⊥) (came : HasCame rack area x b) where
  -- what each is then
  abbrev pub IsNow : ℕ → Metaslab → Type 0
  IsNow m y = (shard : Shard R A) → lane_last b m ≡ Some shard → CameTo rack area x m shard y

  -- the lock and the pass of one
  record HasBoth (m : ℕ) : Type 0 where
    pub lock : Lock (Cell R A)
    pub lock_is : slice_get old.turns.now m ≡ Some lock
    pub pass : Caller (Past (Cell R A))
    pub pass_is : slice_get old.passes.items m ≡ Some pass
    pub next : Caller (Past (Cell R A))
    pub next_is : slice_get b.passes.items m ≡ Some next
    pub went : PassWent rack area x lock m pass next (ts m)
    pub last_is : lane_last b m ≡ Some (left_in lock next.seen)

  has_both : (m : ℕ) → m < count → HasBoth m
  has_both m less =
      let lock = present old.turns.now m (omega (arith, less, all)) in
      let pass = present old.passes.items m (omega (arith, less, all, many)) in
      let w = traced.each m pass.0 pass.1 lock.0 lock.1 in
      record { lock = lock.0; lock_is = lock.1; pass = pass.0; pass_is = pass.1; next = w.0; next_is = w.1; went = w.2; last_is = λ i. last_of ((ap (λ ls. slice_get ls m) traced.locks ∙ lock.1) i) (w.1 i) }

  pub now_all : Listed count IsNow
  now_all = list_of count IsNow
      (λ m less.
      let h = has_both m less in
      let c = came m (left_in h.lock h.next.seen) h.last_is in
      (c.0, λ shard at. subst (λ s. CameTo rack area x m s c.0) (some_of (lane_last b m) (left_in h.lock h.next.seen) shard h.last_is at) c.1))

  abbrev pub then_ys : List Metaslab
  then_ys = now_all.list

  abbrev pub look_turns : ℕ → List LaneTurn
  look_turns m = with_look m (slice_get then_ys m) (ts m)

  -- what the look makes of one
  look_one : (m : ℕ) (y : Metaslab) → slice_get then_ys m ≡ Some y → (h : HasBoth m) × PassWent rack area x h.lock m h.pass h.next (add_last (On (view_of m y) Looked) (ts m)) × (holds_in (add_last (On (view_of m y) Looked) (ts m)) ≡ holds_in (ts m) ++ On (view_of m y) Looked ∷ [])
  look_one m y at =
      let within = slice_get_within then_ys m y at in
      let long = now_all.many in
      let h = has_both m (omega (arith, within, long)) in
      let c = now_all.each m y at (left_in h.lock h.next.seen) h.last_is in
      let e = ended h c h.went.ends in
      (h, e.0, e.1)
    where
      ended : (h : HasBoth m) → CameTo rack area x m (left_in h.lock h.next.seen) y → ((ts m ≡ []) × (h.next.seen ≡ h.pass.seen)) ⊎ EndsAt rack area x h.next.seen (ts m)
          → PassWent rack area x h.lock m h.pass h.next (add_last (On (view_of m y) Looked) (ts m)) × (holds_in (add_last (On (view_of m y) Looked) (ts m)) ≡ holds_in (ts m) ++ On (view_of m y) Looked ∷ [])
      ended h c (inl none) = absurd (some m h.pass h.pass_is none.0)
      ended h c (inr e) = look_pass rack area x h.lock m h.pass h.next y c (ts m) e h.went

  look_same : (m : ℕ) (o : Option Metaslab) → slice_get then_ys m ≡ o → holds_in (ts m) ++ look_of m o ≡ holds_in (with_look m o (ts m))
  look_same m None at = append-nil (holds_in (ts m))
  look_same m (Some y) at = sym (look_one m y at).2

  look_went : (m : ℕ) (o : Option Metaslab) → slice_get then_ys m ≡ o → (pass : Caller (Past (Cell R A))) → slice_get old.passes.items m ≡ Some pass → (lock : Lock (Cell R A)) → slice_get old.turns.now m ≡ Some lock
      → (next : Caller (Past (Cell R A))) × (slice_get b.passes.items m ≡ Some next) × PassWent rack area x lock m pass next (with_look m o (ts m))
  look_went m None at pass pass_at lock there = traced.each m pass pass_at lock there
  look_went m (Some y) at pass pass_at lock there =
      let z = look_one m y at in
      let h = z.0 in (
        h.next,
        h.next_is,
        subst (λ (q : Lock (Cell R A) × Caller (Past (Cell R A))). PassWent rack area x q.0 m q.1 h.next (add_last (On (view_of m y) Looked) (ts m)))
            (λ i. (some_of (slice_get old.turns.now m) h.lock lock h.lock_is there i, some_of (slice_get old.passes.items m) h.pass pass h.pass_is pass_at i)) z.1,
      )

  -- the looks come behind all that was done
  pub traced_looks : Traced rack area x old b look_turns (hs ++ looks_at 0 then_ys) us
  traced_looks = record {
    locks = traced.locks;
    many = traced.many;
    same = λ m. filter-append (is_of (Some m)) hs (looks_at 0 then_ys) ∙ ((λ i. traced.same m i ++ looks_for m then_ys i) ∙ look_same m (slice_get then_ys m) refl);
    of_uber = filter-append (is_of None) hs (looks_at 0 then_ys) ∙ ((λ i. traced.of_uber i ++ looks_uber 0 then_ys i) ∙ append-nil us);
    none = λ m none. lost m none (slice_get then_ys m) refl;
    each = λ m pass at lock there. look_went m (slice_get then_ys m) refl pass at lock there;
    absent = traced.absent;
  }
    where
      lost : (m : ℕ) → slice_get old.passes.items m ≡ None → (o : Option Metaslab) → slice_get then_ys m ≡ o → with_look m (slice_get then_ys m) (ts m) ≡ []
      lost m none None at = ap (λ o. with_look m o (ts m)) at ∙ traced.none m none
      lost m none (Some y) at = (let h = (look_one m y at).0 in absurd (none_some (slice_get old.passes.items m) h.pass none h.pass_is))
