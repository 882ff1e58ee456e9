-- Lanes that take seats, the last one first, and that rise again, the first one first.
use Rattle.std.proofs.Common.{◌≡◌, ◌∙◌, ◌++◌, ◌∷◌, ◌<◌, ◌≤◌, ◌+◌, ◌⊎◌, inl, inr, arith, ℕ, zero, suc, List, [], Some, length, sym, ap, subst, refl}
use mathlib.Core.Logic.{dite}
use native.Mathlib.Decide.{ℕ_discrete}
use Rattle.std.specs.Prelude.{slice_get, vec_capacity}
use Rattle.std.specs.declared.vec.Vec.{Vec}
use Rattle.std.specs.declared.alloc.Global.{Global}
use Rattle.std.proofs.lemmas.List.{length_push, nil_from_length}
use Rattle.std.proofs.lemmas.Option.{slice_get_within}
use Rattle.draid_spec.specs.declared.layout.Geometry.{Geometry}
use Rattle.draid_turn.specs.Calls.{Caller, Lock}
use Rattle.draid_turn.specs.declared.past.Past.{Past}
use Rattle.draid_pool.specs.declared.cell.Cell.{Cell}
use Rattle.draid_pool.proofs.Lists.{some_of}
use Rattle.draid_lanes.specs.declared.jobs.Seat.{Seat}
use Rattle.draid_lanes.specs.declared.lane.Lane.{Lane}
use Rattle.draid_lanes.specs.declared.running.InLane.{InLane}
use Rattle.draid_lanes.specs.declared.uber.UberCell.{UberCell}
use Rattle.draid_section.specs.declared.seats.Shares.{Shares}
use Rattle.draid_section.specs.Running.{AreEven, HasShare, IsOver}
use Rattle.draid_section.specs.Seating.{AreAt, AreSeated, HaveRoomForLanes, IsAt, IsSeated}
use Rattle.draid_section.proofs.LanePasses.{get_before, get_last}

-- ---- lists

module _ {X : Type 0} where
  -- what is left of a list behind its last element
  pub record IsLeft (old new : List X) (x : X) : Type 0 where
    pub many : length old ≡ length new + 1
    pub last : slice_get old (length new) ≡ Some x
    pub front : (i : ℕ) → i < length new → slice_get new i ≡ slice_get old i

  pub is_left : (old new : List X) (x : X) → old ≡ new ++ x ∷ [] → IsLeft old new x
  is_left old new x is = record {
    many = ap length is ∙ length_push new x;
    last = ap (λ l. slice_get l (length new)) is ∙ get_last new x;
    front = λ i lt. sym (ap (λ l. slice_get l i) is ∙ get_before new x i lt);
  }

  -- a list is the first part of another
  abbrev pub IsFront : List X → List X → Type 0
  IsFront old new = (i : ℕ) → i < length new → slice_get new i ≡ slice_get old i

  pub front_less : (start old new : List X) (x : X) → IsFront start old → IsLeft old new x → IsFront start new
  front_less start old new x front left i lt = left.front i lt ∙ front i (let many = left.many in omega (arith, lt, many))

  pub front_last : (start old new : List X) (x : X) → IsFront start old → IsLeft old new x → slice_get start (length new) ≡ Some x
  front_last start old new x front left = sym (front (length new) (let many = left.many in omega (arith, many))) ∙ left.last

  -- an element of a longer list is one of the shorter, or the new one
  pub at_push : (xs : List X) (x y : X) (k : ℕ) → slice_get (xs ++ x ∷ []) k ≡ Some y → (slice_get xs k ≡ Some y) ⊎ ((k ≡ length xs) × (x ≡ y))
  at_push [] x y zero at = inr (refl, some_of (Some x) x y refl at)
  at_push [] x y (suc k) at = absurd (cc)
  at_push (z ∷ xs) x y zero at = inl at
  at_push (z ∷ xs) x y (suc k) at = elim (at_push xs x y k at) [ inl before ↦ inl before | inr z ↦ inr (ap suc z.0, z.1) ]

module _ {R A G W J : Type 0} where
  -- ---- taking seats

  -- some lanes have their seats, and the first ones wait
  pub record Seating (locks : List (Lock (Cell R A))) (uber : Lock (UberCell R A)) (geometry : Geometry) (start : Shares R A J) (first : List (Caller (Past (UberCell R A)))) (shares : Shares R A J) (passes : List (Caller (Past (UberCell R A))))
      (seats : List (Seat (Lane R A G W) (InLane J))) : Type 0 where
    pub even : AreEven shares passes
    pub many : length shares.passes.items + length seats ≡ length start.passes.items
    pub front : IsFront start.passes.items shares.passes.items
    pub front_owns : IsFront start.owns.items shares.owns.items
    pub front_jobs : IsFront start.jobs.items shares.jobs.items
    pub front_ubers : IsFront first passes
    pub seated : (k : ℕ) (seat : Seat (Lane R A G W) (InLane J)) → slice_get seats k ≡ Some seat → (i : ℕ) × (i + k + 1 ≡ length start.passes.items) × IsSeated start first i seat
    pub at : (k : ℕ) (seat : Seat (Lane R A G W) (InLane J)) → slice_get seats k ≡ Some seat → (i : ℕ) × (i + k + 1 ≡ length start.passes.items) × IsAt locks uber geometry i seat

  module _ (locks : List (Lock (Cell R A))) (uber : Lock (UberCell R A)) (geometry : Geometry) (start : Shares R A J) (first : List (Caller (Past (UberCell R A)))) where
    pub seating_start : (seats : List (Seat (Lane R A G W) (InLane J))) → AreEven start first → seats ≡ [] → Seating locks uber geometry start first start first seats
    seating_start seats even none = record {
      even = even;
      many = (let no = ap length none in omega (arith, no));
      front = λ i lt. refl;
      front_owns = λ i lt. refl;
      front_jobs = λ i lt. refl;
      front_ubers = λ i lt. refl;
      seated = λ k seat at. absurd (let lt = slice_get_within seats k seat at in let no = ap length none in omega (arith, lt, no));
      at = λ k seat at. absurd (let lt = slice_get_within seats k seat at in let no = ap length none in omega (arith, lt, no));
    }

    -- one more takes its seat
    module _ (shares next : Shares R A J) (passes nexts : List (Caller (Past (UberCell R A)))) (seats : List (Seat (Lane R A G W) (InLane J))) (r : Seating locks uber geometry start first shares passes seats) (job : J) (lane : Lane R A G W)
        (p : IsLeft shares.passes.items next.passes.items lane.metaslabs.passes) (o : IsLeft shares.owns.items next.owns.items lane.own) (j : IsLeft shares.jobs.items next.jobs.items job) (u : IsLeft passes nexts lane.pass)
        (over : IsOver locks uber geometry lane) (number : lane.metaslabs.lane ≡ length next.passes.items) where
      as_many : AreEven next nexts
      as_many = record {
        owns = (let a = p.many in let b = o.many in let c = r.even.owns in omega (arith, a, b, c));
        jobs = (let a = p.many in let b = j.many in let c = r.even.jobs in omega (arith, a, b, c));
        ubers = (let a = p.many in let b = u.many in let c = r.even.ubers in omega (arith, a, b, c));
      }

      has : HasShare start first (length next.passes.items) job lane
      has = record {
        held = front_last start.passes.items shares.passes.items next.passes.items lane.metaslabs.passes r.front p;
        own = ap (slice_get start.owns.items) (sym as_many.owns) ∙ front_last start.owns.items shares.owns.items next.owns.items lane.own r.front_owns o;
        job_is = ap (slice_get start.jobs.items) (sym as_many.jobs) ∙ front_last start.jobs.items shares.jobs.items next.jobs.items job r.front_jobs j;
        pass = ap (slice_get first) (sym as_many.ubers) ∙ front_last first passes nexts lane.pass r.front_ubers u;
      }

      abbrev taken : Seat (Lane R A G W) (InLane J)
      taken = record { lane = Some lane; job = record { job = job } }

      as_far : length next.passes.items + length seats + 1 ≡ length start.passes.items
      as_far = (let a = r.many in let b = p.many in omega (arith, a, b))

      pub seating_more : (seats' : List (Seat (Lane R A G W) (InLane J))) → seats' ≡ seats ++ taken ∷ [] → Seating locks uber geometry start first next nexts seats'
      seating_more seats' pushed = subst (Seating locks uber geometry start first next nexts) (sym pushed) (record {
        even = as_many;
        many = (let a = as_far in let b = length_push seats taken in omega (arith, a, b));
        front = front_less start.passes.items shares.passes.items next.passes.items lane.metaslabs.passes r.front p;
        front_owns = front_less start.owns.items shares.owns.items next.owns.items lane.own r.front_owns o;
        front_jobs = front_less start.jobs.items shares.jobs.items next.jobs.items job r.front_jobs j;
        front_ubers = front_less first passes nexts lane.pass r.front_ubers u;
        seated = λ k seat at. elim (at_push seats taken seat k at) [
          | inl before ↦ r.seated k seat before
          | inr z ↦ (length next.passes.items, (let a = as_far in let b = z.0 in omega (arith, a, b)), subst (IsSeated start first (length next.passes.items)) z.1 (record { lane = lane; there = refl; has = has }))
        ];
        at = λ k seat at. elim (at_push seats taken seat k at) [
          | inl before ↦ r.at k seat before
          | inr z ↦ (length next.passes.items, (let a = as_far in let b = z.0 in omega (arith, a, b)), subst (IsAt locks uber geometry (length next.passes.items)) z.1 (record { lane = lane; there = refl; over = over; number_is = number }))
        ];
      })

    module _ (shares : Shares R A J) (passes : List (Caller (Past (UberCell R A)))) (seats : List (Seat (Lane R A G W) (InLane J))) (r : Seating locks uber geometry start first shares passes seats) (over : shares.passes.items ≡ []) where
      all_sit : length seats ≡ length start.passes.items
      all_sit = (let a = r.many in let b = ap length over in omega (arith, a, b))

      pub seating_done : AreSeated start first seats
      seating_done = record { many = all_sit; each = λ k seat at. (let z = r.seated k seat at in (z.0, z.1 ∙ sym all_sit, z.2)) }

      pub seating_at : AreAt locks uber geometry seats
      seating_at k seat at = (let z = r.at k seat at in (z.0, z.1 ∙ sym all_sit, z.2))

    -- the shares have room for what they had
    pub room_left : (ubers : Vec (Caller (Past (UberCell R A))) Global) (shares : Shares R A J) (held : Vec (Vec (Caller (Past (Cell R A))) Global) Global) (passes : Vec (Caller (Past (UberCell R A))) Global) (seats : List (Seat (Lane R A G W) (InLane J)))
        → first ≡ ubers.items → Seating locks uber geometry start first shares passes.items seats → shares.passes.items ≡ [] → held.items ≡ [] → AreEven start first → vec_capacity held ≡ vec_capacity start.passes → vec_capacity shares.owns ≡ vec_capacity start.owns
        → vec_capacity shares.jobs ≡ vec_capacity start.jobs → vec_capacity passes ≡ vec_capacity ubers → HaveRoomForLanes (length start.passes.items) (record shares { passes = held }) passes
    room_left ubers shares held passes seats ubers_are r over none even cap_held cap_owns cap_jobs cap_ubers = record {
      none = (
        none,
        nil_from_length shares.owns.items (r.even.owns ∙ ap length over),
        nil_from_length shares.jobs.items (r.even.jobs ∙ ap length over),
        nil_from_length passes.items (r.even.ubers ∙ ap length over),
      );
      held = (let is = start.passes.ok.0 in let most = start.passes.ok.1 in omega (arith, is, most, cap_held));
      owns = (let is = start.owns.ok.0 in let most = start.owns.ok.1 in let many = even.owns in omega (arith, is, most, many, cap_owns));
      jobs = (let is = start.jobs.ok.0 in let most = start.jobs.ok.1 in let many = even.jobs in omega (arith, is, most, many, cap_jobs));
      ubers = (let is = ubers.ok.0 in let most = ubers.ok.1 in let many = even.ubers in let same = ap length ubers_are in omega (arith, is, most, many, same, cap_ubers));
    }

  -- ---- rising

  -- the last ones sit, and the others have what was theirs
  pub record Rising (start seats : List (Seat (Lane R A G W) (InLane J))) (shares : Shares R A J) (passes : List (Caller (Past (UberCell R A)))) : Type 0 where
    pub even : AreEven shares passes
    pub many : length shares.passes.items + length seats ≡ length start
    pub front : IsFront start seats
    pub risen : (k : ℕ) (seat : Seat (Lane R A G W) (InLane J)) → slice_get start k ≡ Some seat → length seats ≤ k → (i : ℕ) × (i + k + 1 ≡ length start) × IsSeated shares passes i seat

  module _ (start : List (Seat (Lane R A G W) (InLane J))) where
    pub rising_start : (shares : Shares R A J) (passes : List (Caller (Past (UberCell R A)))) → (shares.passes.items ≡ []) × (shares.owns.items ≡ []) × (shares.jobs.items ≡ []) × (passes ≡ []) → Rising start start shares passes
    rising_start shares passes none = record {
      even = record { owns = ap length none.1 ∙ sym (ap length none.0); jobs = ap length none.2 ∙ sym (ap length none.0); ubers = ap length none.3 ∙ sym (ap length none.0) };
      many = (let no = ap length none.0 in omega (arith, no));
      front = λ i lt. refl;
      risen = λ k seat at far. absurd (let lt = slice_get_within start k seat at in omega (arith, lt, far));
    }

    module _ (seats left : List (Seat (Lane R A G W) (InLane J))) (shares next : Shares R A J) (passes nexts : List (Caller (Past (UberCell R A)))) (r : Rising start seats shares passes) (seat : Seat (Lane R A G W) (InLane J)) (s : IsLeft seats left seat) (lane : Lane R A G W) (there : seat.lane ≡ Some lane)
        (p : next.passes.items ≡ shares.passes.items ++ lane.metaslabs.passes ∷ []) (o : next.owns.items ≡ shares.owns.items ++ lane.own ∷ []) (j : next.jobs.items ≡ shares.jobs.items ++ seat.job.job ∷ []) (u : nexts ≡ passes ++ lane.pass ∷ []) where
      even_then : AreEven next nexts
      even_then = record {
        owns = (let a = ap length p ∙ length_push shares.passes.items lane.metaslabs.passes in let b = ap length o ∙ length_push shares.owns.items lane.own in let c = r.even.owns in omega (arith, a, b, c));
        jobs = (let a = ap length p ∙ length_push shares.passes.items lane.metaslabs.passes in let b = ap length j ∙ length_push shares.jobs.items seat.job.job in let c = r.even.jobs in omega (arith, a, b, c));
        ubers = (let a = ap length p ∙ length_push shares.passes.items lane.metaslabs.passes in let b = ap length u ∙ length_push passes lane.pass in let c = r.even.ubers in omega (arith, a, b, c));
      }

      -- what others had they have
      still : (i : ℕ) (other : Seat (Lane R A G W) (InLane J)) → i < length shares.passes.items → IsSeated shares passes i other → IsSeated next nexts i other
      still i other lt is = record {
        lane = is.lane;
        there = is.there;
        has = record {
          held = ap (λ l. slice_get l i) p ∙ (get_before shares.passes.items lane.metaslabs.passes i lt ∙ is.has.held);
          own = ap (λ l. slice_get l i) o ∙ (get_before shares.owns.items lane.own i (let c = r.even.owns in omega (arith, lt, c)) ∙ is.has.own);
          job_is = ap (λ l. slice_get l i) j ∙ (get_before shares.jobs.items seat.job.job i (let c = r.even.jobs in omega (arith, lt, c)) ∙ is.has.job_is);
          pass = ap (λ l. slice_get l i) u ∙ (get_before passes lane.pass i (let c = r.even.ubers in omega (arith, lt, c)) ∙ is.has.pass);
        };
      }

      fresh : IsSeated next nexts (length shares.passes.items) seat
      fresh = record {
        lane = lane;
        there = there;
        has = record {
          held = ap (λ l. slice_get l (length shares.passes.items)) p ∙ get_last shares.passes.items lane.metaslabs.passes;
          own = ap (slice_get next.owns.items) (sym r.even.owns) ∙ (ap (λ l. slice_get l (length shares.owns.items)) o ∙ get_last shares.owns.items lane.own);
          job_is = ap (slice_get next.jobs.items) (sym r.even.jobs) ∙ (ap (λ l. slice_get l (length shares.jobs.items)) j ∙ get_last shares.jobs.items seat.job.job);
          pass = ap (slice_get nexts) (sym r.even.ubers) ∙ (ap (λ l. slice_get l (length passes)) u ∙ get_last passes lane.pass);
        };
      }

      pub rising_more : Rising start left next nexts
      rising_more = record {
        even = even_then;
        many = (let a = r.many in let b = s.many in let c = ap length p ∙ length_push shares.passes.items lane.metaslabs.passes in omega (arith, a, b, c));
        front = front_less start seats left seat r.front s;
        risen = λ k other at far. dite (ℕ_discrete k (length left))
            (λ is.
            let same : seat ≡ other = some_of (slice_get start k) seat other (ap (slice_get start) is ∙ front_last start seats left seat r.front s) at in
            (length shares.passes.items, (let a = r.many in let b = s.many in omega (arith, a, b, is)), subst (IsSeated next nexts (length shares.passes.items)) same fresh))
            (λ not_it.
            let z = r.risen k other at (let b = s.many in omega (arith, far, b, not_it)) in
            (z.0, z.1, still z.0 other (let a = r.many in let b = s.many in let c = z.1 in omega (arith, a, b, c, far, not_it)) z.2));
      }

    pub rising_done : (seats : List (Seat (Lane R A G W) (InLane J))) (shares : Shares R A J) (passes : List (Caller (Past (UberCell R A)))) → Rising start seats shares passes → seats ≡ [] → AreSeated shares passes start
    rising_done seats shares passes r over = record {
      many = (let a = r.many in let b = ap length over in omega (arith, a, b));
      each = λ k seat at. r.risen k seat at (let b = ap length over in omega (arith, b));
    }
