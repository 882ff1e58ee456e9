-- What a lane's passes saw and did between two of its states, one turn behind another.
use Rattle.std.proofs.Common.{◌≡◌, ◌<◌, ◌≤◌, ◌++◌, ◌∷◌, ◌∙◌, [], inl, inr, ℕ, false, true, List, Some, None, All, Contains, arith, refl, sym, ap, subst, length, ◌⊎◌}
use Rattle.std.specs.Prelude.{cond, slice_get}
use Rattle.std.proofs.lemmas.Grind.{flat_map-append}
use Rattle.std.proofs.lemmas.List.{append-nil, append_assoc, length-append, map-append}
use Rattle.std.proofs.lemmas.List.Elements.{All-append, All-head, All-nil, All-tail, All-weaker, Contains-append_cases, filter-append}
use Rattle.draid_rack.specs.declared.Rack as racks
use Rattle.draid_area.specs.declared.Area as areas
use Rattle.draid_session.specs.Holds.{Hold}
use Rattle.draid_session.specs.Lanes.{holds_of, is_of}
use Rattle.draid_session.specs.State.{State}
use Rattle.draid_turn.specs.Calls.{Caller, Lock}
use Rattle.draid_turn.specs.Lists.{AllAbove, Ascends, StartsWith}
use Rattle.draid_turn.specs.declared.past.Past.{Past}
use Rattle.draid_pool.specs.declared.cell.Cell.{Cell}
use Rattle.draid_lanes.specs.Traces.{IsShardTurn, LaneTurn, holds_in, places_in}
use Rattle.draid_lanes.specs.declared.locked.Locked.{Locked}

-- ---- lists

pub starts_self : {E : Type 0} (xs : List E) → StartsWith xs xs
starts_self xs = ([], sym (append-nil xs))

pub starts_then : {E : Type 0} (a b c : List E) → StartsWith b a → StartsWith c b → StartsWith c a
starts_then a b c one two = (one.0 ++ two.0, two.1 ∙ (ap (λ l. l ++ two.0) one.1 ∙ append_assoc a one.0 two.0))

pub starts_long : {E : Type 0} (long short : List E) → StartsWith long short → length short ≤ length long
starts_long long short s = (let all = ap length s.1 ∙ length-append short s.0 in omega (arith, all))

above_append : (x : ℕ) (xs ys : List ℕ) → AllAbove x xs → AllAbove x ys → AllAbove x (xs ++ ys)
above_append x [] ys a b = b
above_append x (y ∷ xs) ys a b = (a.0, above_append x xs ys a.1 b)

above_all : (x n : ℕ) (ys : List ℕ) → x < n → All (λ y. n ≤ y) ys → AllAbove x ys
above_all x n [] less all = tt
above_all x n (y ∷ ys) less all = (
  (let from = All-head (λ y. n ≤ y) y ys all in omega (arith, less, from)),
  above_all x n ys less (All-tail (λ y. n ≤ y) y ys all),
)

pub ascends_append : (n : ℕ) (xs ys : List ℕ) → Ascends xs → Ascends ys → All (λ x. x < n) xs → All (λ y. n ≤ y) ys → Ascends (xs ++ ys)
ascends_append n [] ys a b low high = b
ascends_append n (x ∷ xs) ys a b low high = (
  above_append x xs ys a.0 (above_all x n ys (All-head (λ x. x < n) x xs low) high),
  ascends_append n xs ys a.1 b (All-tail (λ x. x < n) x xs low) high,
)

-- ---- one pass

module _ {R A : Type 0} (rack : racks.Ghosts R) (area : areas.Ghosts A) (x : State) where
  -- a turn that was seen is seen by who saw more
  pub turn_later : (lock : Lock (Cell R A)) (seen more : List (Past (Cell R A))) (m place : ℕ) (holds : List Hold) → StartsWith more seen → IsShardTurn rack area x lock seen m place holds → IsShardTurn rack area x lock more m place holds
  turn_later lock seen more m place holds later t = record {
    log = t.log;
    left = t.left;
    place_is = t.place_is;
    begins = starts_then (t.log ++ t.left ∷ []) seen more t.begins later;
    found = t.found;
    reached = t.reached;
    found_is = t.found_is;
    reached_is = t.reached_is;
    follows = t.follows;
    bytes = t.bytes;
  }

  -- the last of some turns, behind which nothing was seen
  pub record EndsAt (seen : List (Past (Cell R A))) (turns : List LaneTurn) : Type 0 where
    pub front : List LaneTurn
    pub last : LaneTurn
    pub are : turns ≡ front ++ last ∷ []
    pub log : List (Past (Cell R A))
    pub left : Past (Cell R A)
    pub place_is : last.place ≡ length log
    pub seen_is : seen ≡ log ++ left ∷ []

  -- A pass had these turns of the lock of a metaslab, behind all that it had seen, and saw nothing behind them.
  pub record PassWent (lock : Lock (Cell R A)) (m : ℕ) (pass next : Caller (Past (Cell R A))) (turns : List LaneTurn) : Type 0 where
    pub own : next.own ≡ pass.own ++ places_in turns
    pub seen : StartsWith next.seen pass.seen
    pub above : All (λ place. length pass.seen ≤ place) (places_in turns)
    pub below : All (λ place. place < length next.seen) (places_in turns)
    pub ascends : Ascends (places_in turns)
    pub ends : ((turns ≡ []) × (next.seen ≡ pass.seen)) ⊎ EndsAt next.seen turns
    pub shards : (turn : LaneTurn) → Contains turns turn → IsShardTurn rack area x lock next.seen m turn.place turn.holds

  none_in : (turn : LaneTurn) → Contains [] turn → ⊥
  none_in turn among = (let less = among.1 in omega (arith, less))

  pub went_none : (lock : Lock (Cell R A)) (m : ℕ) (pass : Caller (Past (Cell R A))) → PassWent lock m pass pass []
  went_none lock m pass = record {
    own = sym (append-nil pass.own);
    seen = starts_self pass.seen;
    above = All-nil (λ place. length pass.seen ≤ place);
    below = All-nil (λ place. place < length pass.seen);
    ascends = tt;
    ends = inl (refl, refl);
    shards = λ turn among. absurd (none_in turn among);
  }

  places_append : (ts us : List LaneTurn) → places_in (ts ++ us) ≡ places_in ts ++ places_in us
  places_append ts us = map-append (λ (turn : LaneTurn). turn.place) ts us

  ends_then : (p q r : Caller (Past (Cell R A))) (ts us : List LaneTurn) → ((ts ≡ []) × (q.seen ≡ p.seen)) ⊎ EndsAt q.seen ts → ((us ≡ []) × (r.seen ≡ q.seen)) ⊎ EndsAt r.seen us → ((ts ++ us ≡ []) × (r.seen ≡ p.seen)) ⊎ EndsAt r.seen (ts ++ us)
  ends_then p q r ts us (inl none) (inl still) = inl ((λ i. none.0 i ++ still.0 i), still.1 ∙ none.1)
  ends_then p q r ts us (inr e) (inl still) = inr (record {
    front = e.front;
    last = e.last;
    are = ap (λ l. ts ++ l) still.0 ∙ (append-nil ts ∙ e.are);
    log = e.log;
    left = e.left;
    place_is = e.place_is;
    seen_is = still.1 ∙ e.seen_is;
  })
  ends_then p q r ts us first (inr e) = inr (record { front = ts ++ e.front; last = e.last; are = ap (λ l. ts ++ l) e.are ∙ sym (append_assoc ts e.front (e.last ∷ [])); log = e.log; left = e.left; place_is = e.place_is; seen_is = e.seen_is })

  pub went_then : (lock : Lock (Cell R A)) (m : ℕ) (p q r : Caller (Past (Cell R A))) (ts us : List LaneTurn) → PassWent lock m p q ts → PassWent lock m q r us → PassWent lock m p r (ts ++ us)
  went_then lock m p q r ts us one two =
      let first = starts_long q.seen p.seen one.seen in
      let second = starts_long r.seen q.seen two.seen in
      record {
        own = two.own ∙ (ap (λ l. l ++ places_in us) one.own ∙ (append_assoc p.own (places_in ts) (places_in us) ∙ ap (λ l. p.own ++ l) (sym (places_append ts us))));
        seen = starts_then p.seen q.seen r.seen one.seen two.seen;
        above = subst (All (λ place. length p.seen ≤ place)) (sym (places_append ts us))
            (All-append (λ place. length p.seen ≤ place) (places_in ts) (places_in us) one.above
            (All-weaker (λ place. length q.seen ≤ place) (λ place. length p.seen ≤ place) (λ place from. omega (arith, from, first)) (places_in us) two.above));
        below = subst (All (λ place. place < length r.seen)) (sym (places_append ts us))
            (All-append (λ place. place < length r.seen) (places_in ts) (places_in us)
            (All-weaker (λ place. place < length q.seen) (λ place. place < length r.seen) (λ place less. omega (arith, less, second)) (places_in ts) one.below) two.below);
        ascends = subst Ascends (sym (places_append ts us)) (ascends_append (length q.seen) (places_in ts) (places_in us) one.ascends two.ascends one.below two.above);
        ends = ends_then p q r ts us one.ends two.ends;
        shards = λ turn among. elim (Contains-append_cases ts us turn among) [
          | inl in_it ↦ turn_later lock q.seen r.seen m turn.place turn.holds two.seen (one.shards turn in_it)
          | inr in_it ↦ two.shards turn in_it
        ];
      }

-- ---- a lane

module _ {R A G W : Type 0} (rack : racks.Ghosts R) (area : areas.Ghosts A) (x : State) where
  -- A lane had these turns of each metaslab's lock, and did this, holds of the uberblock among it.
  pub record Traced (a b : Locked R A G W) (turns : ℕ → List LaneTurn) (holds ubers : List Hold) : Type 0 where
    pub locks : b.turns.now ≡ a.turns.now
    pub many : length b.passes.items ≡ length a.passes.items
    pub same : (m : ℕ) → holds_of (Some m) holds ≡ holds_in (turns m)
    pub of_uber : holds_of None holds ≡ ubers
    pub none : (m : ℕ) → slice_get a.passes.items m ≡ None → turns m ≡ []
    pub each : (m : ℕ) (pass : Caller (Past (Cell R A))) → slice_get a.passes.items m ≡ Some pass → (lock : Lock (Cell R A)) → slice_get a.turns.now m ≡ Some lock
        → (next : Caller (Past (Cell R A))) × (slice_get b.passes.items m ≡ Some next) × PassWent rack area x lock m pass next (turns m)
    pub absent : (m : ℕ) → slice_get a.passes.items m ≡ None → slice_get b.passes.items m ≡ None

  pub traced_none : (a : Locked R A G W) → Traced a a (λ m. []) [] []
  traced_none a = record {
    locks = refl;
    many = refl;
    same = λ m. refl;
    of_uber = refl;
    none = λ m none. refl;
    each = λ m pass at lock there. (pass, at, went_none rack area x lock m pass);
    absent = λ m none. none;
  }

  pub traced_then : (a b c : Locked R A G W) (ts us : ℕ → List LaneTurn) (hs ks vs ws : List Hold) → Traced a b ts hs vs → Traced b c us ks ws → Traced a c (λ m. ts m ++ us m) (hs ++ ks) (vs ++ ws)
  traced_then a b c ts us hs ks vs ws one two = record {
    locks = two.locks ∙ one.locks;
    many = two.many ∙ one.many;
    same = λ m. filter-append (is_of (Some m)) hs ks ∙ ((λ i. one.same m i ++ two.same m i) ∙ sym (flat_map-append (λ (turn : LaneTurn). turn.holds) (ts m) (us m)));
    of_uber = filter-append (is_of None) hs ks ∙ (λ i. one.of_uber i ++ two.of_uber i);
    none = λ m none. (λ i. one.none m none i ++ two.none m (one.absent m none) i);
    each = λ m pass at lock there.
        (let p = one.each m pass at lock there in
        let q = two.each m p.0 p.1 lock (ap (λ ls. slice_get ls m) one.locks ∙ there) in
        (q.0, q.1, went_then rack area x lock m pass p.0 q.0 (ts m) (us m) p.2 q.2));
    absent = λ m none. two.absent m (one.absent m none);
  }

  -- a hold of the uberblock in its turn
  pub traced_uber : (a : Locked R A G W) (hold : Hold) → ((m : ℕ) → is_of (Some m) hold ≡ false) → is_of None hold ≡ true → Traced a a (λ m. []) (hold ∷ []) (hold ∷ [])
  traced_uber a hold others is = record {
    locks = refl;
    many = refl;
    same = λ m. ap (λ b. cond b (hold ∷ []) []) (others m);
    of_uber = ap (λ b. cond b (hold ∷ []) []) is;
    none = λ m none. refl;
    each = λ m pass at lock there. (pass, at, went_none rack area x lock m pass);
    absent = λ m none. none;
  }
