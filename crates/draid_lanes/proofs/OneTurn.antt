-- One hold of a metaslab by a lane, with the states that it found and left.
use Rattle.std.proofs.Common.{◌≡◌, ◌==◌, ◌<◌, ◌≤◌, ◌++◌, ◌∷◌, ◌∙◌, [], inr, ℕ, zero, suc, Bool, true, false, List, Some, None, Contains, arith, refl, sym, ap, subst, length, slice_set, if◌then◌else◌, eq-eqb, ne_eqb}
use mathlib.Core.Logic.{dite}
use native.Mathlib.Decide.{ℕ_discrete}
use Rattle.std.specs.Prelude.{cond, slice_get, slice_index_or}
use Rattle.std.proofs.lemmas.List.{append_assoc, length-append}
use Rattle.std.proofs.lemmas.List.Elements.{All-cons, All-nil}
use Rattle.draid_rack.specs.declared.Rack as racks
use Rattle.draid_area.specs.declared.Area as areas
use Rattle.draid_segments.specs.Segments.{Pieces}
use Rattle.draid_machine.proofs.Small.{none_some}
use Rattle.draid_session.specs.Follows.{MetaslabActs}
use Rattle.draid_session.specs.Holds.{Act, Hold, On, view_of}
use Rattle.draid_session.specs.State.{Metaslab, State}
use Rattle.draid_shard.specs.Part.{layout_in}
use Rattle.draid_shard.specs.declared.shard.Shard.{Shard}
use Rattle.draid_turn.specs.Calls.{Caller, Lock}
use Rattle.draid_turn.specs.Lists.{StartsWith}
use Rattle.draid_turn.specs.declared.past.Past.{Past}
use Rattle.draid_pool.specs.Drifts.{GoesOn, KeepsBytes, Since}
use Rattle.draid_pool.specs.Metaslabs.{IsMetaslab}
use Rattle.draid_pool.specs.Pools.{part_in}
use Rattle.draid_pool.specs.Rounds.{HeldOnce}
use Rattle.draid_pool.specs.Syncing.{Turns}
use Rattle.draid_pool.specs.declared.cell.Cell.{Cell}
use Rattle.draid_pool.proofs.Holding.{some_same}
use Rattle.draid_pool.proofs.Places.{get_set_other, get_set_same, set_length}
use Rattle.draid_pool.proofs.ShardSteps.{acts_since}
use Rattle.draid_pool.proofs.Since.{since_then}
use Rattle.draid_lanes.specs.Governing.{lane_last}
use Rattle.draid_lanes.specs.Locks.{Went, left_in}
use Rattle.draid_lanes.specs.Traces.{Came, CameAt, IsShardTurn, LaneTurn, holds_in}
use Rattle.draid_lanes.specs.Waits.{LaneWent}
use Rattle.draid_lanes.specs.declared.locked.Locked.{Locked}
use Rattle.draid_lanes.proofs.Drifted.{left_append}
use Rattle.draid_lanes.proofs.Tracing.{PassWent, Traced, starts_self, went_none}

-- the turns of one lock, and none of the others
abbrev pub only_at : ℕ → List LaneTurn → ℕ → List LaneTurn
only_at m turns k = if m == k then turns else []

module _ {R A : Type 0} (rack : racks.Ghosts R) (area : areas.Ghosts A) (x : State) where
  -- a shard stands for what a metaslab of the state came to
  pub record CameTo (m : ℕ) (now : Shard R A) (y : Metaslab) : Type 0 where
    pub first : Metaslab
    pub there : slice_get x.metaslabs m ≡ Some first
    pub came : Came rack area (part_in x m) first now
    pub is : came.reached ≡ y

  pub came_at : (lock : Lock (Cell R A)) (seen : List (Past (Cell R A))) (m : ℕ) (now : Shard R A) (y : Metaslab) → left_in lock seen ≡ now → CameTo m now y → CameAt rack area x lock seen m y
  came_at lock seen m now y same c = subst (λ s. CameTo m s y → CameAt rack area x lock seen m y) same (λ (d : CameTo m (left_in lock seen) y). record { first = d.first; there = d.there; came = d.came; is = d.is }) c

  pub came_to : (lock : Lock (Cell R A)) (seen : List (Past (Cell R A))) (m : ℕ) (y : Metaslab) → CameAt rack area x lock seen m y → CameTo m (left_in lock seen) y
  came_to lock seen m y d = record { first = d.first; there = d.there; came = d.came; is = d.is }

  -- it stands for it
  pub came_is : (m : ℕ) (now : Shard R A) (y : Metaslab) (c : CameTo m now y) → IsMetaslab rack area (part_in x m) c.came.pieces now y
  came_is m now y c = subst (IsMetaslab rack area (part_in x m) c.came.pieces now) c.is c.came.is

  -- and so does what comes behind it
  pub came_on : (m : ℕ) (now next : Shard R A) (y z : Metaslab) (pieces : Pieces) → CameTo m now y → IsMetaslab rack area (part_in x m) pieces next z → Since (layout_in (part_in x m)) y z → CameTo m next z
  came_on m now next y z pieces c is since = record {
    first = c.first;
    there = c.there;
    came = record { began = c.came.began; reached = z; pieces = pieces; is = is; since = since_then (layout_in (part_in x m)) c.first y z (subst (Since (layout_in (part_in x m)) c.first) c.is c.came.since) since };
    is = refl;
  }

  -- each metaslab, as a lane left it, is what one of the state came to
  abbrev pub HasCame : {G W : Type 0} → Locked R A G W → Type 0
  HasCame a = (m : ℕ) (shard : Shard R A) → lane_last a m ≡ Some shard → (y : Metaslab) × CameTo m shard y

-- ---- any hold

-- A hold of a metaslab led a lane there. It found what one metaslab of the state had come to, and left what that came to then.
module _ {R A G W : Type 0} (rack : racks.Ghosts R) (area : areas.Ghosts A) (x : State) (a b : Locked R A G W) (m : ℕ) (before after : Shard R A) (goes : LaneWent rack area a m before after b) (found reached : Metaslab) (came_found : CameTo rack area x m before found)
    (came_left : CameTo rack area x m after reached) (act : Act) (acts : MetaslabActs (layout_in (part_in x m)) act found reached) where
  abbrev pub w : Went rack area a.turns.now a.passes.items m before after b.passes.items
  w = goes.1

  abbrev pub its_hold : Hold
  its_hold = On (view_of m found) act

  abbrev pub its_turn : LaneTurn
  its_turn = record { place = length w.log; holds = its_hold ∷ [] }

  pub behind_is : left_in w.lock (w.log ++ w.left ∷ []) ≡ after
  behind_is = ap (λ (c : Cell R A). c.shard) (left_append w.lock.first w.log (w.left ∷ [])) ∙ w.left_is

  module _ (bytes : KeepsBytes rack area (part_in x m) before found after) where
    one_turn : IsShardTurn rack area x w.lock w.next.seen m (length w.log) (its_hold ∷ [])
    one_turn = record {
      log = w.log;
      left = w.left;
      place_is = refl;
      begins = subst (λ seen. StartsWith seen (w.log ++ w.left ∷ [])) (sym w.seen) (starts_self (w.log ++ w.left ∷ []));
      found = found;
      reached = reached;
      found_is = came_at rack area x w.lock w.log m before found (sym w.found) came_found;
      reached_is = came_at rack area x w.lock (w.log ++ w.left ∷ []) m after reached behind_is came_left;
      follows = (act, reached, refl, acts, refl);
      bytes = subst (λ (q : Shard R A × Shard R A). KeepsBytes rack area (part_in x m) q.0 found q.1) (λ i. (w.found i, sym w.left_is i)) bytes;
    }

    below_next : length w.log < length w.next.seen
    below_next = (let all = ap length w.seen ∙ length-append w.log (w.left ∷ []) in omega (arith, all))

    from_seen : length w.pass.seen ≤ length w.log
    from_seen = (let all = ap length w.behind ∙ length-append w.pass.seen w.unseen in omega (arith, all))

    one_in : (other : LaneTurn) → Contains (its_turn ∷ []) other → its_turn ≡ other
    one_in other among = by among.0 among.1 among.2
      where
        by : (k : ℕ) → k < 1 → slice_index_or (its_turn ∷ []) k other ≡ other → its_turn ≡ other
        by zero less is = is
        by (suc k) less is = absurd (omega (arith, less))

    went_one : PassWent rack area x w.lock m w.pass w.next (its_turn ∷ [])
    went_one = record {
      own = w.own;
      seen = (w.unseen ++ w.left ∷ [], w.seen ∙ (ap (λ l. l ++ w.left ∷ []) w.behind ∙ append_assoc w.pass.seen w.unseen (w.left ∷ [])));
      above = All-cons (λ place. length w.pass.seen ≤ place) (length w.log) [] from_seen (All-nil (λ place. length w.pass.seen ≤ place));
      below = All-cons (λ place. place < length w.next.seen) (length w.log) [] below_next (All-nil (λ place. place < length w.next.seen));
      ascends = (tt, tt);
      ends = inr (record { front = []; last = its_turn; are = refl; log = w.log; left = w.left; place_is = refl; seen_is = w.seen });
      shards = λ other among. subst (λ (u : LaneTurn). IsShardTurn rack area x w.lock w.next.seen m u.place u.holds) (one_in other among) one_turn;
    }

    only_here : only_at m (its_turn ∷ []) m ≡ its_turn ∷ []
    only_here = ap (λ t. if t then its_turn ∷ [] else []) (eq-eqb m m refl)

    only_other : (k : ℕ) → (k ≡ m → ⊥) → only_at m (its_turn ∷ []) k ≡ []
    only_other k not = ap (λ t. if t then its_turn ∷ [] else []) (ne_eqb m k (λ same. not (sym same)))

    -- what became of a pass
    abbrev Went_at : ℕ → Type 0
    Went_at k = (pass : Caller (Past (Cell R A))) → slice_get a.passes.items k ≡ Some pass → (lock : Lock (Cell R A)) → slice_get a.turns.now k ≡ Some lock
        → (next : Caller (Past (Cell R A))) × (slice_get (slice_set a.passes.items m w.next) k ≡ Some next) × PassWent rack area x lock k pass next (only_at m (its_turn ∷ []) k)

    here : Went_at m
    here pass at lock there = (
      w.next,
      get_set_same a.passes.items m w.pass w.next w.pass_is,
      subst (λ (z : Lock (Cell R A) × Caller (Past (Cell R A))). PassWent rack area x z.0 m z.1 w.next (only_at m (its_turn ∷ []) m))
          (λ i. (some_same w.lock lock (sym w.lock_is ∙ there) i, some_same w.pass pass (sym w.pass_is ∙ at) i)) (subst (PassWent rack area x w.lock m w.pass w.next) (sym only_here) went_one),
    )

    away : (k : ℕ) → (k ≡ m → ⊥) → Went_at k
    away k not pass at lock there = (pass, get_set_other a.passes.items m k w.next not ∙ at, subst (PassWent rack area x lock k pass pass) (sym (only_other k not)) (went_none rack area x lock k pass))

    each_at : (k : ℕ) → Went_at k
    each_at k = dite (ℕ_discrete k m) (λ same. subst Went_at (sym same) here) (λ not. away k not)

    lost : (k : ℕ) → slice_get a.passes.items k ≡ None → k ≡ m → ⊥
    lost k none same = none_some (slice_get a.passes.items k) w.pass none (ap (slice_get a.passes.items) same ∙ w.pass_is)

    same_at : (t : Bool) → cond t (its_hold ∷ []) [] ≡ holds_in (if t then its_turn ∷ [] else [])
    same_at true = refl
    same_at false = refl

    pub traced_hold : Traced rack area x a b (only_at m (its_turn ∷ [])) (its_hold ∷ []) []
    traced_hold = record {
      locks = goes.0;
      many = ap length w.sets ∙ set_length a.passes.items m w.next;
      same = λ k. same_at (m == k);
      of_uber = refl;
      none = λ k none. only_other k (lost k none);
      each = λ k pass at lock there. (let z = each_at k pass at lock there in (z.0, ap (λ ps. slice_get ps k) w.sets ∙ z.1, z.2));
      absent = λ k none. ap (λ ps. slice_get ps k) w.sets ∙ (get_set_other a.passes.items m k w.next (lost k none) ∙ none);
    }

-- ---- one of a command that is made over holds

module _ {R A G W : Type 0} (rack : racks.Ghosts R) (area : areas.Ghosts A) (x : State) (owns : ℕ → Bool) where
  abbrev pub Once : (Shard R A → Shard R A → Type 0) → Locked R A G W → ℕ → Locked R A G W → Type 0
  Once does a m b = HeldOnce rack area lane_last (LaneWent rack area) true owns does a m b

  module _ (does : Shard R A → Shard R A → Type 0) (a : Locked R A G W) (m : ℕ) (b : Locked R A G W) (h : Once does a m b) (came : HasCame rack area x a) where
    pub was : (y : Metaslab) × CameTo rack area x m h.shard y
    was = came m h.shard h.there

    pub gone : GoesOn rack area owns (part_in x m) was.1.came.pieces was.0 h.before
    gone = h.drifts.state (part_in x m) was.1.came.pieces was.0 (came_is rack area x m h.shard was.0 was.1)

    -- as it was found
    pub found_came : CameTo rack area x m h.before gone.reached
    found_came = came_on rack area x m h.shard h.before was.0 gone.reached gone.now was.1 gone.is gone.since

    module _ (told : Hold → Type 0) (t : Turns rack area (part_in x m) gone.now gone.reached h.after (λ hold z. told hold)) where
      pub left_came : CameTo rack area x m h.after t.reached
      left_came = came_on rack area x m h.before h.after gone.reached t.reached gone.now found_came t.is (acts_since (layout_in (part_in x m)) t.act gone.reached t.reached t.acts)

      abbrev pub hold : Hold
      hold = On (view_of m gone.reached) t.act

      abbrev pub turn : LaneTurn
      turn = record { place = length h.goes.1.log; holds = hold ∷ [] }

      pub traced_one : KeepsBytes rack area (part_in x m) h.before gone.reached h.after → Traced rack area x a b (only_at m (turn ∷ [])) (hold ∷ []) []
      traced_one bytes = traced_hold rack area x a b m h.before h.after h.goes gone.reached t.reached found_came left_came t.act t.acts bytes

      -- each metaslab is still what one came to
      pub came_one : HasCame rack area x b
      came_one k shard at = dite (ℕ_discrete k m)
          (λ same.
          let is : h.after ≡ shard = some_same h.after shard (sym (h.is m ∙ ap (λ t. if t then Some h.after else lane_last a m) (eq-eqb m m refl)) ∙ (ap (lane_last b) (sym same) ∙ at)) in
          (t.reached, subst (λ j. CameTo rack area x j shard t.reached) (sym same) (subst (λ s. CameTo rack area x m s t.reached) is left_came)))
          (λ not. came k shard (sym (h.is k ∙ ap (λ t. if t then Some h.after else lane_last a k) (ne_eqb k m not)) ∙ at))
