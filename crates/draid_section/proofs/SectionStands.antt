-- The pool that is put together behind a section stands for the state to which its lanes led.
use Rattle.std.proofs.Common.{◌≡◌, ◌∙◌, ◌++◌, ◌∷◌, ◌<◌, ◌≤◌, ◌+◌, ◌⊎◌, ◌&&◌, ◌||◌, inl, inr, arith, ℕ, zero, suc, Bool, true, false, not, List, [], Option, Some, None, All, length, refl, sym, ap, subst}
use Rattle.std.specs.Prelude.{nat_eq, option_map, slice_get, filter, max}
use Rattle.std.specs.HashMap.{get}
use Rattle.std.specs.declared.vec.Vec.{Vec}
use Rattle.std.specs.declared.alloc.Global.{Global}
use Rattle.std.proofs.lemmas.Bool.{true≢false}
use Rattle.std.proofs.lemmas.List.Elements.{All-filter, All-nil}
use Rattle.std.proofs.lemmas.Option.{slice_get_within}
use Rattle.sha2.specs.Sha256.{sha256}
use Rattle.draid_names.specs.declared.numbers.TheConstants.{LAST_NUMBER, OBJECTS}
use Rattle.draid_names.specs.declared.pointer.Pointer.{Pointer}
use Rattle.draid_rack.specs.declared.Rack as racks
use Rattle.draid_area.specs.declared.Area as areas
use Rattle.draid_machine.specs.declared.names.Held.{Held}
use Rattle.draid_machine.specs.declared.names.Key.{Key}
use Rattle.draid_machine.specs.declared.names.Stage.TheVariants.{Live}
use Rattle.draid_machine.proofs.Small.{bool_cases, none_some}
use Rattle.draid_segments.specs.Segments.{Pieces}
use Rattle.draid_entries.specs.Entries.{held_in}
use Rattle.draid_entries.specs.Maps.{staged}
use Rattle.draid_objects.specs.Blocks.{Blocks, none_held, table_of}
use Rattle.draid_objects.specs.Changes.{Write, object_of, write_of}
use Rattle.draid_objects.specs.Stores.{AreMarkedUpto, IsBehindChecks, IsFloor, Stores}
use Rattle.draid_objects.proofs.Keeping.{commit_kept, none_floor}
use Rattle.draid_shard.specs.declared.shard.Shard.{Shard}
use Rattle.draid_shard.proofs.Held.{held_entry}
use Rattle.draid_turn.specs.Calls.{Caller, Lock}
use Rattle.draid_turn.specs.declared.past.Past.{Past}
use Rattle.draid_session.specs.State.{Metaslab, State, Store}
use Rattle.draid_pool.specs.Importable.{AllAlike, HasPoolVersions, Shared}
use Rattle.draid_pool.specs.Metaslabs.{IsMetaslab}
use Rattle.draid_pool.specs.Objects.{HoldsObjects, IsLastAt, PointsTo, blocks_of}
use Rattle.draid_pool.specs.Pools.{Represents, part_in}
use Rattle.draid_pool.specs.Records.{HasImages, HasLeafNumbers}
use Rattle.draid_pool.specs.Threads.{Bounds, Knows, all_of, own_blocks, own_changes, own_store, is_own_mark}
use Rattle.draid_pool.specs.Ubers.{IsUber}
use Rattle.draid_pool.specs.declared.cell.Cell.{Cell}
use Rattle.draid_pool.specs.declared.pool.Pool.{Pool}
use Rattle.draid_pool.proofs.Lastly.{write_object}
use Rattle.draid_pool.proofs.Lists.{present, some_of}
use Rattle.draid_pool.proofs.OwnedKnows.{points_out}
use Rattle.draid_pool.proofs.Owning.{own_is, own_not, write_own}
use Rattle.draid_lanes.specs.Locks.{left_in, owned_by}
use Rattle.draid_section.proofs.Finals.{FinalAt}
use Rattle.draid_section.proofs.Joined.{AreOwners, Owner, OwnerOf, all_since, holds_joined, joined_pieces, metaslab_joined, own_kept, write_joined}
use Rattle.draid_section.proofs.Objectwise.{StoresOne, floor_on, one_none, one_of, stores_by}
use Rattle.draid_section.proofs.RanTogether.{Trace}
use Rattle.draid_section.proofs.Restricted.{none_seen}
use Rattle.draid_section.proofs.UberTurns.{with_uber}
use Rattle.draid_objects.specs.Marks.{Mark, MarksNeverFall, check_at, check_by, is_dropped, mark_group}
use Rattle.draid_section.proofs.Markwise.{behind_all, marks_own, own_check, own_check_at, own_undropped_at, same_back, same_dropped}
use Rattle.draid_pool.proofs.Marked.{marked_later, max_next, max_up}

both_up : (a b c : ℕ) → a ≤ b → b ≤ c → a ≤ c
both_up a b c low high = omega (arith, low, high)

-- ---- who owns what

or_none : (a b : Bool) → (a || b) ≡ false → (a ≡ false) × (b ≡ false)
or_none true b is = absurd (true≢false is)
or_none false b is = (refl, is)

module _ {R A : Type 0} where
  -- what a lane owns, and what befell that
  abbrev pub owner_of : Trace → Vec (Caller (Past (Cell R A))) Global → Owner
  owner_of trace lane = record { owns = owned_by lane.items; since = trace.since; store = trace.store }

  -- lane after lane, and behind them who have what no lane has
  abbrev pub owners_of : List Owner → List Trace → List (Vec (Caller (Past (Cell R A))) Global) → List Owner
  owners_of others (trace ∷ traces) (lane ∷ lanes) = owner_of trace lane ∷ owners_of others traces lanes
  owners_of others traces lanes = others

  -- whether a lane has an object
  abbrev pub any_owns : List (Vec (Caller (Past (Cell R A))) Global) → ℕ → Bool
  any_owns [] o = false
  any_owns (lane ∷ lanes) o = owned_by lane.items o || any_owns lanes o

  -- and who it is
  pub who_owns : (lanes : List (Vec (Caller (Past (Cell R A))) Global)) (o : ℕ) → any_owns lanes o ≡ true → (i : ℕ) × (lane : Vec (Caller (Past (Cell R A))) Global) × (slice_get lanes i ≡ Some lane) × (owned_by lane.items o ≡ true)
  who_owns [] o is = absurd (true≢false (sym is))
  who_owns (lane ∷ lanes) o is = elim (bool_cases (owned_by lane.items o)) [
    | inl mine ↦ (0, lane, refl, mine)
    | inr not_mine ↦ (let rest = who_owns lanes o (sym (ap (λ b. b || any_owns lanes o) not_mine) ∙ is) in (suc rest.0, rest.1, rest.2, rest.3))
  ]

  pub none_owns : (lanes : List (Vec (Caller (Past (Cell R A))) Global)) (o : ℕ) → any_owns lanes o ≡ false → (i : ℕ) (lane : Vec (Caller (Past (Cell R A))) Global) → slice_get lanes i ≡ Some lane → owned_by lane.items o ≡ true → ⊥
  none_owns [] o is i lane at mine = absurd (cc)
  none_owns (l ∷ lanes) o is zero lane at mine =
      let z = or_none (owned_by l.items o) (any_owns lanes o) is in
      let same : l ≡ lane = cc in
      absurd (true≢false (sym mine ∙ (ap (λ (v : Vec (Caller (Past (Cell R A))) Global). owned_by v.items o) (sym same) ∙ z.0)))
  none_owns (l ∷ lanes) o is (suc i) lane at mine = none_owns lanes o (or_none (owned_by l.items o) (any_owns lanes o) is).1 i lane at mine

  -- an owner is a lane's, or one of those behind
  pub record AtLane (traces : List Trace) (lanes : List (Vec (Caller (Past (Cell R A))) Global)) (i : ℕ) (a : Owner) : Type 0 where
    pub trace : Trace
    pub lane : Vec (Caller (Past (Cell R A))) Global
    pub trace_is : slice_get traces i ≡ Some trace
    pub lane_is : slice_get lanes i ≡ Some lane
    pub is : owner_of trace lane ≡ a

  pub owner_cases : (others : List Owner) (traces : List Trace) (lanes : List (Vec (Caller (Past (Cell R A))) Global)) → length lanes ≡ length traces → (i : ℕ) (a : Owner) → slice_get (owners_of others traces lanes) i ≡ Some a
      → AtLane traces lanes i a ⊎ ((k : ℕ) × (i ≡ k + length traces) × (slice_get others k ≡ Some a))
  owner_cases others [] [] many i a at = inr (i, omega arith, at)
  owner_cases others [] (l ∷ lanes) many i a at = absurd (omega (arith, many))
  owner_cases others (t ∷ traces) [] many i a at = absurd (omega (arith, many))
  owner_cases others (t ∷ traces) (l ∷ lanes) many zero a at = inl (record { trace = t; lane = l; trace_is = refl; lane_is = refl; is = cc })
  owner_cases others (t ∷ traces) (l ∷ lanes) many (suc i) a at = elim (owner_cases others traces lanes (omega (arith, many)) i a at) [
    | inl z ↦ inl (record { trace = z.trace; lane = z.lane; trace_is = z.trace_is; lane_is = z.lane_is; is = z.is })
    | inr z ↦ inr (z.0, (let e = z.1 in omega (arith, e)), z.2)
  ]

  pub owner_at : (others : List Owner) (traces : List Trace) (lanes : List (Vec (Caller (Past (Cell R A))) Global)) (i : ℕ) (trace : Trace) (lane : Vec (Caller (Past (Cell R A))) Global) → slice_get traces i ≡ Some trace → slice_get lanes i ≡ Some lane → slice_get (owners_of others traces lanes) i ≡ Some (owner_of trace lane)
  owner_at others [] lanes i trace lane t_is l_is = absurd (cc)
  owner_at others (t ∷ traces) [] i trace lane t_is l_is = absurd (cc)
  owner_at others (t ∷ traces) (l ∷ lanes) zero trace lane t_is l_is = (let same : t ≡ trace = cc in let here : l ≡ lane = cc in λ k. Some (owner_of (same k) (here k)))
  owner_at others (t ∷ traces) (l ∷ lanes) (suc i) trace lane t_is l_is = owner_at others traces lanes i trace lane t_is l_is

  pub other_at : (others : List Owner) (traces : List Trace) (lanes : List (Vec (Caller (Past (Cell R A))) Global)) → length lanes ≡ length traces → (k : ℕ) (a : Owner) → slice_get others k ≡ Some a → slice_get (owners_of others traces lanes) (k + length traces) ≡ Some a
  other_at others [] [] many k a at = subst (λ n. slice_get others n ≡ Some a) (omega arith) at
  other_at others [] (l ∷ lanes) many k a at = absurd (omega (arith, many))
  other_at others (t ∷ traces) [] many k a at = absurd (omega (arith, many))
  other_at others (t ∷ traces) (l ∷ lanes) many k a at =
      let next : suc (k + length traces) ≡ k + length (t ∷ traces) = omega arith in
      subst (λ n. slice_get (owner_of t l ∷ owners_of others traces lanes) n ≡ Some a) next (other_at others traces lanes (omega (arith, many)) k a at)

-- ---- the pool

module _ {R A : Type 0} (rack : racks.Ghosts R) (area : areas.Ghosts A) (x : State) (pool : Pool R A) (r : Represents rack area pool x) (locks : List (Lock (Cell R A))) (shards : List (Shard R A)) (zs : List Metaslab) (u : State) (zs_many : length zs ≡ length locks) (shards_many : length shards ≡ length locks)
    (x_many : length x.metaslabs ≡ length locks) (final : (m : ℕ) (z : Metaslab) → slice_get zs m ≡ Some z → FinalAt rack area x locks shards m z) (committed : (m : ℕ) (y : Metaslab) → slice_get zs m ≡ Some y → y.world.committed ≡ u.committed) (up : x.committed ≤ u.committed)
    (traces : List Trace) (lanes : List (Vec (Caller (Past (Cell R A))) Global)) (lanes_many : length lanes ≡ length traces) (rests : ℕ → Bool) (large : (o : ℕ) → any_owns lanes o ≡ false → rests o ≡ false → OBJECTS ≤ o)
    (apart : (i j : ℕ) (a b : Vec (Caller (Past (Cell R A))) Global) (o : ℕ) → slice_get lanes i ≡ Some a → slice_get lanes j ≡ Some b → owned_by a.items o ≡ true → owned_by b.items o ≡ true → i ≡ j)
    (apart_rest : (i : ℕ) (a : Vec (Caller (Past (Cell R A))) Global) (o : ℕ) → slice_get lanes i ≡ Some a → owned_by a.items o ≡ true → rests o ≡ true → ⊥)
    (own_since : (i : ℕ) (trace : Trace) (lane : Vec (Caller (Past (Cell R A))) Global) → slice_get traces i ≡ Some trace → slice_get lanes i ≡ Some lane → All (λ c. owned_by lane.items (object_of c) ≡ true) trace.since)
    (adds : (i : ℕ) (trace : Trace) → slice_get traces i ≡ Some trace → trace.store.changes ≡ trace.since ++ x.store.changes)
    (marks_lane : (i : ℕ) (trace : Trace) → slice_get traces i ≡ Some trace → trace.store.marks ≡ x.store.marks)
    (tables : ℕ → ℕ → Option Pointer) (seqs floors : ℕ → ℕ)
    (knows : (i : ℕ) (trace : Trace) (lane : Vec (Caller (Past (Cell R A))) Global) → slice_get traces i ≡ Some trace → slice_get lanes i ≡ Some lane → Knows rack area (owned_by lane.items) (λ m. slice_get shards m) (tables i) (seqs i) (floors i) (record x { metaslabs = zs; store = trace.store }))
    (table : ℕ → Option Pointer) (knows_rest : Knows rack area rests (λ m. slice_get shards m) table pool.own.seq pool.own.floor (record x { metaslabs = zs; store = x.store }))
    (new : Pool R A) (table_lane : (i : ℕ) (lane : Vec (Caller (Past (Cell R A))) Global) → slice_get lanes i ≡ Some lane → (o : ℕ) → owned_by lane.items o ≡ true → get nat_eq new.own.objects o ≡ tables i o)
    (table_rest : (o : ℕ) → rests o ≡ true → get nat_eq new.own.objects o ≡ table o) (table_none : (o : ℕ) → any_owns lanes o ≡ false → rests o ≡ false → get nat_eq new.own.objects o ≡ None)
    (seq_lane : (i : ℕ) (trace : Trace) → slice_get traces i ≡ Some trace → seqs i ≤ new.own.seq) (seq_rest : pool.own.seq ≤ new.own.seq) (floor_lane : (i : ℕ) (trace : Trace) → slice_get traces i ≡ Some trace → floors i ≤ new.own.floor) (floor_rest : pool.own.floor ≤ new.own.floor)
    (next : new.own.floor ≤ u.committed + 2) (last : new.own.floor ≤ LAST_NUMBER) (geometry : new.geometry ≡ pool.geometry) (shards_are : new.metaslabs.shards.items ≡ shards) where
  -- nobody's objects have numbers that none has
  abbrev nobody : ℕ → Bool
  nobody o = not (any_owns lanes o) && not (rests o)

  abbrev rest_owner : Owner
  rest_owner = record { owns = rests; since = []; store = x.store }

  abbrev no_owner : Owner
  no_owner = record { owns = nobody; since = []; store = x.store }

  abbrev others : List Owner
  others = rest_owner ∷ no_owner ∷ []

  abbrev pub section_owners : List Owner
  section_owners = owners_of others traces lanes

  nobody_is : (o : ℕ) → any_owns lanes o ≡ false → rests o ≡ false → nobody o ≡ true
  nobody_is o a b = ap (λ t. not t && not (rests o)) a ∙ ap not b

  nobody_so : (a b : Bool) → (not a && not b) ≡ true → (a ≡ false) × (b ≡ false)
  nobody_so true b is = absurd (true≢false (sym is))
  nobody_so false true is = absurd (true≢false (sym is))
  nobody_so false false is = (refl, refl)

  cover : (o : ℕ) → OwnerOf section_owners o
  cover o = elim (bool_cases (any_owns lanes o)) [
    | inl some ↦
        let w = who_owns lanes o some in
        let trace = present traces w.0 (let inside = slice_get_within lanes w.0 w.1 w.2 in omega (arith, inside, lanes_many)) in
        record { place = w.0; owner = owner_of trace.0 w.1; there = owner_at others traces lanes w.0 trace.0 w.1 trace.1 w.2; owned = w.3 }
    | inr none ↦ elim (bool_cases (rests o)) [
      | inl mine ↦ record { place = 0 + length traces; owner = rest_owner; there = other_at others traces lanes lanes_many 0 rest_owner refl; owned = mine }
      | inr not_mine ↦ record { place = 1 + length traces; owner = no_owner; there = other_at others traces lanes lanes_many 1 no_owner refl; owned = nobody_is o none not_mine }
    ]
  ]

  -- whose an owner is
  data Whose (i : ℕ) (a : Owner) : Type 0 where
    OfLane : AtLane traces lanes i a → Whose i a
    OfRest : i ≡ 0 + length traces → rest_owner ≡ a → Whose i a
    OfNobody : i ≡ 1 + length traces → no_owner ≡ a → Whose i a

  whose : (i : ℕ) (a : Owner) → slice_get section_owners i ≡ Some a → Whose i a
  whose i a at = elim (owner_cases others traces lanes lanes_many i a at) [
    | inl z ↦ OfLane z
    | inr z ↦ by z.0 z.1 z.2
  ]
    where
      by : (k : ℕ) → i ≡ k + length traces → slice_get others k ≡ Some a → Whose i a
      by zero place there = OfRest place (some_of (Some rest_owner) rest_owner a refl there)
      by (suc zero) place there = OfNobody place (some_of (Some no_owner) no_owner a refl there)
      by (suc (suc k)) place there = absurd (cc)

  alone : (i j : ℕ) (a b : Owner) (o : ℕ) → Whose i a → Whose j b → a.owns o ≡ true → b.owns o ≡ true → i ≡ j
  alone i j a b o (OfLane p) (OfLane q) mine yours = apart i j p.lane q.lane o p.lane_is q.lane_is (ap (λ (c : Owner). c.owns o) p.is ∙ mine) (ap (λ (c : Owner). c.owns o) q.is ∙ yours)
  alone i j a b o (OfLane p) (OfRest place q) mine yours = absurd (apart_rest i p.lane o p.lane_is (ap (λ (c : Owner). c.owns o) p.is ∙ mine) (ap (λ (c : Owner). c.owns o) q ∙ yours))
  alone i j a b o (OfLane p) (OfNobody place q) mine yours = absurd (none_owns lanes o (nobody_so (any_owns lanes o) (rests o) (ap (λ (c : Owner). c.owns o) q ∙ yours)).0 i p.lane p.lane_is (ap (λ (c : Owner). c.owns o) p.is ∙ mine))
  alone i j a b o (OfRest place p) (OfLane q) mine yours = absurd (apart_rest j q.lane o q.lane_is (ap (λ (c : Owner). c.owns o) q.is ∙ yours) (ap (λ (c : Owner). c.owns o) p ∙ mine))
  alone i j a b o (OfRest place p) (OfRest place' q) mine yours = place ∙ sym place'
  alone i j a b o (OfRest place p) (OfNobody place' q) mine yours =
      absurd (true≢false (sym (ap (λ (c : Owner). c.owns o) p ∙ mine) ∙ (nobody_so (any_owns lanes o) (rests o) (ap (λ (c : Owner). c.owns o) q ∙ yours)).1))
  alone i j a b o (OfNobody place p) (OfLane q) mine yours = absurd (none_owns lanes o (nobody_so (any_owns lanes o) (rests o) (ap (λ (c : Owner). c.owns o) p ∙ mine)).0 j q.lane q.lane_is (ap (λ (c : Owner). c.owns o) q.is ∙ yours))
  alone i j a b o (OfNobody place p) (OfRest place' q) mine yours =
      absurd (true≢false (sym (ap (λ (c : Owner). c.owns o) q ∙ yours) ∙ (nobody_so (any_owns lanes o) (rests o) (ap (λ (c : Owner). c.owns o) p ∙ mine)).1))
  alone i j a b o (OfNobody place p) (OfNobody place' q) mine yours = place ∙ sym place'

  are : AreOwners section_owners x.store.changes
  are = record {
    cover = cover;
    apart = λ i j a b o a_is b_is. alone i j a b o (whose i a a_is) (whose j b b_is);
    own_since = λ i a a_is. since_by i a (whose i a a_is);
    adds = λ i a a_is. adds_by i a (whose i a a_is);
  }
    where
      since_by : (i : ℕ) (a : Owner) → Whose i a → All (λ c. a.owns (object_of c) ≡ true) a.since
      since_by i a (OfLane p) = subst (λ (b : Owner). All (λ c. b.owns (object_of c) ≡ true) b.since) p.is (own_since i p.trace p.lane p.trace_is p.lane_is)
      since_by i a (OfRest place p) = subst (λ (b : Owner). All (λ c. b.owns (object_of c) ≡ true) b.since) p (All-nil (λ c. rests (object_of c) ≡ true))
      since_by i a (OfNobody place p) = subst (λ (b : Owner). All (λ c. b.owns (object_of c) ≡ true) b.since) p (All-nil (λ c. nobody (object_of c) ≡ true))

      adds_by : (i : ℕ) (a : Owner) → Whose i a → a.store.changes ≡ a.since ++ x.store.changes
      adds_by i a (OfLane p) = subst (λ (b : Owner). b.store.changes ≡ b.since ++ x.store.changes) p.is (adds i p.trace p.trace_is)
      adds_by i a (OfRest place p) = subst (λ (b : Owner). b.store.changes ≡ b.since ++ x.store.changes) p refl
      adds_by i a (OfNobody place p) = subst (λ (b : Owner). b.store.changes ≡ b.since ++ x.store.changes) p refl

  -- ---- metaslabs

  -- a metaslab that comes back
  final_is : (m : ℕ) (z : Metaslab) (f : FinalAt rack area x locks shards m z) → IsMetaslab rack area (part_in x m) f.at.came.pieces f.shard z
  final_is m z f = subst (λ (s : Shard R A). IsMetaslab rack area (part_in x m) f.at.came.pieces s z) f.left (subst (IsMetaslab rack area (part_in x m) f.at.came.pieces (left_in f.lock f.log)) f.at.is f.at.came.is)

  -- no block is of an object with so great a number
  no_large : (m : ℕ) (k : Key) (pieces : Pieces) (shard : Shard R A) (y : Metaslab) → IsMetaslab rack area (part_in x m) pieces shard y → OBJECTS ≤ k.object → y.world.core.held k ≡ None
  no_large m k pieces shard y is from = by (held_in shard.entries k) refl
    where
      by : (o : Option Held) → held_in shard.entries k ≡ o → y.world.core.held k ≡ None
      by None at = is.stands.is_in.held k ∙ at
      by (Some h) at = absurd (
          let e = held_entry shard.entries k h at in
          let low : k.object < OBJECTS = subst (λ (j : Key). j.object < OBJECTS) e.key_is (is.valid.tables.placed h.first e.e e.there).is_block.object_small in
          omega (arith, low, from))

  none_in : (ys : List Metaslab) (m : ℕ) (k : Key) → ((y : Metaslab) → slice_get ys m ≡ Some y → y.world.core.held k ≡ None) → blocks_of ys m k ≡ None
  none_in ys m k each = by (slice_get ys m) refl
    where
      by : (o : Option Metaslab) → slice_get ys m ≡ o → table_of (option_map (λ (y : Metaslab). y.world) o) k ≡ None
      by None at = refl
      by (Some y) at = each y at

  large_then : (m : ℕ) (k : Key) → OBJECTS ≤ k.object → blocks_of zs m k ≡ None
  large_then m k from = none_in zs m k (λ z at. (let f = final m z at in no_large m k f.at.came.pieces f.shard z (final_is m z f) from))

  large_first : (m : ℕ) (k : Key) → OBJECTS ≤ k.object → blocks_of x.metaslabs m k ≡ None
  large_first m k from = none_in x.metaslabs m k (λ y at.
      (let inside = slice_get_within x.metaslabs m y at in
      let as_many = r.stands.shards in
      let shard = present pool.metaslabs.shards.items m (omega (arith, inside, as_many)) in
      no_large m k (r.stands.pieces m) shard.0 y (r.stands.each m shard.0 y shard.1 at) from))

  -- nor does one have bytes
  no_pointer : (p : Option Pointer) (w : Write) → OBJECTS ≤ w.object → PointsTo pool.metaslabs.shards.items p (Some w) → ⊥
  no_pointer None w from points = points
  no_pointer (Some p) w from points =
      let inside = slice_get_within pool.metaslabs.shards.items p.metaslab points.shard points.there in
      let as_many = r.stands.shards in
      let y = present x.metaslabs p.metaslab (omega (arith, inside, as_many)) in
      let valid = (r.stands.each p.metaslab points.shard y.0 points.there y.1).valid in
      let low : p.object < OBJECTS = (valid.tables.placed p.first (staged Live p) points.live).is_block.object_small in
      let same = points.object_is in
      omega (arith, low, same, from)

  never : (o : ℕ) → OBJECTS ≤ o → write_of x.store.changes o ≡ None
  never o from = by (write_of x.store.changes o) refl
    where
      by : (v : Option Write) → write_of x.store.changes o ≡ v → write_of x.store.changes o ≡ None
      by None e = e
      by (Some w) e = absurd (
          let is = write_object x.store.changes o w e in
          no_pointer (get nat_eq pool.own.objects o) w (omega (arith, from, is)) (subst (PointsTo pool.metaslabs.shards.items (get nat_eq pool.own.objects o)) e (r.stands.objects o)))

  -- ---- what is known of each owner's objects

  none_known : Pieces
  none_known k column row = None

  abbrev any_pieces : (m : ℕ) (o : Option Metaslab) → slice_get zs m ≡ o → Pieces
  any_pieces m None at = none_known
  any_pieces m (Some z) at = (final m z at).at.came.pieces

  abbrev pieces_whose : (i : ℕ) (a : Owner) → Whose i a → ℕ → Pieces
  pieces_whose i a (OfLane p) = (knows i p.trace p.lane p.trace_is p.lane_is).pieces
  pieces_whose i a (OfRest place p) = knows_rest.pieces
  pieces_whose i a (OfNobody place p) = λ m. any_pieces m (slice_get zs m) refl

  abbrev pieces_at : (i : ℕ) (o : Option Owner) → slice_get section_owners i ≡ o → ℕ → Pieces
  pieces_at i None at = λ m. none_known
  pieces_at i (Some a) at = pieces_whose i a (whose i a at)

  abbrev pieces : ℕ → ℕ → Pieces
  pieces i = pieces_at i (slice_get section_owners i) refl

  bounds : (store : Store) → Bounds (record x { metaslabs = zs; store = store }) u.committed
  bounds store m y at = (let same = committed m y at in omega (arith, same))

  nobody_large : (o : ℕ) → nobody o ≡ true → OBJECTS ≤ o
  nobody_large o is = (let z = nobody_so (any_owns lanes o) (rests o) is in large o z.0 z.1)

  abbrev of_nobody : Blocks
  of_nobody = own_blocks (all_of nobody) (blocks_of zs)

  nothing_held : (m : ℕ) (k : Key) → of_nobody m k ≡ None
  nothing_held m k = elim (bool_cases (nobody k.object)) [
    | inl mine ↦ own_is (all_of nobody) (blocks_of zs) m k mine ∙ large_then m k (nobody_large k.object mine)
    | inr other ↦ own_not (all_of nobody) (blocks_of zs) m k other
  ]

  holds_nobody : (now : ℕ → Pieces) → HoldsObjects x.geometry u.committed (own_store nobody x.store) of_nobody now
  holds_nobody now = record {
    stores = stores_by sha256 u.committed (own_changes nobody x.store.changes) no_marks of_nobody (marks_own nobody x.store.marks r.stands.holds.stores.marked) (λ o. one o (nobody o) refl);
    floors = λ o. floor o (nobody o) refl;
    settled = λ m k h at. absurd (none_some (of_nobody m k) h (nothing_held m k) at);
    numbered = λ m k h at. absurd (none_some (of_nobody m k) h (nothing_held m k) at);
    positive = All-filter (is_own_mark nobody) (λ q. 1 ≤ mark_group q) x.store.marks r.stands.holds.positive;
    bytes = λ m k h write at. absurd (none_some (of_nobody m k) h (nothing_held m k) at);
  }
    where
      no_marks : List Mark
      no_marks = filter (is_own_mark nobody) x.store.marks

      raised : Stores sha256 u.committed x.store.changes x.store.marks (blocks_of x.metaslabs)
      raised = commit_kept sha256 x.committed x.store.changes x.store.marks (blocks_of x.metaslabs) (blocks_of x.metaslabs) r.stands.holds.stores u.committed up (λ m k. inl refl)

      same : (o : ℕ) → nobody o ≡ true → (m : ℕ) (k : Key) → k.object ≡ o → of_nobody m k ≡ blocks_of x.metaslabs m k
      same o mine m k of = nothing_held m k ∙ sym (large_first m k (let from = nobody_large o mine in omega (arith, from, of)))

      one : (o : ℕ) (b : Bool) → nobody o ≡ b → StoresOne sha256 u.committed (own_changes nobody x.store.changes) no_marks of_nobody o
      one o true is =
          one_of sha256 u.committed (own_changes nobody x.store.changes) no_marks of_nobody o x.store.changes x.store.marks (blocks_of x.metaslabs) raised (sym (own_kept nobody o x.store.changes is)) (same o is)
          (same_back o (check_by no_marks) (check_by x.store.marks) (own_check nobody o is x.store.marks))
          (λ t. same_back o (check_at t no_marks) (check_at t x.store.marks) (own_check_at nobody o is t x.store.marks))
      one o false is =
          one_none sha256 u.committed (own_changes nobody x.store.changes) no_marks of_nobody o (none_seen nobody o x.store.changes is) (λ m k of. nothing_held m k) (λ t. own_undropped_at nobody o is t x.store.marks)

      floor : (o : ℕ) (b : Bool) → nobody o ≡ b → IsFloor (own_changes nobody x.store.changes) of_nobody o x.store.floor
      floor o true is = floor_on x.store.changes (own_changes nobody x.store.changes) (blocks_of x.metaslabs) of_nobody o x.store.floor (sym (own_kept nobody o x.store.changes is)) (same o is) (r.stands.holds.floors o)
      floor o false is = floor_on [] (own_changes nobody x.store.changes) (λ m. none_held) of_nobody o x.store.floor (sym (none_seen nobody o x.store.changes is)) (λ m k of. nothing_held m k) (none_floor o x.store.floor)

  holds_whose : (i : ℕ) (a : Owner) (w : Whose i a) → HoldsObjects x.geometry u.committed (own_store a.owns a.store) (own_blocks (all_of a.owns) (blocks_of zs)) (pieces_whose i a w)
  holds_whose i a (OfLane p) =
      let k = knows i p.trace p.lane p.trace_is p.lane_is in
      subst (λ (b : Owner). HoldsObjects x.geometry u.committed (own_store b.owns b.store) (own_blocks (all_of b.owns) (blocks_of zs)) k.pieces) p.is (k.but_it.holds.holds u.committed (bounds p.trace.store))
  holds_whose i a (OfRest place p) =
      subst (λ (b : Owner). HoldsObjects x.geometry u.committed (own_store b.owns b.store) (own_blocks (all_of b.owns) (blocks_of zs)) knows_rest.pieces) p (knows_rest.but_it.holds.holds u.committed (bounds x.store))
  holds_whose i a (OfNobody place p) =
      subst (λ (b : Owner). HoldsObjects x.geometry u.committed (own_store b.owns b.store) (own_blocks (all_of b.owns) (blocks_of zs)) (λ m. any_pieces m (slice_get zs m) refl)) p (holds_nobody (λ m. any_pieces m (slice_get zs m) refl))

  holds_at : (i : ℕ) (o : Option Owner) (e : slice_get section_owners i ≡ o) (a : Owner) → o ≡ Some a → HoldsObjects x.geometry u.committed (own_store a.owns a.store) (own_blocks (all_of a.owns) (blocks_of zs)) (pieces_at i o e)
  holds_at i None e a is = absurd (cc)
  holds_at i (Some b) e a is = subst (λ (c : Owner). HoldsObjects x.geometry u.committed (own_store c.owns c.store) (own_blocks (all_of c.owns) (blocks_of zs)) (pieces_whose i b (whose i b e))) (some_of (Some b) b a refl is) (holds_whose i b (whose i b e))

  -- each metaslab with the pieces that an owner knows
  stands_whose : (i : ℕ) (a : Owner) (w : Whose i a) (m : ℕ) (z : Metaslab) (at : slice_get zs m ≡ Some z) (shard : Shard R A) → slice_get shards m ≡ Some shard → IsMetaslab rack area (part_in x m) (pieces_whose i a w m) shard z
  stands_whose i a (OfLane p) m z at shard shard_is =
      let k = (knows i p.trace p.lane p.trace_is p.lane_is).but_it.each m shard shard_is in
      subst (IsMetaslab rack area (part_in x m) ((knows i p.trace p.lane p.trace_is p.lane_is).pieces m) shard) (some_of (slice_get zs m) k.0 z k.1 at) k.2
  stands_whose i a (OfRest place p) m z at shard shard_is =
      let k = knows_rest.but_it.each m shard shard_is in
      subst (IsMetaslab rack area (part_in x m) (knows_rest.pieces m) shard) (some_of (slice_get zs m) k.0 z k.1 at) k.2
  stands_whose i a (OfNobody place p) m z at shard shard_is = by (slice_get zs m) refl at
    where
      by : (o : Option Metaslab) (e : slice_get zs m ≡ o) → o ≡ Some z → IsMetaslab rack area (part_in x m) (any_pieces m o e) shard z
      by None e is = absurd (cc)
      by (Some y) e is =
          let f = final m y e in
          let shard_same : f.shard ≡ shard = some_of (slice_get shards m) f.shard shard f.shard_is shard_is in
          let z_same : y ≡ z = some_of (Some y) y z refl is in
          subst (λ (t : Shard R A × Metaslab). IsMetaslab rack area (part_in x m) f.at.came.pieces t.0 t.1) (λ j. (shard_same j, z_same j)) (final_is m y f)

  stands_at : (i : ℕ) (o : Option Owner) (e : slice_get section_owners i ≡ o) (a : Owner) → o ≡ Some a → (m : ℕ) (z : Metaslab) → slice_get zs m ≡ Some z → (shard : Shard R A) → slice_get shards m ≡ Some shard → IsMetaslab rack area (part_in x m) (pieces_at i o e m) shard z
  stands_at i None e a is m z at shard shard_is = absurd (cc)
  stands_at i (Some b) e a is m z at shard shard_is = stands_whose i b (whose i b e) m z at shard shard_is

  -- ---- the state

  module _ (store : Store) (added : store.changes ≡ all_since section_owners ++ x.store.changes) (marks : store.marks ≡ x.store.marks) (seq_is : store.seq ≡ new.own.seq) (floor_is : store.floor ≡ new.own.floor) where
    abbrev now : State
    now = with_uber (record x { metaslabs = zs; store = store }) u

    numbers : (i : ℕ) (a : Owner) → slice_get section_owners i ≡ Some a → a.store.seq ≤ store.seq
    numbers i a at = by (whose i a at)
      where
        by : Whose i a → a.store.seq ≤ store.seq
        by (OfLane p) =
            let k = (knows i p.trace p.lane p.trace_is p.lane_is).but_it.seq in
            let most = seq_lane i p.trace p.trace_is in
            let mine = ap (λ (b : Owner). b.store.seq) p.is in omega (arith, k, most, mine, seq_is)
        by (OfRest place p) = (let k = r.stands.seq in let mine = ap (λ (b : Owner). b.store.seq) p in omega (arith, k, seq_rest, mine, seq_is))
        by (OfNobody place p) = (let k = r.stands.seq in let mine = ap (λ (b : Owner). b.store.seq) p in omega (arith, k, seq_rest, mine, seq_is))

    floors_are : (i : ℕ) (a : Owner) → slice_get section_owners i ≡ Some a → a.store.floor ≤ store.floor
    floors_are i a at = by (whose i a at)
      where
        by : Whose i a → a.store.floor ≤ store.floor
        by (OfLane p) =
            let k = (knows i p.trace p.lane p.trace_is p.lane_is).but_it.floor in
            let most = floor_lane i p.trace p.trace_is in
            let mine = ap (λ (b : Owner). b.store.floor) p.is in omega (arith, k, most, mine, floor_is)
        by (OfRest place p) = (let k = r.stands.floor in let mine = ap (λ (b : Owner). b.store.floor) p in omega (arith, k, floor_rest, mine, floor_is))
        by (OfNobody place p) = (let k = r.stands.floor in let mine = ap (λ (b : Owner). b.store.floor) p in omega (arith, k, floor_rest, mine, floor_is))

    marks_each : (i : ℕ) (a : Owner) → slice_get section_owners i ≡ Some a → a.store.marks ≡ store.marks
    marks_each i a at = by (whose i a at)
      where
        by : Whose i a → a.store.marks ≡ store.marks
        by (OfLane p) = subst (λ (b : Owner). b.store.marks ≡ store.marks) p.is (marks_lane i p.trace p.trace_is ∙ sym marks)
        by (OfRest place p) = subst (λ (b : Owner). b.store.marks ≡ store.marks) p (sym marks)
        by (OfNobody place p) = subst (λ (b : Owner). b.store.marks ≡ store.marks) p (sym marks)

    falls : MarksNeverFall store.marks
    falls = subst MarksNeverFall (sym marks) r.stands.holds.stores.marked

    positive : All (λ q. 1 ≤ mark_group q) store.marks
    positive = subst (All (λ q. 1 ≤ mark_group q)) (sym marks) r.stands.holds.positive

    -- what all marks leave undropped, an owner's own do
    own_counts : (owns : ℕ → Bool) (k : Key) (some : List Mark) → owns k.object ≡ true → some ≡ store.marks → is_dropped (check_by store.marks) k ≡ false → is_dropped (check_by (filter (is_own_mark owns) some)) k ≡ false
    own_counts owns k some mine same counts =
        subst (λ ms. is_dropped (check_by (filter (is_own_mark owns) ms)) k ≡ false) (sym same)
        (same_dropped k.object (check_by (filter (is_own_mark owns) store.marks)) (check_by store.marks) k (own_check owns k.object mine store.marks) refl ∙ counts)

    each_holds : (i : ℕ) (a : Owner) → slice_get section_owners i ≡ Some a → HoldsObjects x.geometry u.committed (own_store a.owns a.store) (own_blocks (all_of a.owns) (blocks_of zs)) (pieces i)
    each_holds i a at = holds_at i (slice_get section_owners i) refl a at

    written : (o : ℕ) → write_of (own_changes (are.cover o).owner.owns (are.cover o).owner.store.changes) o ≡ write_of store.changes o
    written = write_joined section_owners x.store.changes are x.geometry u.committed (blocks_of zs) pieces store added marks_each falls positive numbers floors_are each_holds

    points_by : (o : ℕ) (i : ℕ) (a : Owner) (w : Whose i a) → a.owns o ≡ true → write_of (own_changes a.owns a.store.changes) o ≡ write_of store.changes o → PointsTo shards (get nat_eq new.own.objects o) (write_of store.changes o)
    points_by o i a (OfLane p) owned is =
        let mine : owned_by p.lane.items o ≡ true = ap (λ (b : Owner). b.owns o) p.is ∙ owned in
        let k = (knows i p.trace p.lane p.trace_is p.lane_is).but_it.objects o mine in
        let same : write_of p.trace.store.changes o ≡ write_of store.changes o = sym (write_own (owned_by p.lane.items) p.trace.store.changes o mine) ∙ (ap (λ (b : Owner). write_of (own_changes b.owns b.store.changes) o) p.is ∙ is) in
        subst (λ (t : Option Pointer × Option Write). PointsTo shards t.0 t.1) (λ j. (sym (table_lane i p.lane p.lane_is o mine) j, same j)) (points_out shards (tables i o) (write_of p.trace.store.changes o) k)
    points_by o i a (OfRest place p) owned is =
        let mine : rests o ≡ true = ap (λ (b : Owner). b.owns o) p ∙ owned in
        let k = knows_rest.but_it.objects o mine in
        let same : write_of x.store.changes o ≡ write_of store.changes o = sym (write_own rests x.store.changes o mine) ∙ (ap (λ (b : Owner). write_of (own_changes b.owns b.store.changes) o) p ∙ is) in
        subst (λ (t : Option Pointer × Option Write). PointsTo shards t.0 t.1) (λ j. (sym (table_rest o mine) j, same j)) (points_out shards (table o) (write_of x.store.changes o) k)
    points_by o i a (OfNobody place p) owned is =
        let mine : nobody o ≡ true = ap (λ (b : Owner). b.owns o) p ∙ owned in
        let z = nobody_so (any_owns lanes o) (rests o) mine in
        let same : write_of x.store.changes o ≡ write_of store.changes o = sym (write_own nobody x.store.changes o mine) ∙ (ap (λ (b : Owner). write_of (own_changes b.owns b.store.changes) o) p ∙ is) in
        subst (λ (t : Option Pointer × Option Write). PointsTo shards t.0 t.1) (λ j. (sym (table_none o z.0 z.1) j, (sym (never o (large o z.0 z.1)) ∙ same) j)) tt

    only_by : (m : ℕ) (k : Key) (h : Held) → blocks_of zs m k ≡ Some h → h.stage ≡ Live → is_dropped (check_by store.marks) k ≡ false → IsLastAt m k (write_of store.changes k.object)
    only_by m k h at live counts = subst (IsLastAt m k) (written k.object) (by (are.cover k.object).place (are.cover k.object).owner (whose (are.cover k.object).place (are.cover k.object).owner (are.cover k.object).there) (are.cover k.object).owned)
      where
        by : (i : ℕ) (a : Owner) → Whose i a → a.owns k.object ≡ true → IsLastAt m k (write_of (own_changes a.owns a.store.changes) k.object)
        by i a (OfLane p) owned =
            let mine : owned_by p.lane.items k.object ≡ true = ap (λ (b : Owner). b.owns k.object) p.is ∙ owned in
            subst (λ (b : Owner). IsLastAt m k (write_of (own_changes b.owns b.store.changes) k.object)) p.is
            ((knows i p.trace p.lane p.trace_is p.lane_is).but_it.holds.only m k h (own_is (all_of (owned_by p.lane.items)) (blocks_of zs) m k mine ∙ at) live
            (own_counts (owned_by p.lane.items) k p.trace.store.marks mine (marks_lane i p.trace p.trace_is ∙ sym marks) counts))
        by i a (OfRest place p) owned =
            let mine : rests k.object ≡ true = ap (λ (b : Owner). b.owns k.object) p ∙ owned in
            subst (λ (b : Owner). IsLastAt m k (write_of (own_changes b.owns b.store.changes) k.object)) p (knows_rest.but_it.holds.only m k h (own_is (all_of rests) (blocks_of zs) m k mine ∙ at) live (own_counts rests k x.store.marks mine (sym marks) counts))
        by i a (OfNobody place p) owned =
            absurd (none_some (blocks_of zs m k) h (large_then m k (nobody_large k.object (ap (λ (b : Owner). b.owns k.object) p ∙ owned))) at)

    marked_then : AreMarkedUpto (max store.floor (u.committed + 1)) x.store.marks
    marked_then =
        let was = r.stands.floor in
        marked_later (max x.store.floor (x.committed + 1)) (max store.floor (u.committed + 1)) x.store.marks
        (both_up (max x.store.floor (x.committed + 1)) (max store.floor (x.committed + 1)) (max store.floor (u.committed + 1)) (max_up x.store.floor store.floor (x.committed + 1) (omega (arith, was, floor_rest, floor_is)))
        (max_next store.floor (x.committed + 1) (u.committed + 1) (omega (arith, up)))) r.stands.groups.marked

    -- what is so of the uberblock, and of all metaslabs by it
    module _ (uber_is : IsUber area new.uber now) (images : HasImages now) (leaves : HasLeafNumbers now) (shared : Shared) (versions : HasPoolVersions u.kept_version u.next_version shared) (alike : AllAlike shared now) where
      pub section_represents : Represents rack area new now
      section_represents = record {
        stands = record {
          geometry = r.stands.geometry ∙ sym geometry;
          layout = r.stands.layout;
          many = zs_many ∙ (sym x_many ∙ r.stands.many);
          shards = ap length shards_are ∙ (shards_many ∙ sym zs_many);
          pieces = joined_pieces section_owners are.cover pieces;
          each = λ m shard y shard_is y_is.
              (let here = sym (ap (λ ss. slice_get ss m) shards_are) ∙ shard_is in
              metaslab_joined rack area (part_in x m) shard y (λ k. pieces (are.cover k.object).place m) (λ k. stands_at (are.cover k.object).place (slice_get section_owners (are.cover k.object).place) refl (are.cover k.object).owner (are.cover k.object).there m y y_is shard here));
          holds = holds_joined section_owners x.store.changes are x.geometry u.committed (blocks_of zs) pieces store added marks_each falls positive numbers floors_are each_holds;
          groups = record {
            committed = committed;
            next = omega (arith, next, floor_is);
            last = omega (arith, last, floor_is);
            checks = λ m y at. subst (λ ms. IsBehindChecks u.committed ms y.world.open_group) (sym marks) (behind_all rests u.committed y.world.open_group x.store.marks (knows_rest.but_it.holds.checks u.committed (bounds x.store) m y at));
            marked = subst (AreMarkedUpto (max store.floor (u.committed + 1))) (sym marks) marked_then;
          };
          objects = λ o. subst (λ ss. PointsTo ss (get nat_eq new.own.objects o) (write_of store.changes o)) (sym shards_are)
              (points_by o (are.cover o).place (are.cover o).owner (whose (are.cover o).place (are.cover o).owner (are.cover o).there) (are.cover o).owned (written o));
          seq = seq_is;
          floor = floor_is;
          uber = uber_is;
          images = images;
          leaves = leaves;
          shared = shared;
          versions = versions;
          alike = alike;
        };
        only = only_by;
      }
