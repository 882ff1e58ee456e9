-- A command that a lane carries out by holds of metaslabs alone is told from whatever the lane knew.
use Rattle.std.proofs.Common.{◌≡◌, ◌<◌, ◌≤◌, ◌∙◌, [], ℕ, Bool, true, List, Option, Some, None, All, Contains, arith, refl, sym, ap, subst, length}
use Rattle.std.specs.Prelude.{slice_get}
use Rattle.std.proofs.lemmas.List.{append-nil}
use Rattle.std.proofs.lemmas.List.Elements.{All-append, All-nil, All-weaker}
use Rattle.std.proofs.lemmas.Option.{slice_get_within}
use Rattle.draid_rack.specs.declared.Rack as racks
use Rattle.draid_area.specs.declared.Area as areas
use Rattle.draid_session.specs.Holds.{Hold}
use Rattle.draid_session.specs.Lanes.{holds_of}
use Rattle.draid_session.specs.State.{State, Store}
use Rattle.draid_turn.specs.Calls.{Caller, Lock}
use Rattle.draid_turn.specs.Lists.{Ascends, StartsWith}
use Rattle.draid_turn.specs.declared.past.Past.{Past}
use Rattle.draid_pool.specs.Pools.{part_in}
use Rattle.draid_pool.specs.Threads.{CarriesBy, Knows}
use Rattle.draid_pool.specs.declared.cell.Cell.{Cell}
use Rattle.draid_pool.proofs.Lists.{present, some_of}
use Rattle.draid_lanes.specs.Governing.{lane_last}
use Rattle.draid_lanes.specs.Lanes.{IsSameLane, table_of}
use Rattle.draid_lanes.specs.Locks.{owned_by}
use Rattle.draid_lanes.specs.Traces.{HadTurns, IsShardTurn, LaneTurn, LeadsLane, StandsAt, holds_in, places_in}
use Rattle.draid_lanes.specs.Waits.{LaneWent}
use Rattle.draid_lanes.specs.declared.lane.Lane.{Lane}
use Rattle.draid_lanes.specs.declared.uber.UberCell.{UberCell}
use Rattle.draid_lanes.proofs.Carried.{Carried, carried}
use Rattle.draid_lanes.proofs.Tracing.{PassWent, Traced, ascends_append, starts_long, starts_self}

module _ {R A G W : Type 0} (rack : racks.Ghosts R) (area : areas.Ghosts A) (x : State) (old new : Lane R A G W) (many : length old.metaslabs.passes.items ≡ length old.metaslabs.turns.now) (lane : IsSameLane old new) (pass_is : new.pass ≡ old.pass) where
  -- ---- its turns

  module _ (ts : ℕ → List LaneTurn) (hs : List Hold) (traced : Traced rack area x old.metaslabs new.metaslabs ts hs []) where
    -- what became of the pass of one metaslab
    pub record WentBy (m : ℕ) (pass : Caller (Past (Cell R A))) : Type 0 where
      pub lock : Lock (Cell R A)
      pub lock_is : slice_get old.metaslabs.turns.now m ≡ Some lock
      pub next : Caller (Past (Cell R A))
      pub next_is : slice_get new.metaslabs.passes.items m ≡ Some next
      pub went : PassWent rack area x lock m pass next (ts m)

    went_by : (m : ℕ) (pass : Caller (Past (Cell R A))) → slice_get old.metaslabs.passes.items m ≡ Some pass → WentBy m pass
    went_by m pass at =
        let within = slice_get_within old.metaslabs.passes.items m pass at in
        let lock = present old.metaslabs.turns.now m (omega (arith, within, many)) in
        let q = traced.each m pass at lock.0 lock.1 in
        record { lock = lock.0; lock_is = lock.1; next = q.0; next_is = q.1; went = q.2 }

    went_to : (m : ℕ) (pass next : Caller (Past (Cell R A))) → slice_get old.metaslabs.passes.items m ≡ Some pass → slice_get new.metaslabs.passes.items m ≡ Some next → (lock : Lock (Cell R A)) × PassWent rack area x lock m pass next (ts m)
    went_to m pass next at there =
        let q = went_by m pass at in
        (q.lock, subst (λ p. PassWent rack area x q.lock m pass p (ts m)) (some_of (slice_get new.metaslabs.passes.items m) q.next next q.next_is there) q.went)

    abbrev pub turns_of : Option ℕ → List LaneTurn
    turns_of None = []
    turns_of (Some m) = ts m

    same_at : (lock : Option ℕ) → holds_of lock hs ≡ holds_in (turns_of lock)
    same_at None = traced.of_uber
    same_at (Some m) = traced.same m

    ascends_at : (m : ℕ) (o : Option (Caller (Past (Cell R A)))) → slice_get old.metaslabs.passes.items m ≡ o → Ascends (places_in (ts m))
    ascends_at m None none = subst (λ l. Ascends (places_in l)) (sym (traced.none m none)) tt
    ascends_at m (Some pass) at = (went_by m pass at).went.ascends

    ascends_all : (lock : Option ℕ) → Ascends (places_in (turns_of lock))
    ascends_all None = tt
    ascends_all (Some m) = ascends_at m (slice_get old.metaslabs.passes.items m) refl

    none_among : (t : LaneTurn) → Contains [] t → ⊥
    none_among t among = (let less = among.1 in omega (arith, less))

    abbrev ShardTurn : ℕ → LaneTurn → Type 0
    ShardTurn m t = (lock : Lock (Cell R A)) × (pass : Caller (Past (Cell R A))) × (slice_get new.metaslabs.turns.now m ≡ Some lock) × (slice_get new.metaslabs.passes.items m ≡ Some pass) × IsShardTurn rack area x lock pass.seen m t.place t.holds

    shard_turn : (m : ℕ) (t : LaneTurn) → Contains (ts m) t → (o : Option (Caller (Past (Cell R A)))) → slice_get old.metaslabs.passes.items m ≡ o → ShardTurn m t
    shard_turn m t among None none = absurd (none_among t (subst (λ l. Contains l t) (traced.none m none) among))
    shard_turn m t among (Some pass) at = (let q = went_by m pass at in (q.lock, q.next, ap (λ ls. slice_get ls m) lane.turns ∙ q.lock_is, q.next_is, q.went.shards t among))

    pub had_holds : HadTurns rack area x old new turns_of hs
    had_holds = record {
      locks = lane.turns;
      uber_lock = lane.uber;
      many = traced.many;
      same = same_at;
      own = λ m pass next at there. (went_to m pass next at there).1.own;
      seen = λ m pass next at there. (went_to m pass next at there).1.seen;
      above = λ m pass at. (went_by m pass at).went.above;
      ascends = ascends_all;
      uber_own = ap (λ (p : Caller (Past (UberCell R A))). p.own) pass_is ∙ sym (append-nil old.pass.own);
      uber_seen = subst (λ (p : Caller (Past (UberCell R A))). StartsWith p.seen old.pass.seen) (sym pass_is) (starts_self old.pass.seen);
      uber_above = All-nil (λ place. length old.pass.seen ≤ place);
      shards = λ m t among. shard_turn m t among (slice_get old.metaslabs.passes.items m) refl;
      ubers = λ t among. absurd (none_among t among);
    }

    -- ---- what it knows then

    ordered_then : (y : State) → StandsAt rack area x old y → (m : ℕ) (pass : Caller (Past (Cell R A))) → slice_get new.metaslabs.passes.items m ≡ Some pass → Ascends pass.own × All (λ place. place < length pass.seen) pass.own
    ordered_then y stands m pass at =
        let within = slice_get_within new.metaslabs.passes.items m pass at in
        let as_many = traced.many in
        let was_at = present old.metaslabs.passes.items m (omega (arith, within, as_many)) in
        let q = (went_to m was_at.0 pass was_at.1 at).1 in
        let was = stands.ordered m was_at.0 was_at.1 in
        let long = starts_long pass.seen was_at.0.seen q.seen in (
          subst Ascends (sym q.own) (ascends_append (length was_at.0.seen) was_at.0.own (places_in (ts m)) was.0 q.ascends was.1 q.above),
          subst (All (λ place. place < length pass.seen)) (sym q.own)
              (All-append (λ place. place < length pass.seen) was_at.0.own (places_in (ts m)) (All-weaker (λ place. place < length was_at.0.seen) (λ place. place < length pass.seen) (λ place less. omega (arith, less, long)) was_at.0.own was.1) q.below),
        )

  module _ (y : State) (stands : StandsAt rack area x old y) where
    abbrev known : State → Type 0
    known z = Knows rack area (owned_by old.metaslabs.passes.items) (lane_last new.metaslabs) (table_of new) new.own.seq new.own.floor z

    stands_then : (z : State) (store : Store) (hs : List Hold) (c : Carried rack area x old.metaslabs new.metaslabs hs y z) → known (record z { store = store }) → StandsAt rack area x new (record z { store = store })
    stands_then z store hs c knows = record {
      same = ap (λ (s : State). record s { store = store }) c.same ∙ ap (λ (s : State). record s { metaslabs = z.metaslabs; store = store }) stands.same;
      many = c.many ∙ stands.many;
      each = c.seen;
      ordered = ordered_then c.turns hs c.traced y stands;
      knows = subst (λ (f : ℕ → Bool). Knows rack area f (lane_last new.metaslabs) (table_of new) new.own.seq new.own.floor (record z { store = store })) (sym lane.owns) knows;
    }

    pub carries_leads : (does : List Hold → Store → Type 0) → CarriesBy rack area (LaneWent rack area) true (owned_by old.metaslabs.passes.items) (lane_last new.metaslabs) (table_of new) new.own.seq new.own.floor old.metaslabs new.metaslabs y does
        → LeadsLane rack area x does old new
    carries_leads does e =
        let c = carried rack area x (part_in y) (λ m. ap (λ (s : State). part_in s m) stands.same) e.holds old.metaslabs new.metaslabs y e.reached (λ m. ap (λ (s : State). part_in s m) stands.same) stands.each e.follows in
        record {
          turns = turns_of c.turns e.holds c.traced;
          holds = e.holds;
          had = had_holds c.turns e.holds c.traced;
          reached = record e.reached { store = e.store };
          done = e.done;
          stands = stands_then e.reached e.store e.holds c e.knows;
        }
