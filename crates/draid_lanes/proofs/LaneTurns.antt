-- What a lane did in a turn of the uberblock, told from the state in which the section began.
use Rattle.std.proofs.Common.{◌≡◌, ◌<◌, ◌≤◌, ◌++◌, ◌∷◌, ◌∙◌, ◌⊎◌, [], ℕ, zero, suc, List, Option, Some, None, All, Contains, arith, refl, sym, ap, subst, length}
use Rattle.std.specs.Prelude.{slice_get, slice_index_or}
use Rattle.std.proofs.lemmas.List.{append-nil, append_assoc, length-append}
use Rattle.std.proofs.lemmas.List.Elements.{All-append, All-cons, All-nil, All-weaker}
use Rattle.std.proofs.lemmas.Option.{slice_get_within}
use Rattle.draid_rack.specs.declared.Rack as racks
use Rattle.draid_area.specs.declared.Area as areas
use Rattle.draid_session.specs.Holds.{Hold}
use Rattle.draid_session.specs.Lanes.{holds_of}
use Rattle.draid_session.specs.State.{Metaslab, State, Store}
use Rattle.draid_shard.specs.Part.{layout_in}
use Rattle.draid_turn.specs.Calls.{Caller, Lock}
use Rattle.draid_turn.specs.Lists.{Ascends, StartsWith}
use Rattle.draid_turn.specs.declared.past.Past.{Past}
use Rattle.draid_uber.specs.declared.uber.Uber.{Uber}
use Rattle.draid_pool.specs.Drifts.{Since}
use Rattle.draid_pool.specs.Metaslabs.{IsMetaslab}
use Rattle.draid_pool.specs.Pools.{part_in}
use Rattle.draid_pool.specs.declared.cell.Cell.{Cell}
use Rattle.draid_pool.proofs.Lists.{present, some_of}
use Rattle.draid_lanes.specs.Governing.{GovernedIn, lane_last}
use Rattle.draid_lanes.specs.Knowing.{KnowsLater}
use Rattle.draid_lanes.specs.Lanes.{table_of}
use Rattle.draid_lanes.specs.Locks.{last_of, left_in, owned_by}
use Rattle.draid_lanes.specs.Traces.{CameAt, HadTurns, IsShardTurn, IsUberTurn, LaneTurn, LeadsLane, StandsAt, holds_in, places_in}
use Rattle.draid_lanes.specs.Ubers.{IsLane}
use Rattle.draid_lanes.specs.declared.lane.Lane.{Lane}
use Rattle.draid_lanes.specs.declared.locked.Locked.{Locked}
use Rattle.draid_lanes.specs.declared.uber.UberCell.{UberCell}
use Rattle.draid_lanes.proofs.OneTurn.{came_at, came_on, came_to}
use Rattle.draid_lanes.proofs.Tracing.{EndsAt, PassWent, Traced, ascends_append, starts_long}

module _ {R A G W O : Type 0} (rack : racks.Ghosts R) (area : areas.Ghosts A) (x : State) (relates : O → Locked R A G W → Uber A → O → Locked R A G W → Uber A → Type 0) (old new : Lane R A G W) (before after : O)
    (lane : IsLane rack old.metaslabs.turns.now old.metaslabs.passes.items) (did : GovernedIn rack area relates old.uber.now old.metaslabs before new.metaslabs after old.pass new.pass) (lane_new : IsLane rack new.metaslabs.turns.now new.metaslabs.passes.items) (turns_new : new.metaslabs.turns.now ≡ old.metaslabs.turns.now)
    (uber_new : new.uber.now ≡ old.uber.now)
    (ts : ℕ → List LaneTurn) (hs us : List Hold) (traced : Traced rack area x old.metaslabs did.related.after ts hs us) (turn : IsUberTurn rack area x old.uber.now new.pass.seen (length did.log) us) where
  abbrev locks : List (Lock (Cell R A))
  locks = old.metaslabs.turns.now

  -- ---- the pass of one metaslab

  -- what became of one
  record WentBy (m : ℕ) (pass : Caller (Past (Cell R A))) : Type 0 where
    pub lock : Lock (Cell R A)
    pub lock_is : slice_get locks m ≡ Some lock
    pub next : Caller (Past (Cell R A))
    pub next_is : slice_get new.metaslabs.passes.items m ≡ Some next
    pub went : PassWent rack area x lock m pass next (ts m)

  went_by : (m : ℕ) (pass : Caller (Past (Cell R A))) → slice_get old.metaslabs.passes.items m ≡ Some pass → WentBy m pass
  went_by m pass at =
      let within = slice_get_within old.metaslabs.passes.items m pass at in
      let many = lane.fits.many in
      let less : m < length locks = omega (arith, within, many) in
      let lock = present locks m less in
      let q = traced.each m pass at lock.0 lock.1 in
      let p = did.related.parts.each m q.0 less q.1 in
      let same = p.4.same in
      record {
        lock = lock.0;
        lock_is = lock.1;
        next = p.0;
        next_is = p.2;
        went = record {
          own = same.2 ∙ q.2.own;
          seen = subst (λ seen. StartsWith seen pass.seen) (sym same.1) q.2.seen;
          above = q.2.above;
          below = subst (λ seen. All (λ place. place < length seen) (places_in (ts m))) (sym same.1) q.2.below;
          ascends = q.2.ascends;
          ends = subst (λ seen. ((ts m ≡ []) × (seen ≡ pass.seen)) ⊎ EndsAt rack area x seen (ts m)) (sym same.1) q.2.ends;
          shards = λ t among. subst (λ seen. IsShardTurn rack area x lock.0 seen m t.place t.holds) (sym same.1) (q.2.shards t among);
        };
      }

  went_to : (m : ℕ) (pass next : Caller (Past (Cell R A))) → slice_get old.metaslabs.passes.items m ≡ Some pass → slice_get new.metaslabs.passes.items m ≡ Some next → (lock : Lock (Cell R A)) × (slice_get locks m ≡ Some lock) × PassWent rack area x lock m pass next (ts m)
  went_to m pass next at there =
      let w = went_by m pass at in
      (w.lock, w.lock_is, subst (λ p. PassWent rack area x w.lock m pass p (ts m)) (some_of (slice_get new.metaslabs.passes.items m) w.next next w.next_is there) w.went)

  -- ---- its turns

  abbrev pub one_turn : LaneTurn
  one_turn = record { place = length did.log; holds = us }

  abbrev pub turns_of : Option ℕ → List LaneTurn
  turns_of None = one_turn ∷ []
  turns_of (Some m) = ts m

  same_at : (lock : Option ℕ) → holds_of lock hs ≡ holds_in (turns_of lock)
  same_at None = traced.of_uber ∙ sym (append-nil us)
  same_at (Some m) = traced.same m

  ascends_at : (m : ℕ) (o : Option (Caller (Past (Cell R A)))) → slice_get old.metaslabs.passes.items m ≡ o → Ascends (places_in (ts m))
  ascends_at m None none = subst (λ l. Ascends (places_in l)) (sym (traced.none m none)) tt
  ascends_at m (Some pass) at = (went_by m pass at).went.ascends

  ascends_all : (lock : Option ℕ) → Ascends (places_in (turns_of lock))
  ascends_all None = (tt, tt)
  ascends_all (Some m) = ascends_at m (slice_get old.metaslabs.passes.items m) refl

  none_among : (t : LaneTurn) → Contains [] t → ⊥
  none_among t among = (let less = among.1 in omega (arith, less))

  one_among : (t : LaneTurn) → Contains (one_turn ∷ []) t → one_turn ≡ t
  one_among t among = by among.0 among.1 among.2
    where
      by : (k : ℕ) → k < 1 → slice_index_or (one_turn ∷ []) k t ≡ t → one_turn ≡ t
      by zero less is = is
      by (suc k) less is = absurd (omega (arith, less))

  abbrev ShardTurn : ℕ → LaneTurn → Type 0
  ShardTurn m t = (lock : Lock (Cell R A)) × (pass : Caller (Past (Cell R A))) × (slice_get new.metaslabs.turns.now m ≡ Some lock) × (slice_get new.metaslabs.passes.items m ≡ Some pass) × IsShardTurn rack area x lock pass.seen m t.place t.holds

  shard_turn : (m : ℕ) (t : LaneTurn) → Contains (ts m) t → (o : Option (Caller (Past (Cell R A)))) → slice_get old.metaslabs.passes.items m ≡ o → ShardTurn m t
  shard_turn m t among None none = absurd (none_among t (subst (λ l. Contains l t) (traced.none m none) among))
  shard_turn m t among (Some pass) at = (let w = went_by m pass at in (w.lock, w.next, ap (λ ls. slice_get ls m) turns_new ∙ w.lock_is, w.next_is, w.went.shards t among))

  pub had_turns : HadTurns rack area x old new turns_of hs
  had_turns = record {
    locks = turns_new;
    uber_lock = uber_new;
    many = did.related.parts.many ∙ traced.many;
    same = same_at;
    own = λ m pass next at there. (went_to m pass next at there).2.own;
    seen = λ m pass next at there. (went_to m pass next at there).2.seen;
    above = λ m pass at. (went_by m pass at).went.above;
    ascends = ascends_all;
    uber_own = did.own;
    uber_seen = (did.follows.unseen ++ record { left = did.left; concerned = None } ∷ [], did.seen ∙ (ap (λ l. l ++ record { left = did.left; concerned = None } ∷ []) did.follows.begins ∙ append_assoc old.pass.seen did.follows.unseen (record { left = did.left; concerned = None } ∷ [])));
    uber_above = All-cons (λ place. length old.pass.seen ≤ place) (length did.log) [] (let all = ap length did.follows.begins ∙ length-append old.pass.seen did.follows.unseen in omega (arith, all)) (All-nil (λ place. length old.pass.seen ≤ place));
    shards = λ m t among. shard_turn m t among (slice_get old.metaslabs.passes.items m) refl;
    ubers = λ t among. subst (λ (u : LaneTurn). IsUberTurn rack area x new.uber.now new.pass.seen u.place u.holds) (one_among t among) (subst (λ (l : Lock (UberCell R A)). IsUberTurn rack area x l new.pass.seen (length did.log) us) (sym uber_new) turn);
  }

  -- ---- what it knows then

  module _ (y : State) (stands : StandsAt rack area x old y) (later : KnowsLater rack area (owned_by new.metaslabs.passes.items) (lane_last new.metaslabs) (table_of new) new.own.seq new.own.floor y) where
    part_same : (m : ℕ) → part_in later.reached m ≡ part_in x m
    part_same m = ap (λ (s : State). part_in s m) (later.same ∙ ap (λ (s : State). record s { metaslabs = later.reached.metaslabs }) stands.same)

    part_then : (m : ℕ) → part_in y m ≡ part_in x m
    part_then m = ap (λ (s : State). part_in s m) stands.same

    each_at : (m : ℕ) (lock : Lock (Cell R A)) (pass : Caller (Past (Cell R A))) → slice_get new.metaslabs.turns.now m ≡ Some lock → slice_get new.metaslabs.passes.items m ≡ Some pass → (z : Metaslab) × (slice_get later.reached.metaslabs m ≡ Some z) × CameAt rack area x lock pass.seen m z
    each_at m lock pass there at =
        let within = slice_get_within new.metaslabs.passes.items m pass at in
        let many = did.related.parts.many ∙ traced.many in
        let own = present old.metaslabs.passes.items m (omega (arith, within, many)) in
        let was_there = sym (ap (λ ls. slice_get ls m) turns_new) ∙ there in
        let was = stands.each m lock own.0 was_there own.1 in
        let since = later.since m was.0 was.1 in
        let now = later.knows.but_it.each m (left_in lock pass.seen) (λ i. last_of (there i) (at i)) in
        let same : now.0 ≡ since.0 = some_of (slice_get later.reached.metaslabs m) now.0 since.0 now.1 since.1 in
        let is = subst (λ v. IsMetaslab rack area (part_in later.reached m) (later.knows.pieces m) (left_in lock pass.seen) v) same now.2 in (
          since.0,
          since.1,
          came_at rack area x lock pass.seen m (left_in lock pass.seen) since.0 refl
              (came_on rack area x m (left_in lock own.0.seen) (left_in lock pass.seen) was.0 since.0 (later.knows.pieces m) (came_to rack area x lock own.0.seen m was.0 was.2)
              (subst (λ p. IsMetaslab rack area p (later.knows.pieces m) (left_in lock pass.seen) since.0) (part_same m) is) (subst (λ p. Since (layout_in p) was.0 since.0) (part_then m) since.2)),
        )

    ordered_at : (m : ℕ) (pass : Caller (Past (Cell R A))) → slice_get new.metaslabs.passes.items m ≡ Some pass → Ascends pass.own × All (λ place. place < length pass.seen) pass.own
    ordered_at m pass at =
        let within = slice_get_within new.metaslabs.passes.items m pass at in
        let many = did.related.parts.many ∙ traced.many in
        let own = present old.metaslabs.passes.items m (omega (arith, within, many)) in
        let w = (went_to m own.0 pass own.1 at).2 in
        let was = stands.ordered m own.0 own.1 in
        let long = starts_long pass.seen own.0.seen w.seen in (
          subst Ascends (sym w.own) (ascends_append (length own.0.seen) own.0.own (places_in (ts m)) was.0 w.ascends was.1 w.above),
          subst (All (λ place. place < length pass.seen)) (sym w.own)
              (All-append (λ place. place < length pass.seen) own.0.own (places_in (ts m)) (All-weaker (λ place. place < length own.0.seen) (λ place. place < length pass.seen) (λ place less. omega (arith, less, long)) own.0.own was.1) w.below),
        )

    pub stands_then : StandsAt rack area x new later.reached
    stands_then = record {
      same = later.same ∙ ap (λ (s : State). record s { metaslabs = later.reached.metaslabs }) stands.same ∙ ap (λ (s : Store). record x { metaslabs = later.reached.metaslabs; store = s }) (sym store_is);
      many = later.many ∙ stands.many;
      each = each_at;
      ordered = ordered_at;
      knows = later.knows;
    }
      where
        store_is : later.reached.store ≡ y.store
        store_is = ap (λ (s : State). s.store) later.same

    -- so all of it is told, by what is said of the holds
    pub leads_lane : (says : List Hold → Type 0) → says hs → LeadsLane rack area x (λ holds store. says holds × (store ≡ y.store)) old new
    leads_lane says so = record { turns = turns_of; holds = hs; had = had_turns; reached = later.reached; done = (so, ap (λ (s : State). s.store) later.same); stands = stands_then }
