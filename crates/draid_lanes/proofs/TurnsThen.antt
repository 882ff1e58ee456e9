-- What a lane did and then did, told as one.
use Rattle.std.proofs.Common.{◌≡◌, ◌<◌, ◌≤◌, ◌++◌, ◌∷◌, ◌∙◌, [], inl, inr, ℕ, zero, suc, List, Option, Some, None, All, Contains, arith, refl, sym, ap, subst, length}
use Rattle.std.specs.Prelude.{slice_get}
use Rattle.std.proofs.lemmas.Grind.{flat_map-append}
use Rattle.std.proofs.lemmas.List.{append-nil, append_assoc, length-append, map-append}
use Rattle.std.proofs.lemmas.List.Elements.{All-append, All-cons, All-nil, All-weaker, Contains-append_cases, filter-append}
use Rattle.std.proofs.lemmas.Option.{slice_get_within}
use Rattle.draid_rack.specs.declared.Rack as racks
use Rattle.draid_area.specs.declared.Area as areas
use Rattle.draid_machine.proofs.Small.{none_some}
use Rattle.draid_session.specs.Holds.{Hold}
use Rattle.draid_session.specs.Lanes.{holds_of, is_of}
use Rattle.draid_session.specs.State.{State, Store}
use Rattle.draid_turn.specs.Calls.{Caller, Lock}
use Rattle.draid_turn.specs.Lists.{Ascends, StartsWith}
use Rattle.draid_turn.specs.declared.past.Past.{Past}
use Rattle.draid_pool.specs.declared.cell.Cell.{Cell}
use Rattle.draid_pool.proofs.Lists.{present, some_of}
use Rattle.draid_lanes.specs.Traces.{HadTurns, IsShardTurn, IsUberTurn, LaneTurn, LeadsLane, SawBytes, StandsAt, holds_in, places_in}
use Rattle.draid_lanes.specs.declared.lane.Lane.{Lane}
use Rattle.draid_lanes.specs.declared.uber.UberCell.{UberCell}
use Rattle.draid_lanes.proofs.Tracing.{ascends_append, starts_long, starts_self, starts_then, turn_later}

-- one of the turns of a list is so
all_places : (P : ℕ → Type 0) (ts : List LaneTurn) → ((t : LaneTurn) → Contains ts t → P t.place) → All P (places_in ts)
all_places P [] each = All-nil P
all_places P (t ∷ ts) each = All-cons P t.place (places_in ts) (each t (zero, (omega arith), refl)) (all_places P ts (λ u among. each u (suc among.0, (let less = among.1 in omega (arith, less)), among.2)))

no_places : (ts : List LaneTurn) → ((t : LaneTurn) → Contains ts t → ⊥) → ts ≡ []
no_places [] none = refl
no_places (t ∷ ts) none = absurd (none t (zero, (omega arith), refl))

nothing_in : (t : LaneTurn) → Contains [] t → ⊥
nothing_in t among = (let less = among.1 in omega (arith, less))

places_append : (ts us : List LaneTurn) → places_in (ts ++ us) ≡ places_in ts ++ places_in us
places_append ts us = map-append (λ (turn : LaneTurn). turn.place) ts us

begun_below : {E : Type 0} (seen log : List E) (last : E) → StartsWith seen (log ++ last ∷ []) → length log < length seen
begun_below seen log last s = (let long = starts_long seen (log ++ last ∷ []) s in let more = length-append log (last ∷ []) in omega (arith, long, more))

-- a turn of the uberblock that was seen is seen by who saw more
uber_later : {R A : Type 0} (rack : racks.Ghosts R) (area : areas.Ghosts A) (x : State) (lock : Lock (UberCell R A)) (seen more : List (Past (UberCell R A))) (place : ℕ) (holds : List Hold) → StartsWith more seen → IsUberTurn rack area x lock seen place holds
    → IsUberTurn rack area x lock more place holds
uber_later rack area x lock seen more place holds later t = record { log = t.log; left = t.left; place_is = t.place_is; begins = starts_then (t.log ++ t.left ∷ []) seen more t.begins later; of_uber = t.of_uber; goes = t.goes }

module _ {R A G W : Type 0} (rack : racks.Ghosts R) (area : areas.Ghosts A) (x : State) where
  -- ---- nothing

  had_none : (lane : Lane R A G W) → HadTurns rack area x lane lane (λ lock. []) []
  had_none lane = record {
    locks = refl;
    uber_lock = refl;
    many = refl;
    same = λ lock. refl;
    own = λ m pass next at there. ap (λ (p : Caller (Past (Cell R A))). p.own) (some_of (slice_get lane.metaslabs.passes.items m) next pass there at) ∙ sym (append-nil pass.own);
    seen = λ m pass next at there. subst (λ (p : Caller (Past (Cell R A))). StartsWith p.seen pass.seen) (some_of (slice_get lane.metaslabs.passes.items m) pass next at there) (starts_self pass.seen);
    above = λ m pass at. All-nil (λ place. length pass.seen ≤ place);
    ascends = λ lock. tt;
    uber_own = sym (append-nil lane.pass.own);
    uber_seen = starts_self lane.pass.seen;
    uber_above = All-nil (λ place. length lane.pass.seen ≤ place);
    shards = λ m t among. absurd (nothing_in t among);
    ubers = λ t among. absurd (nothing_in t among);
  }

  pub leads_none : (lane : Lane R A G W) (says : List Hold → Store → Type 0) (y : State) → StandsAt rack area x lane y → says [] y.store → LeadsLane rack area x says lane lane
  leads_none lane says y stands so = record { turns = λ lock. []; holds = []; had = had_none lane; reached = y; done = so; stands = stands }

  -- ---- one behind another

  module _ (old mid new : Lane R A G W) (ts us : Option ℕ → List LaneTurn) (hs ks : List Hold) (one : HadTurns rack area x old mid ts hs) (two : HadTurns rack area x mid new us ks) where
    -- the pass of one metaslab on the way
    record Met (m : ℕ) : Type 0 where
      pub pass : Caller (Past (Cell R A))
      pub there : slice_get mid.metaslabs.passes.items m ≡ Some pass

    from_old : (m : ℕ) (pass : Caller (Past (Cell R A))) → slice_get old.metaslabs.passes.items m ≡ Some pass → Met m
    from_old m pass at =
        let within = slice_get_within old.metaslabs.passes.items m pass at in
        let as_many = one.many in
        let p = present mid.metaslabs.passes.items m (omega (arith, within, as_many)) in
        record { pass = p.0; there = p.1 }

    -- the places of the first are below what was seen then
    below_met : (m : ℕ) (p : Met m) → All (λ place. place < length p.pass.seen) (places_in (ts (Some m)))
    below_met m p = all_places (λ place. place < length p.pass.seen) (ts (Some m))
        (λ t among.
        let s = one.shards m t among in
        let turn = subst (λ (q : Caller (Past (Cell R A))). IsShardTurn rack area x s.0 q.seen m t.place t.holds) (some_of (slice_get mid.metaslabs.passes.items m) s.1 p.pass s.3 p.there) s.4 in
        subst (λ n. n < length p.pass.seen) (sym turn.place_is) (begun_below p.pass.seen turn.log turn.left turn.begins))

    below_uber : All (λ place. place < length mid.pass.seen) (places_in (ts None))
    below_uber = all_places (λ place. place < length mid.pass.seen) (ts None)
        (λ t among. (let turn = one.ubers t among in subst (λ n. n < length mid.pass.seen) (sym turn.place_is) (begun_below mid.pass.seen turn.log turn.left turn.begins)))

    abbrev pub both_turns : Option ℕ → List LaneTurn
    both_turns lock = ts lock ++ us lock

    same_both : (lock : Option ℕ) → holds_of lock (hs ++ ks) ≡ holds_in (both_turns lock)
    same_both lock = filter-append (is_of lock) hs ks ∙ ((λ i. one.same lock i ++ two.same lock i) ∙ sym (flat_map-append (λ (turn : LaneTurn). turn.holds) (ts lock) (us lock)))

    own_both : (m : ℕ) (pass next : Caller (Past (Cell R A))) → slice_get old.metaslabs.passes.items m ≡ Some pass → slice_get new.metaslabs.passes.items m ≡ Some next → next.own ≡ pass.own ++ places_in (both_turns (Some m))
    own_both m pass next at there =
        let p = from_old m pass at in
        two.own m p.pass next p.there there
        ∙ (ap (λ l. l ++ places_in (us (Some m))) (one.own m pass p.pass at p.there)
        ∙ (append_assoc pass.own (places_in (ts (Some m))) (places_in (us (Some m))) ∙ ap (λ l. pass.own ++ l) (sym (places_append (ts (Some m)) (us (Some m))))))

    seen_both : (m : ℕ) (pass next : Caller (Past (Cell R A))) → slice_get old.metaslabs.passes.items m ≡ Some pass → slice_get new.metaslabs.passes.items m ≡ Some next → StartsWith next.seen pass.seen
    seen_both m pass next at there = (let p = from_old m pass at in starts_then pass.seen p.pass.seen next.seen (one.seen m pass p.pass at p.there) (two.seen m p.pass next p.there there))

    -- places above what was seen on the way are above what was seen at first
    raised : (short long : ℕ) (places : List ℕ) → short ≤ long → All (λ place. long ≤ place) places → All (λ place. short ≤ place) places
    raised short long places less all = All-weaker (λ place. long ≤ place) (λ place. short ≤ place) (λ place from. omega (arith, from, less)) places all

    above_both : (m : ℕ) (pass : Caller (Past (Cell R A))) → slice_get old.metaslabs.passes.items m ≡ Some pass → All (λ place. length pass.seen ≤ place) (places_in (both_turns (Some m)))
    above_both m pass at =
        let p = from_old m pass at in
        subst (All (λ place. length pass.seen ≤ place)) (sym (places_append (ts (Some m)) (us (Some m))))
        (All-append (λ place. length pass.seen ≤ place) (places_in (ts (Some m))) (places_in (us (Some m))) (one.above m pass at)
        (raised (length pass.seen) (length p.pass.seen) (places_in (us (Some m))) (starts_long p.pass.seen pass.seen (one.seen m pass p.pass at p.there)) (two.above m p.pass p.there)))

    join_ascends : (lock : Option ℕ) (n : ℕ) → All (λ place. place < n) (places_in (ts lock)) → All (λ place. n ≤ place) (places_in (us lock)) → Ascends (places_in (both_turns lock))
    join_ascends lock n low high = subst Ascends (sym (places_append (ts lock) (us lock))) (ascends_append n (places_in (ts lock)) (places_in (us lock)) (one.ascends lock) (two.ascends lock) low high)

    ascends_at : (m : ℕ) (o : Option (Caller (Past (Cell R A)))) → slice_get mid.metaslabs.passes.items m ≡ o → Ascends (places_in (both_turns (Some m)))
    ascends_at m None none =
        let empty : ts (Some m) ≡ [] = no_places (ts (Some m)) (λ t among. (let s = one.shards m t among in none_some (slice_get mid.metaslabs.passes.items m) s.1 none s.3)) in
        subst (λ l. Ascends (places_in (l ++ us (Some m)))) (sym empty) (two.ascends (Some m))
    ascends_at m (Some pass) at = join_ascends (Some m) (length pass.seen) (below_met m (record { pass = pass; there = at })) (two.above m pass at)

    ascends_both : (lock : Option ℕ) → Ascends (places_in (both_turns lock))
    ascends_both None = join_ascends None (length mid.pass.seen) below_uber two.uber_above
    ascends_both (Some m) = ascends_at m (slice_get mid.metaslabs.passes.items m) refl

    abbrev ShardTurn : ℕ → LaneTurn → Type 0
    ShardTurn m t = (lock : Lock (Cell R A)) × (pass : Caller (Past (Cell R A))) × (slice_get new.metaslabs.turns.now m ≡ Some lock) × (slice_get new.metaslabs.passes.items m ≡ Some pass) × IsShardTurn rack area x lock pass.seen m t.place t.holds

    shard_first : (m : ℕ) (t : LaneTurn) → Contains (ts (Some m)) t → ShardTurn m t
    shard_first m t among =
        let s = one.shards m t among in
        let within = slice_get_within mid.metaslabs.passes.items m s.1 s.3 in
        let as_many = two.many in
        let p = present new.metaslabs.passes.items m (omega (arith, within, as_many)) in
        (s.0, p.0, ap (λ ls. slice_get ls m) two.locks ∙ s.2, p.1, turn_later rack area x s.0 s.1.seen p.0.seen m t.place t.holds (two.seen m s.1 p.0 s.3 p.1) s.4)

    shard_both : (m : ℕ) (t : LaneTurn) → Contains (both_turns (Some m)) t → ShardTurn m t
    shard_both m t among = elim (Contains-append_cases (ts (Some m)) (us (Some m)) t among) [ inl in_it ↦ shard_first m t in_it | inr in_it ↦ two.shards m t in_it ]

    abbrev UberTurn : LaneTurn → Type 0
    UberTurn t = IsUberTurn rack area x new.uber.now new.pass.seen t.place t.holds

    uber_first : (t : LaneTurn) → Contains (ts None) t → UberTurn t
    uber_first t among = subst (λ (l : Lock (UberCell R A)). IsUberTurn rack area x l new.pass.seen t.place t.holds) (sym two.uber_lock) (uber_later rack area x mid.uber.now mid.pass.seen new.pass.seen t.place t.holds two.uber_seen (one.ubers t among))

    uber_both : (t : LaneTurn) → Contains (both_turns None) t → UberTurn t
    uber_both t among = elim (Contains-append_cases (ts None) (us None) t among) [ inl in_it ↦ uber_first t in_it | inr in_it ↦ two.ubers t in_it ]

    pub had_then : HadTurns rack area x old new both_turns (hs ++ ks)
    had_then = record {
      locks = two.locks ∙ one.locks;
      uber_lock = two.uber_lock ∙ one.uber_lock;
      many = two.many ∙ one.many;
      same = same_both;
      own = own_both;
      seen = seen_both;
      above = above_both;
      ascends = ascends_both;
      uber_own = two.uber_own ∙ (ap (λ l. l ++ places_in (us None)) one.uber_own ∙ (append_assoc old.pass.own (places_in (ts None)) (places_in (us None)) ∙ ap (λ l. old.pass.own ++ l) (sym (places_append (ts None) (us None)))));
      uber_seen = starts_then old.pass.seen mid.pass.seen new.pass.seen one.uber_seen two.uber_seen;
      uber_above = subst (All (λ place. length old.pass.seen ≤ place)) (sym (places_append (ts None) (us None)))
          (All-append (λ place. length old.pass.seen ≤ place) (places_in (ts None)) (places_in (us None)) one.uber_above
          (raised (length old.pass.seen) (length mid.pass.seen) (places_in (us None)) (starts_long mid.pass.seen old.pass.seen one.uber_seen) two.uber_above));
      shards = shard_both;
      ubers = uber_both;
    }

  -- what a lane saw in the end it saw then too, as far as it saw
  pub saw_before : (mid new : Lane R A G W) (us : Option ℕ → List LaneTurn) (ks : List Hold) → HadTurns rack area x mid new us ks → SawBytes rack area x new → SawBytes rack area x mid
  saw_before mid new us ks had saw m lock pass there at log y begins came =
      let within = slice_get_within mid.metaslabs.passes.items m pass at in
      let as_many = had.many in
      let p = present new.metaslabs.passes.items m (omega (arith, within, as_many)) in
      saw m lock p.0 (ap (λ ls. slice_get ls m) had.locks ∙ there) p.1 log y (starts_then log pass.seen p.0.seen begins (had.seen m pass p.0 at p.1)) came

  -- ---- what is said of both

  module _ (old mid new : Lane R A G W) (first : List Hold → Store → Type 0) (one : LeadsLane rack area x first old mid) (next : List Hold → Store → Type 0) (two : LeadsLane rack area x next mid new) where
    pub leads_then : (says : List Hold → Store → Type 0) → says (one.holds ++ two.holds) two.reached.store → LeadsLane rack area x says old new
    leads_then says so = record {
      turns = both_turns old mid new one.turns two.turns one.holds two.holds one.had two.had;
      holds = one.holds ++ two.holds;
      had = had_then old mid new one.turns two.turns one.holds two.holds one.had two.had;
      reached = two.reached;
      done = so;
      stands = two.stands;
    }

  -- what is said otherwise
  pub leads_as : (old new : Lane R A G W) (first says : List Hold → Store → Type 0) → ((holds : List Hold) (store : Store) → first holds store → says holds store) → LeadsLane rack area x first old new → LeadsLane rack area x says old new
  leads_as old new first says so l = record { turns = l.turns; holds = l.holds; had = l.had; reached = l.reached; done = so l.holds l.reached.store l.done; stands = l.stands }
