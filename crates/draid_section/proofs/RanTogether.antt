-- Lanes that ran: what they did comes together, lock by lock.
use Rattle.std.proofs.Common.{◌≡◌, ◌∙◌, ◌++◌, ◌∷◌, ◌+◌, ◌<◌, arith, ℕ, zero, suc, List, [], Option, Some, None, All, Contains, ap, sym, subst, refl, map, length}
use Rattle.std.specs.Prelude.{slice_get}
use Rattle.std.specs.declared.vec.Vec.{Vec}
use Rattle.std.specs.declared.alloc.Global.{Global}
use Rattle.std.proofs.lemmas.List.Elements.{All-head, All-tail}
use Rattle.std.proofs.lemmas.List.Sums.{sum_by-cons}
use Rattle.draid_rack.specs.declared.Rack as racks
use Rattle.draid_area.specs.declared.Area as areas
use Rattle.draid_turn.specs.Calls.{Caller, Lock}
use Rattle.draid_turn.specs.Lists.{Ascends, StartsWith, one_within, times}
use Rattle.draid_turn.specs.declared.past.Past.{Past}
use Rattle.draid_holds.specs.Passes.{ClosesEach, makers}
use Rattle.draid_session.specs.Holds.{Hold}
use Rattle.draid_session.specs.Lanes.{holds_of}
use Rattle.draid_session.specs.State.{Metaslab, State, Store}
use Rattle.draid_objects.specs.Changes.{Change}
use Rattle.draid_pool.specs.declared.cell.Cell.{Cell}
use Rattle.draid_pool.proofs.Lists.{present, some_of}
use Rattle.draid_lanes.specs.Locks.{Step}
use Rattle.draid_lanes.specs.Traces.{CameAt, HadBytes, HadTurns, IsGoverned, IsShardTurn, IsUberTurn, LaneTurn, StandsAt, holds_in, places_in}
use Rattle.draid_lanes.specs.declared.lane.Lane.{Lane}
use Rattle.draid_lanes.specs.declared.uber.UberCell.{UberCell}
use Rattle.draid_section.specs.Opening.{passes_at, with_pass}
use Rattle.draid_section.specs.Turning.{UberHold}
use Rattle.draid_section.proofs.LockTurns.{all_times}
use Rattle.draid_section.proofs.ShardTurns.{BytesAt, ShardTogether, shard_bytes, shard_together}
use Rattle.draid_section.proofs.UberTurns.{UberTogether, uber_together}

-- what a lane did: its holds, its turns of each lock, what it has of its own in the end, and what befell its objects
pub record Trace : Type 0 where
  pub holds : List Hold
  pub turns : Option ℕ → List LaneTurn
  pub store : Store
  pub since : List Change

abbrev pub holds_all : List Trace → List (List Hold)
holds_all traces = map (λ (trace : Trace). trace.holds) traces

abbrev pub turns_all : Option ℕ → List Trace → List (List LaneTurn)
turns_all lock traces = map (λ (trace : Trace). trace.turns lock) traces

-- ---- lists

append_assoc : {E : Type 0} (xs ys zs : List E) → (xs ++ ys) ++ zs ≡ xs ++ (ys ++ zs)
append_assoc [] ys zs = refl
append_assoc (x ∷ xs) ys zs = ap (λ l. x ∷ l) (append_assoc xs ys zs)

-- what begins with a front begins with what that begins with
pub starts_then : {E : Type 0} (a b c : List E) → StartsWith a b → StartsWith b c → StartsWith a c
starts_then a b c (p, is) (q, it) = (q ++ p, is ∙ (ap (λ l. l ++ p) it ∙ append_assoc c q p))

get_within : {E : Type 0} (xs : List E) (k : ℕ) (x : E) → slice_get xs k ≡ Some x → k < length xs
get_within [] k x is = absurd (cc)
get_within (y ∷ xs) zero x is = omega arith
get_within (y ∷ xs) (suc k) x is = (let less = get_within xs k x is in omega (arith, less))

-- ---- lanes

module _ {R A : Type 0} (G W : Type 0) (rack : racks.Ghosts R) (area : areas.Ghosts A) (x : State) (locks : List (Lock (Cell R A))) (uber : Lock (UberCell R A)) where
  -- A lane ran, from passes that had seen and done nothing: it had these turns, and knows a state in the end.
  pub record RanLane (trace : Trace) (passes : Vec (Caller (Past (Cell R A))) Global) (pass : Caller (Past (UberCell R A))) : Type 0 where
    pub old : Lane R A G W
    pub new : Lane R A G W
    pub locks_are : old.metaslabs.turns.now ≡ locks
    pub uber_is : old.uber.now ≡ uber
    pub many : length old.metaslabs.passes.items ≡ length locks
    pub fresh : (m : ℕ) (first : Caller (Past (Cell R A))) → slice_get old.metaslabs.passes.items m ≡ Some first → (first.seen ≡ []) × (first.own ≡ [])
    pub uber_fresh : (old.pass.seen ≡ []) × (old.pass.own ≡ [])
    pub passes_are : new.metaslabs.passes ≡ passes
    pub pass_is : new.pass ≡ pass
    pub had : HadTurns rack area x old new trace.turns trace.holds
    pub reached : State
    pub stands : StandsAt rack area x new reached
    pub store_is : reached.store ≡ trace.store

  -- so did each
  pub record RanLanes (traces : List Trace) (lanes : List (Vec (Caller (Past (Cell R A))) Global)) (passes : List (Caller (Past (UberCell R A)))) : Type 0 where
    pub many : length lanes ≡ length traces
    pub many_ubers : length passes ≡ length traces
    pub each : (i : ℕ) (trace : Trace) (lane : Vec (Caller (Past (Cell R A))) Global) (pass : Caller (Past (UberCell R A))) → slice_get traces i ≡ Some trace → slice_get lanes i ≡ Some lane → slice_get passes i ≡ Some pass → RanLane trace lane pass

  -- ---- one lane

  module _ (trace : Trace) (passes : Vec (Caller (Past (Cell R A))) Global) (pass : Caller (Past (UberCell R A))) (r : RanLane trace passes pass) where
    -- what a pass did is all that the lane did there
    own_at : (m : ℕ) (next : Caller (Past (Cell R A))) → m < length locks → slice_get passes.items m ≡ Some next → next.own ≡ places_in (trace.turns (Some m))
    own_at m next inside at =
        let first = present r.old.metaslabs.passes.items m (let many = r.many in omega (arith, inside, many)) in
        r.had.own m first.0 next first.1 (ap (λ (v : Vec (Caller (Past (Cell R A))) Global). slice_get v.items m) r.passes_are ∙ at) ∙ ap (λ l. l ++ places_in (trace.turns (Some m))) (r.fresh m first.0 first.1).1

    uber_own : pass.own ≡ places_in (trace.turns None)
    uber_own = sym (ap (λ (p : Caller (Past (UberCell R A))). p.own) r.pass_is) ∙ (r.had.uber_own ∙ ap (λ l. l ++ places_in (trace.turns None)) r.uber_fresh.1)

    has_pass : (m : ℕ) → m < length locks → (next : Caller (Past (Cell R A))) × (slice_get passes.items m ≡ Some next)
    has_pass m inside =
        let same = ap (λ (v : Vec (Caller (Past (Cell R A))) Global). length v.items) r.passes_are in
        let kept = r.had.many in
        let many = r.many in
        present passes.items m (omega (arith, inside, same, kept, many))

    -- each of its turns of a metaslab's lock, where all of its pass is in a history
    shard_turn : (m : ℕ) (lock : Lock (Cell R A)) (log : List (Past (Cell R A))) → slice_get locks m ≡ Some lock → ((next : Caller (Past (Cell R A))) → slice_get passes.items m ≡ Some next → StartsWith log next.seen)
        → (turn : LaneTurn) → Contains (trace.turns (Some m)) turn → IsShardTurn rack area x lock log m turn.place turn.holds
    shard_turn m lock log lock_is seen turn in_it =
        let (found, next, found_is, next_is, is) = r.had.shards m turn in_it in
        let same : found ≡ lock = some_of (slice_get locks m) found lock (sym (ap (λ ls. slice_get ls m) (r.had.locks ∙ r.locks_are)) ∙ found_is) lock_is in
        let s : StartsWith log next.seen = seen next (sym (ap (λ (v : Vec (Caller (Past (Cell R A))) Global). slice_get v.items m) r.passes_are) ∙ next_is) in
        let here = subst (λ l. IsShardTurn rack area x l next.seen m turn.place turn.holds) same is in
        record {
          log = here.log;
          left = here.left;
          place_is = here.place_is;
          begins = starts_then log next.seen (here.log ++ here.left ∷ []) s here.begins;
          found = here.found;
          reached = here.reached;
          found_is = here.found_is;
          reached_is = here.reached_is;
          follows = here.follows;
          bytes = here.bytes;
        }

    uber_turn : (log : List (Past (UberCell R A))) → StartsWith log pass.seen → (turn : LaneTurn) → Contains (trace.turns None) turn → IsUberTurn rack area x uber log turn.place turn.holds
    uber_turn log seen turn in_it =
        let is = r.had.ubers turn in_it in
        let here = subst (λ l. IsUberTurn rack area x l pass.seen turn.place turn.holds) (r.had.uber_lock ∙ r.uber_is) (subst (λ (p : Caller (Past (UberCell R A))). IsUberTurn rack area x r.new.uber.now p.seen turn.place turn.holds) r.pass_is is) in
        record {
          log = here.log;
          left = here.left;
          place_is = here.place_is;
          begins = starts_then log pass.seen (here.log ++ here.left ∷ []) seen here.begins;
          of_uber = here.of_uber;
          goes = here.goes;
        }

  -- ---- all of them

  module _ (traces : List Trace) (lanes : List (Vec (Caller (Past (Cell R A))) Global)) (ubers : List (Caller (Past (UberCell R A)))) (ran : RanLanes traces lanes ubers) where
    -- what stands at a place of the traces
    at_traces : (f : Trace → List LaneTurn) (i : ℕ) (turns : List LaneTurn) → slice_get (map f traces) i ≡ Some turns → (trace : Trace) × (slice_get traces i ≡ Some trace) × (f trace ≡ turns)
    at_traces f = by traces
      where
        by : (ts : List Trace) (i : ℕ) (turns : List LaneTurn) → slice_get (map f ts) i ≡ Some turns → (trace : Trace) × (slice_get ts i ≡ Some trace) × (f trace ≡ turns)
        by [] i turns at = absurd (cc)
        by (t ∷ ts) zero turns at = (t, refl, cc)
        by (t ∷ ts) (suc i) turns at = by ts i turns at

    lane_of : (i : ℕ) (trace : Trace) → slice_get traces i ≡ Some trace → (lane : Vec (Caller (Past (Cell R A))) Global) × (pass : Caller (Past (UberCell R A))) × (slice_get lanes i ≡ Some lane) × (slice_get ubers i ≡ Some pass) × RanLane trace lane pass
    lane_of i trace at =
        let inside = get_within traces i trace at in
        let lane = present lanes i (let many = ran.many in omega (arith, inside, many)) in
        let pass = present ubers i (let many = ran.many_ubers in omega (arith, inside, many)) in
        (lane.0, pass.0, lane.1, pass.1, ran.each i trace lane.0 pass.0 at lane.1 pass.1)

    -- each lane's turns of a lock come in the order of their places
    all_ascend : (lock : Option ℕ) (i : ℕ) (turns : List LaneTurn) → slice_get (turns_all lock traces) i ≡ Some turns → Ascends (places_in turns)
    all_ascend lock i turns at =
        let t = at_traces (λ trace. trace.turns lock) i turns at in
        let l = lane_of i t.0 t.1 in
        subst (λ ts. Ascends (places_in ts)) t.2 (l.4.had.ascends lock)

    all_same : (lock : Option ℕ) → map (holds_of lock) (holds_all traces) ≡ map holds_in (turns_all lock traces)
    all_same lock = by traces (λ i trace at. (lane_of i trace at).4.had.same lock)
      where
        by : (ts : List Trace) → ((i : ℕ) (trace : Trace) → slice_get ts i ≡ Some trace → holds_of lock trace.holds ≡ holds_in (trace.turns lock)) → map (holds_of lock) (holds_all ts) ≡ map holds_in (turns_all lock ts)
        by [] each = refl
        by (t ∷ ts) each = (λ k. each 0 t refl k ∷ by ts (λ i trace at. each (suc i) trace at) k)

    -- ---- each place is one lane's

    -- what passes of a metaslab's lock did, and those of the groups, which did nothing
    module _ (m : ℕ) (inside : m < length locks) (groups : Vec (Caller (Past (Cell R A))) Global) (idle : (pass : Caller (Past (Cell R A))) → slice_get groups.items m ≡ Some pass → pass.own ≡ []) where
      last_idle : (p : ℕ) (o : Option (Caller (Past (Cell R A)))) → slice_get groups.items m ≡ o → makers p (with_pass o []) ≡ 0
      last_idle p None is = refl
      last_idle p (Some pass) is = (let none : times p pass.own ≡ 0 = ap (times p) (idle pass is) in let all = sum_by-cons (λ (c : Caller (Past (Cell R A))). times p c.own) pass [] in omega (arith, none, all))

      makers_are : (p : ℕ) (ts : List Trace) (ls : List (Vec (Caller (Past (Cell R A))) Global)) → length ls ≡ length ts
          → ((i : ℕ) (trace : Trace) (lane : Vec (Caller (Past (Cell R A))) Global) → slice_get ts i ≡ Some trace → slice_get ls i ≡ Some lane → (pass : Caller (Past (Cell R A))) × (slice_get lane.items m ≡ Some pass) × (pass.own ≡ places_in (trace.turns (Some m))))
          → makers p (passes_at m (ls ++ groups ∷ [])) ≡ all_times p (turns_all (Some m) ts)
      makers_are p [] [] many each = last_idle p (slice_get groups.items m) refl
      makers_are p [] (l ∷ ls) many each = absurd (omega (arith, many))
      makers_are p (t ∷ ts) [] many each = absurd (omega (arith, many))
      makers_are p (t ∷ ts) (l ∷ ls) many each =
          let here = each 0 t l refl refl in
          let rest = makers_are p ts ls (omega (arith, many)) (λ i trace lane a b. each (suc i) trace lane a b) in
          let first : makers p (with_pass (slice_get l.items m) (passes_at m (ls ++ groups ∷ []))) ≡ makers p (here.0 ∷ passes_at m (ls ++ groups ∷ [])) = ap (λ o. makers p (with_pass o (passes_at m (ls ++ groups ∷ [])))) here.1 in
          let all = sum_by-cons (λ (c : Caller (Past (Cell R A))). times p c.own) here.0 (passes_at m (ls ++ groups ∷ [])) in
          let own : times p here.0.own ≡ times p (places_in (t.turns (Some m))) = ap (times p) here.2 in
          omega (arith, rest, first, all, own)

      once_at : (log : List (Past (Cell R A))) (rest : Caller (Past (Cell R A))) → rest.own ≡ [] → ((p : ℕ) → times p rest.own + makers p (passes_at m (lanes ++ groups ∷ [])) ≡ one_within 0 (length log) p)
          → (p : ℕ) → all_times p (turns_all (Some m) traces) ≡ one_within 0 (length log) p
      once_at log rest fresh single p =
          let none : times p rest.own ≡ 0 = ap (times p) fresh in
          let one = single p in
          let all = makers_are p traces lanes ran.many (λ i trace lane a b.
          (let l = lane_of i trace a in
          let same : l.0 ≡ lane = some_of (slice_get lanes i) l.0 lane l.2 b in
          let r = subst (λ v. RanLane trace v l.1) same l.4 in
          let pass = has_pass trace lane l.1 r m inside in
          (pass.0, pass.1, own_at trace lane l.1 r m pass.0 inside pass.1))) in
          omega (arith, none, one, all)

      passes_all : (P : Caller (Past (Cell R A)) → Type 0) (ls : List (Vec (Caller (Past (Cell R A))) Global)) → All P (passes_at m (ls ++ groups ∷ [])) → (i : ℕ) (lane : Vec (Caller (Past (Cell R A))) Global) (pass : Caller (Past (Cell R A))) → slice_get ls i ≡ Some lane → slice_get lane.items m ≡ Some pass → P pass
      passes_all P [] all i lane pass at there = absurd (cc)
      passes_all P (l ∷ ls) all zero lane pass at there =
          let same : l ≡ lane = cc in
          All-head P pass (passes_at m (ls ++ groups ∷ [])) (subst (λ o. All P (with_pass o (passes_at m (ls ++ groups ∷ [])))) (ap (λ (v : Vec (Caller (Past (Cell R A))) Global). slice_get v.items m) same ∙ there) all)
      passes_all P (l ∷ ls) all (suc i) lane pass at there = passes_all P ls (behind (slice_get l.items m) all) i lane pass at there
        where
          behind : (o : Option (Caller (Past (Cell R A)))) → All P (with_pass o (passes_at m (ls ++ groups ∷ []))) → All P (passes_at m (ls ++ groups ∷ []))
          behind None every = every
          behind (Some p) every = All-tail P p (passes_at m (ls ++ groups ∷ [])) every

      -- each pass that is left is a front of the history
      module _ (lock : Lock (Cell R A)) (rest : Caller (Past (Cell R A))) (value : Cell R A) (c : ClosesEach (Step rack area) lock.first rest (passes_at m (lanes ++ groups ∷ [])) value) where
        seen_at : (i : ℕ) (lane : Vec (Caller (Past (Cell R A))) Global) → slice_get lanes i ≡ Some lane → (next : Caller (Past (Cell R A))) → slice_get lane.items m ≡ Some next → StartsWith c.log next.seen
        seen_at i lane at next next_is = passes_all (λ pass. StartsWith c.log pass.seen) lanes c.seen i lane next at next_is

        module _ (lock_is : slice_get locks m ≡ Some lock) (fresh : rest.own ≡ []) (single : (seen : List (Past (Cell R A))) (y z : Metaslab) → CameAt rack area x lock seen m y → CameAt rack area x lock seen m z → y ≡ z) (y : Metaslab) (there : slice_get x.metaslabs m ≡ Some y)
            (first_at : CameAt rack area x lock [] m y) where
          its_turn : (i : ℕ) (turns : List LaneTurn) → slice_get (turns_all (Some m) traces) i ≡ Some turns → (turn : LaneTurn) → Contains turns turn → IsShardTurn rack area x lock c.log m turn.place turn.holds
          its_turn i turns at turn in_it =
              let t = at_traces (λ trace. trace.turns (Some m)) i turns at in
              let l = lane_of i t.0 t.1 in
              shard_turn t.0 l.0 l.1 l.4 m lock c.log lock_is (λ next next_is. seen_at i l.0 l.2 next next_is) turn (subst (λ ts. Contains ts turn) (sym t.2) in_it)

          -- all turns of a metaslab's lock come together
          pub shard_came : ShardTogether rack area x lock m c.log (holds_all traces)
          shard_came = shard_together rack area x lock m c.log single y there first_at (turns_all (Some m) traces) (holds_all traces) (all_same (Some m)) (once_at c.log rest fresh c.single) (all_ascend (Some m)) its_turn

          -- in all that a lane saw its blocks had bytes, where it began so
          pub lane_bytes : BytesAt rack area x lock m [] y → (i : ℕ) (lane : Vec (Caller (Past (Cell R A))) Global) (pass : Caller (Past (Cell R A))) → slice_get lanes i ≡ Some lane → slice_get lane.items m ≡ Some pass → HadBytes rack area x lock pass.seen m
          lane_bytes begun i lane pass at pass_is =
              shard_bytes rack area x lock m c.log single y there first_at (turns_all (Some m) traces) (holds_all traces) (all_same (Some m)) (once_at c.log rest fresh c.single) (all_ascend (Some m)) its_turn begun pass.seen (seen_at i lane at pass pass_is)

    -- ---- the uberblock

    uber_makers : (p : ℕ) (ts : List Trace) (us : List (Caller (Past (UberCell R A)))) → length us ≡ length ts → ((i : ℕ) (trace : Trace) (pass : Caller (Past (UberCell R A))) → slice_get ts i ≡ Some trace → slice_get us i ≡ Some pass → pass.own ≡ places_in (trace.turns None))
        → makers p us ≡ all_times p (turns_all None ts)
    uber_makers p [] [] many each = refl
    uber_makers p [] (u ∷ us) many each = absurd (omega (arith, many))
    uber_makers p (t ∷ ts) [] many each = absurd (omega (arith, many))
    uber_makers p (t ∷ ts) (u ∷ us) many each =
        let own : times p u.own ≡ times p (places_in (t.turns None)) = ap (times p) (each 0 t u refl refl) in
        let rest = uber_makers p ts us (omega (arith, many)) (λ i trace pass a b. each (suc i) trace pass a b) in
        let all = sum_by-cons (λ (c : Caller (Past (UberCell R A))). times p c.own) u us in omega (arith, own, rest, all)

    -- all turns of the uberblock's lock come together
    pub uber_came : (rest : Caller (Past (UberCell R A))) (value : UberCell R A) (c : ClosesEach (UberHold rack area) uber.first rest ubers value) → rest.own ≡ [] → IsGoverned rack area x uber.first x → UberTogether rack area x uber c.log (holds_all traces)
    uber_came rest value c fresh begun = uber_together rack area x uber c.log begun (turns_all None traces) (holds_all traces) (all_same None)
        (λ p.
        (let none : times p rest.own ≡ 0 = ap (times p) fresh in
        let one = c.single p in
        let all = uber_makers p traces ubers ran.many_ubers (λ i trace pass a b.
        (let l = lane_of i trace a in
        let same : l.1 ≡ pass = some_of (slice_get ubers i) l.1 pass l.3 b in
        let r = subst (λ v. RanLane trace l.0 v) same l.4 in uber_own trace l.0 pass r)) in
        omega (arith, none, one, all)))
        (all_ascend None) (λ i turns at turn in_it.
        (let t = at_traces (λ trace. trace.turns None) i turns at in
        let l = lane_of i t.0 t.1 in
        uber_turn t.0 l.0 l.1 l.4 c.log (all_get (λ pass. StartsWith c.log pass.seen) ubers c.seen i l.1 l.3) turn (subst (λ ts. Contains ts turn) (sym t.2) in_it)))
      where
        all_get : {E : Type 0} (P : E → Type 0) (es : List E) → All P es → (k : ℕ) (e : E) → slice_get es k ≡ Some e → P e
        all_get P [] all k e at = absurd (cc)
        all_get P (d ∷ es) all zero e at = (let same : d ≡ e = cc in subst P same (All-head P d es all))
        all_get P (d ∷ es) all (suc k) e at = all_get P es (All-tail P d es all) k e at
