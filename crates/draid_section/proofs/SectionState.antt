-- The state to which a section led: each metaslab, and the uberblock, as its lock's history left it.
use Rattle.std.proofs.Common.{◌≡◌, ◌∙◌, ◌++◌, ◌∷◌, ◌+◌, ◌<◌, ◌≤◌, inl, inr, arith, ℕ, zero, suc, List, [], Option, Some, None, All, Contains, ap, sym, subst, refl, map, length}
use Rattle.std.specs.Prelude.{slice_get}
use Rattle.std.specs.declared.vec.Vec.{Vec}
use Rattle.std.specs.declared.alloc.Global.{Global}
use Rattle.std.proofs.lemmas.Bool.{cases_lt}
use Rattle.std.proofs.lemmas.List.Elements.{All-cons, All-nil}
use Rattle.std.proofs.lemmas.Option.{slice_get_past, slice_get_within}
use Rattle.draid_rack.specs.declared.Rack as racks
use Rattle.draid_area.specs.declared.Area as areas
use Rattle.draid_shard.specs.declared.shard.Shard.{Shard}
use Rattle.draid_turn.specs.Calls.{Caller, Lock}
use Rattle.draid_turn.specs.declared.past.Past.{Past}
use Rattle.draid_holds.specs.Passes.{ClosesEach}
use Rattle.draid_session.specs.Lanes.{Together, TogetherAt, holds_of}
use Rattle.draid_session.specs.State.{Metaslab, State, Store}
use Rattle.draid_pool.specs.declared.cell.Cell.{Cell}
use Rattle.draid_pool.proofs.Lists.{present}
use Rattle.draid_lanes.specs.Traces.{CameAt, HadBytes, IsGoverned, LaneTurn, holds_in}
use Rattle.draid_lanes.specs.declared.uber.UberCell.{UberCell}
use Rattle.draid_section.specs.Opening.{AreUnlocked}
use Rattle.draid_section.specs.Turning.{UberHold}
use Rattle.draid_section.proofs.Finals.{FinalAt}
use Rattle.draid_section.proofs.RanTogether.{RanLane, RanLanes, Trace, holds_all, lane_bytes, shard_came, uber_came}
use Rattle.draid_section.proofs.ShardTurns.{BytesAt, ShardTogether}
use Rattle.draid_section.proofs.UberTurns.{UberTogether, with_uber}

-- ---- lists that are made element by element

pub record Listed {E : Type 0} (P : ℕ → E → Type 0) (from count : ℕ) : Type 0 where
  pub list : List E
  pub many : length list ≡ count
  pub each : (k : ℕ) (e : E) → slice_get list k ≡ Some e → P (from + k) e

pub listed : {E : Type 0} (P : ℕ → E → Type 0) (count from : ℕ) → ((k : ℕ) → k < count → (e : E) × P (from + k) e) → Listed P from count
listed {E} P zero from each = record { list = []; many = refl; each = λ k e at. absurd (cc) }
listed {E} P (suc count) from each =
    let first = each 0 (omega arith) in
    let rest = listed P count (suc from) (λ k less. (let one = each (suc k) (omega (arith, less)) in (one.0, subst (λ n. P n one.0) (omega arith) one.1))) in
    let many = rest.many in
    record { list = first.0 ∷ rest.list; many = omega (arith, many); each = by first rest }
  where
    by : (first : (e : E) × P (from + 0) e) (rest : Listed P (suc from) count) (k : ℕ) (e : E) → slice_get (first.0 ∷ rest.list) k ≡ Some e → P (from + k) e
    by first rest zero e at = (let same : first.0 ≡ e = cc in subst (P (from + 0)) same first.1)
    by first rest (suc k) e at = subst (λ n. P n e) (omega arith) (rest.each k e at)

module _ {R A : Type 0} (G W : Type 0) (rack : racks.Ghosts R) (area : areas.Ghosts A) (x : State) (locks : List (Lock (Cell R A))) (uber : Lock (UberCell R A)) (many : length x.metaslabs ≡ length locks)
    (traces : List Trace) (lanes : List (Vec (Caller (Past (Cell R A))) Global)) (ubers : List (Caller (Past (UberCell R A)))) (ran : RanLanes G W rack area x locks uber traces lanes ubers) (groups : Vec (Caller (Past (Cell R A))) Global) (rests : List (Caller (Past (Cell R A)))) (shards : List (Shard R A))
    (unlocked : AreUnlocked rack area locks rests (lanes ++ groups ∷ []) shards) (rest_of : (m : ℕ) → m < length locks → (rest : Caller (Past (Cell R A))) × (slice_get rests m ≡ Some rest) × (rest.own ≡ []))
    (idle : (m : ℕ) (pass : Caller (Past (Cell R A))) → slice_get groups.items m ≡ Some pass → pass.own ≡ [])
    (single : (lock : Lock (Cell R A)) (m : ℕ) (seen : List (Past (Cell R A))) (y z : Metaslab) → CameAt rack area x lock seen m y → CameAt rack area x lock seen m z → y ≡ z)
    (first_at : (m : ℕ) (lock : Lock (Cell R A)) (y : Metaslab) → slice_get locks m ≡ Some lock → slice_get x.metaslabs m ≡ Some y → CameAt rack area x lock [] m y)
    (uber_rest : Caller (Past (UberCell R A))) (value : UberCell R A) (uber_closes : ClosesEach (UberHold rack area) uber.first uber_rest ubers value) (uber_fresh : uber_rest.own ≡ []) (begun : IsGoverned rack area x uber.first x) where
  -- a metaslab behind all turns of its lock
  pub record CameTo (m : ℕ) (z : Metaslab) : Type 0 where
    pub final : FinalAt rack area x locks shards m z
    pub together : (new : State) → slice_get new.metaslabs m ≡ Some z → TogetherAt (Some m) (holds_all traces) x new

  came_to : (m : ℕ) → m < length locks → (z : Metaslab) × CameTo m z
  came_to m inside =
      let lock = present locks m inside in
      let rest = rest_of m inside in
      let y = present x.metaslabs m (omega (arith, inside, many)) in
      let c = unlocked.each m lock.0 rest.0 lock.1 rest.1 in
      let s : ShardTogether rack area x lock.0 m c.2.log (holds_all traces)
      = shard_came G W rack area x locks uber traces lanes ubers ran m inside groups (idle m) lock.0 rest.0 c.0 c.2 lock.1 rest.2 (single lock.0 m) y.0 y.1 (first_at m lock.0 y.0 lock.1 y.1) in (
        s.z,
        record {
          final = record { lock = lock.0; lock_is = lock.1; shard = c.0.shard; shard_is = c.1; log = c.2.log; left = ap (λ (v : Cell R A). v.shard) (sym c.2.stood.is); at = s.at };
          together = s.together;
        },
      )

  -- in all that a lane saw the blocks of each metaslab had bytes, where all began so
  pub section_bytes : ((m : ℕ) (lock : Lock (Cell R A)) (y : Metaslab) → slice_get locks m ≡ Some lock → slice_get x.metaslabs m ≡ Some y → BytesAt rack area x lock m [] y)
      → (m : ℕ) (lock : Lock (Cell R A)) → slice_get locks m ≡ Some lock → (i : ℕ) (lane : Vec (Caller (Past (Cell R A))) Global) (pass : Caller (Past (Cell R A))) → slice_get lanes i ≡ Some lane → slice_get lane.items m ≡ Some pass → HadBytes rack area x lock pass.seen m
  section_bytes begun m lock lock_is i lane pass lane_is pass_is =
      let inside = slice_get_within locks m lock lock_is in
      let rest = rest_of m inside in
      let y = present x.metaslabs m (omega (arith, inside, many)) in
      let c = unlocked.each m lock rest.0 lock_is rest.1 in
      lane_bytes G W rack area x locks uber traces lanes ubers ran m inside groups (idle m) lock rest.0 c.0 c.2 lock_is rest.2 (single lock m) y.0 y.1 (first_at m lock y.0 lock_is y.1) (begun m lock y.0 lock_is y.1) i lane pass lane_is pass_is

  pub section_all : Listed CameTo 0 (length locks)
  section_all = listed CameTo (length locks) 0 (λ k less. (let one = came_to k less in (one.0, subst (λ n. CameTo n one.0) (omega arith) one.1)))

  -- the metaslabs behind the section
  abbrev pub section_metaslabs : List Metaslab
  section_metaslabs = section_all.list

  pub section_many : length section_metaslabs ≡ length locks
  section_many = section_all.many

  pub section_at : (m : ℕ) (z : Metaslab) → slice_get section_metaslabs m ≡ Some z → CameTo m z
  section_at m z at = subst (λ n. CameTo n z) (omega arith) (section_all.each m z at)

  -- and the uberblock's part
  pub section_uber : UberTogether rack area x uber uber_closes.log (holds_all traces)
  section_uber = uber_came G W rack area x locks uber traces lanes ubers ran uber_rest value uber_closes uber_fresh begun

  pub section_governed : IsGoverned rack area x value section_uber.z
  section_governed = subst (λ c. IsGoverned rack area x c section_uber.z) (sym uber_closes.stood.is) section_uber.governed

  -- ---- the state

  -- a pool's state of these, with what it has of its own then
  abbrev pub section_state : Store → State
  section_state store = with_uber (record x { metaslabs = section_metaslabs; store = store }) section_uber.z

  -- no lane has a hold of a metaslab that isn't there
  none_beyond : (m : ℕ) → length locks ≤ m → All (λ l. l ≡ []) (map (holds_of (Some m)) (holds_all traces))
  none_beyond m past = by traces (λ i trace at. none i trace at)
    where
      no_lock : (lock : Lock (Cell R A)) → slice_get locks m ≡ Some lock → ⊥
      no_lock lock is = (let inside = slice_get_within locks m lock is in omega (arith, inside, past))

      first_in : (t : LaneTurn) (ts : List LaneTurn) → Contains (t ∷ ts) t
      first_in t ts = (0, omega arith, refl)

      of_none : (turns : List LaneTurn) → ((turn : LaneTurn) → Contains turns turn → ⊥) → holds_in turns ≡ []
      of_none [] never = refl
      of_none (t ∷ ts) never = absurd (never t (first_in t ts))

      none : (i : ℕ) (trace : Trace) → slice_get traces i ≡ Some trace → holds_of (Some m) trace.holds ≡ []
      none i trace at =
          let inside = slice_get_within traces i trace at in
          let lane = present lanes i (let as_many = ran.many in omega (arith, inside, as_many)) in
          let pass = present ubers i (let as_many = ran.many_ubers in omega (arith, inside, as_many)) in
          let r : RanLane G W rack area x locks uber trace lane.0 pass.0 = ran.each i trace lane.0 pass.0 at lane.1 pass.1 in
          r.had.same (Some m) ∙ of_none (trace.turns (Some m)) (λ turn in_it.
          (let (lock, next, lock_is, next_is, is) = r.had.shards m turn in_it in
          no_lock lock (sym (ap (λ ls. slice_get ls m) (r.had.locks ∙ r.locks_are)) ∙ lock_is)))

      by : (ts : List Trace) → ((i : ℕ) (trace : Trace) → slice_get ts i ≡ Some trace → holds_of (Some m) trace.holds ≡ []) → All (λ l. l ≡ []) (map (holds_of (Some m)) (holds_all ts))
      by [] each = All-nil (λ l. l ≡ [])
      by (t ∷ ts) each = All-cons (λ l. l ≡ []) (holds_of (Some m) t.holds) (map (holds_of (Some m)) (holds_all ts)) (each 0 t refl) (by ts (λ i trace at. each (suc i) trace at))

  together_at : (store : Store) (m : ℕ) → TogetherAt (Some m) (holds_all traces) x (section_state store)
  together_at store m = elim (cases_lt m (length locks)) [
    | inl inside ↦ (let as_many = section_many in let z = present section_metaslabs m (omega (arith, inside, as_many)) in (section_at m z.0 z.1).together (section_state store) z.1)
    | inr past ↦ record {
      order = [];
      merged = none_beyond m past;
      reached = x;
      follows = refl;
      same = (let as_many = section_many in slice_get_past x.metaslabs m (omega (arith, past, many)) ∙ sym (slice_get_past section_metaslabs m (omega (arith, past, as_many))));
    }
  ]

  -- what all lanes did came together there
  pub section_together : (store : Store) → Together (holds_all traces) x (section_state store)
  section_together store = record {
    each = at_lock;
    rest = record { geometry = refl; perms = refl; told = refl; many = (let as_many = section_many in omega (arith, many, as_many)) };
  }
    where
      at_lock : (lock : Option ℕ) → TogetherAt lock (holds_all traces) x (section_state store)
      at_lock (Some m) = together_at store m
      at_lock None = section_uber.together (section_state store) (refl, refl, refl, refl, refl, refl, refl)
