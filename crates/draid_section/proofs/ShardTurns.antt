-- All lanes' turns of one metaslab's lock lead from what the metaslab was to what it came to.
use Rattle.std.proofs.Common.{◌≡◌, ◌∙◌, ◌++◌, ◌∷◌, ◌+◌, ◌≤◌, inl, inr, arith, ℕ, zero, suc, List, [], Some, All, Contains, ap, sym, subst, refl, map, length}
use Rattle.std.specs.Prelude.{flat_map, slice_get}
use Rattle.std.proofs.lemmas.Bool.{cases_lt}
use Rattle.std.proofs.lemmas.List.Concat.{flat_map-cons}
use Rattle.std.proofs.lemmas.List.Elements.{All-head, All-tail}
use Rattle.draid_rack.specs.declared.Rack as racks
use Rattle.draid_area.specs.declared.Area as areas
use Rattle.draid_machine.specs.State as machine
use Rattle.draid_segments.specs.Segments.{Pieces}
use Rattle.draid_shard.specs.Part.{layout_in}
use Rattle.draid_shard.specs.declared.shard.Shard.{Shard}
use Rattle.draid_turn.specs.Calls.{Lock}
use Rattle.draid_turn.specs.Lists.{Ascends, StartsWith, one_within, places}
use Rattle.draid_turn.specs.declared.past.Past.{Past}
use Rattle.draid_session.specs.Holds.{Hold}
use Rattle.draid_session.specs.Lanes.{IsMerged, TogetherAt, holds_of}
use Rattle.draid_session.specs.State.{Metaslab, State}
use Rattle.draid_pool.specs.Bytes.{HaveBytes}
use Rattle.draid_pool.specs.Metaslabs.{IsMetaslab}
use Rattle.draid_pool.specs.Pools.{part_in}
use Rattle.draid_pool.specs.Shards.{FollowsIn}
use Rattle.draid_pool.specs.declared.cell.Cell.{Cell}
use Rattle.draid_pool.proofs.Lists.{get_set_same}
use Rattle.draid_pool.proofs.Moved.{follows_one, with_metaslab}
use Rattle.draid_lanes.specs.Locks.{left_in}
use Rattle.draid_lanes.specs.Traces.{CameAt, HadBytes, IsShardTurn, LaneTurn, holds_in, places_in}
use Rattle.draid_lanes.proofs.Drifted.{left_append}
use Rattle.draid_lanes.proofs.OneTurn.{came_at, came_on, came_to}
use Rattle.draid_lanes.proofs.Tracing.{starts_long, starts_then}
use Rattle.draid_section.proofs.LockTurns.{OneList, Pair, all_times, done_in, one_list}
use Rattle.draid_section.proofs.Merging.{places_of}

-- ---- histories

-- fronts of one list that are as long are the same
pub front_same : {E : Type 0} (xs ys more other : List E) → xs ++ more ≡ ys ++ other → length xs ≡ length ys → xs ≡ ys
front_same [] [] more other is long = refl
front_same [] (y ∷ ys) more other is long = absurd (omega (arith, long))
front_same (x ∷ xs) [] more other is long = absurd (omega (arith, long))
front_same (x ∷ xs) (y ∷ ys) more other is long =
    let first : x ≡ y = cc in
    let rest : xs ++ more ≡ ys ++ other = cc in
    ap (λ z. z ∷ xs) first ∙ ap (λ zs. y ∷ zs) (front_same xs ys more other rest (omega (arith, long)))

pub longer : {E : Type 0} (xs : List E) (x : E) → length (xs ++ x ∷ []) ≡ suc (length xs)
longer [] x = refl
longer (y ∷ xs) x = ap suc (longer xs x)

-- a front that is as long as all is all
pub front_all : {E : Type 0} (log seen : List E) → StartsWith log seen → length seen ≡ length log → seen ≡ log
front_all log seen (rest, is) long = front_same seen log rest [] (sym is ∙ whole log) long
  where
    whole : {E : Type 0} (xs : List E) → xs ≡ xs ++ []
    whole [] = refl
    whole (x ∷ xs) = ap (λ l. x ∷ l) (whole xs)

-- holds of a metaslab, and more behind them
pub follows_more : (l : machine.Layout) (m : ℕ) (holds more : List Hold) (x y z : Metaslab) → FollowsIn l m holds x y → FollowsIn l m more y z → FollowsIn l m (holds ++ more) x z
follows_more l m [] more x y z first rest = subst (λ w. FollowsIn l m more w z) first rest
follows_more l m (hold ∷ holds) more x y z (act, mid, is, acts, first) rest = (act, mid, is, acts, follows_more l m holds more mid y z first rest)

-- the first of some places
pub first_place : (p : Pair) (ps : List Pair) (from count : ℕ) → places_of (p ∷ ps) ≡ places from count → (n : ℕ) × (count ≡ suc n) × (p.0 ≡ from) × (places_of ps ≡ places (suc from) n)
first_place p ps from zero is = absurd (cc)
first_place p ps from (suc n) is = (n, refl, cc, cc)

module _ {R A : Type 0} (rack : racks.Ghosts R) (area : areas.Ghosts A) (x : State) (lock : Lock (Cell R A)) (m : ℕ) where
  -- so much of its history left a shard that stands for the metaslab with pieces by which all its blocks have bytes
  abbrev pub BytesAt : List (Past (Cell R A)) → Metaslab → Type 0
  BytesAt seen y = (pieces : Pieces) × IsMetaslab rack area (part_in x m) pieces (left_in lock seen) y × HaveBytes (part_in x m).geometry pieces y

module _ {R A : Type 0} (rack : racks.Ghosts R) (area : areas.Ghosts A) (x : State) (lock : Lock (Cell R A)) (m : ℕ) (log : List (Past (Cell R A))) where
  -- what the metaslab came to behind all turns of its lock, and that they all come together there
  pub record ShardTogether (lanes : List (List Hold)) : Type 0 where
    pub z : Metaslab
    pub at : CameAt rack area x lock log m z
    pub together : (new : State) → slice_get new.metaslabs m ≡ Some z → TogetherAt (Some m) lanes x new

module _ {R A : Type 0} (rack : racks.Ghosts R) (area : areas.Ghosts A) (x : State) (lock : Lock (Cell R A)) (m : ℕ) (log : List (Past (Cell R A))) (single : (seen : List (Past (Cell R A))) (y z : Metaslab) → CameAt rack area x lock seen m y → CameAt rack area x lock seen m z → y ≡ z) where
  -- a turn at its place of the whole history
  abbrev pub TurnAt : Pair → Type 0
  TurnAt p = IsShardTurn rack area x lock log m p.0 p.1

  -- so much of the history, behind these turns
  record Reached (from count : ℕ) (order : List Pair) (y : Metaslab) : Type 0 where
    seen : List (Past (Cell R A))
    begins : StartsWith log seen
    long : length seen ≡ from + count
    z : Metaslab
    at : CameAt rack area x lock seen m z
    follows : FollowsIn (layout_in (part_in x m)) m (flat_map done_in order) y z

  chain : (count from : ℕ) (order : List Pair) (seen : List (Past (Cell R A))) (y : Metaslab) → places_of order ≡ places from count → All TurnAt order → StartsWith log seen → length seen ≡ from → CameAt rack area x lock seen m y → Reached from count order y
  chain zero from [] seen y is turns begins long at = record { seen = seen; begins = begins; long = omega (arith, long); z = y; at = at; follows = refl }
  chain zero from (p ∷ order) seen y is turns begins long at = absurd (cc)
  chain (suc count) from [] seen y is turns begins long at = absurd (cc)
  chain (suc count) from (p ∷ order) seen y is turns begins long at =
      let one = first_place p order from (suc count) is in
      let turn : TurnAt p = All-head TurnAt p order turns in
      let place : p.0 ≡ from = one.2 in
      let here : seen ≡ turn.log = front_same seen turn.log begins.0 (turn.left ∷ turn.begins.0) (sym begins.1 ∙ (turn.begins.1 ∙ assoc turn.log turn.left turn.begins.0)) (let a = turn.place_is in omega (arith, a, long, place)) in
      let found : turn.found ≡ y = single turn.log turn.found y turn.found_is (subst (λ s. CameAt rack area x lock s m y) here at) in
      let next_long : length (turn.log ++ turn.left ∷ []) ≡ suc from = longer turn.log turn.left ∙ ap suc (sym turn.place_is ∙ place) in
      let rest = chain count (suc from) order (turn.log ++ turn.left ∷ []) turn.reached (rest_places count one) (All-tail TurnAt p order turns) turn.begins next_long turn.reached_is in
      let long' = rest.long in
      record {
        seen = rest.seen;
        begins = rest.begins;
        long = omega (arith, long');
        z = rest.z;
        at = rest.at;
        follows = subst (λ hs. FollowsIn (layout_in (part_in x m)) m hs y rest.z) (sym (flat_map-cons done_in p order))
            (follows_more (layout_in (part_in x m)) m p.1 (flat_map done_in order) y turn.reached rest.z (subst (λ w. FollowsIn (layout_in (part_in x m)) m p.1 w turn.reached) found turn.follows) rest.follows);
      }
    where
      assoc : (xs : List (Past (Cell R A))) (v : Past (Cell R A)) (more : List (Past (Cell R A))) → (xs ++ v ∷ []) ++ more ≡ xs ++ v ∷ more
      assoc [] v more = refl
      assoc (w ∷ xs) v more = ap (λ l. w ∷ l) (assoc xs v more)

      rest_places : (n : ℕ) (one : (k : ℕ) × (suc n ≡ suc k) × (p.0 ≡ from) × (places_of order ≡ places (suc from) k)) → places_of order ≡ places (suc from) n
      rest_places n (k, same, place, rest) = (let e : k ≡ n = omega (arith, same) in rest ∙ ap (places (suc from)) e)

  -- ---- bytes

  abbrev Bytes : List (Past (Cell R A)) → Metaslab → Type 0
  Bytes = BytesAt rack area x lock m

  -- a turn leaves them there
  turn_bytes : (p : Pair) (turn : TurnAt p) → Bytes turn.log turn.found → Bytes (turn.log ++ turn.left ∷ []) turn.reached
  turn_bytes p turn (pieces, is, has) =
      let g = turn.bytes pieces is has in
      let after : left_in lock (turn.log ++ turn.left ∷ []) ≡ turn.left.left.shard = ap (λ (c : Cell R A). c.shard) (left_append lock.first turn.log (turn.left ∷ [])) in
      let came = came_at rack area x lock (turn.log ++ turn.left ∷ []) m turn.left.left.shard g.reached after
      (came_on rack area x m (left_in lock turn.log) turn.left.left.shard turn.found g.reached g.pieces (came_to rack area x lock turn.log m turn.found turn.found_is) g.is g.since) in
      let same : g.reached ≡ turn.reached = single (turn.log ++ turn.left ∷ []) g.reached turn.reached came turn.reached_is in
      (g.pieces, subst (λ (q : Shard R A × Metaslab). IsMetaslab rack area (part_in x m) g.pieces q.0 q.1) (λ i. (sym after i, same i)) g.is, subst (λ y. HaveBytes (part_in x m).geometry g.pieces y) same g.has)

  -- what is so of one front of the history is so of another that is as long
  bytes_same : (seen front : List (Past (Cell R A))) (y z : Metaslab) → StartsWith log seen → StartsWith log front → length seen ≡ length front → CameAt rack area x lock seen m y → CameAt rack area x lock front m z → Bytes seen y → Bytes front z
  bytes_same seen front y z begins starts long at there has =
      let same : seen ≡ front = front_same seen front begins.0 starts.0 (sym begins.1 ∙ starts.1) long in
      let is : y ≡ z = single front y z (subst (λ s. CameAt rack area x lock s m y) same at) there in
      subst (λ (q : List (Past (Cell R A)) × Metaslab). Bytes q.0 q.1) (λ i. (same i, is i)) has

  bytes_chain : (count from : ℕ) (order : List Pair) (seen : List (Past (Cell R A))) (y : Metaslab) → places_of order ≡ places from count → All TurnAt order → StartsWith log seen → length seen ≡ from → CameAt rack area x lock seen m y → Bytes seen y
      → (front : List (Past (Cell R A))) (z : Metaslab) → StartsWith log front → CameAt rack area x lock front m z → from ≤ length front → length front ≤ from + count → Bytes front z
  bytes_chain zero from order seen y is turns begins long at has front z starts there low high = bytes_same seen front y z begins starts (omega (arith, long, low, high)) at there has
  bytes_chain (suc count) from [] seen y is turns begins long at has front z starts there low high = absurd (cc)
  bytes_chain (suc count) from (p ∷ order) seen y is turns begins long at has front z starts there low high = elim (cases_lt from (length front)) [
    | inr upto ↦ bytes_same seen front y z begins starts (omega (arith, long, low, upto)) at there has
    | inl less ↦
        let one = first_place p order from (suc count) is in
        let turn : TurnAt p = All-head TurnAt p order turns in
        let place : p.0 ≡ from = one.2 in
        let place_is = turn.place_is in
        let as_long : length seen ≡ length turn.log = omega (arith, place_is, long, place) in
        let in_it : StartsWith log turn.log = (turn.left ∷ turn.begins.0, turn.begins.1 ∙ joined turn.log turn.left turn.begins.0) in
        let found = bytes_same seen turn.log y turn.found begins in_it as_long at turn.found_is has in
        let next_long : length (turn.log ++ turn.left ∷ []) ≡ suc from = longer turn.log turn.left ∙ ap suc (sym turn.place_is ∙ place) in
        let rest : places_of order ≡ places (suc from) count = (let e : one.0 ≡ count = (let n = one.1 in omega (arith, n)) in one.3 ∙ ap (places (suc from)) e) in
        bytes_chain count (suc from) order (turn.log ++ turn.left ∷ []) turn.reached rest (All-tail TurnAt p order turns) turn.begins next_long turn.reached_is (turn_bytes p turn found) front z starts there (omega (arith, less)) (omega (arith, high))
  ]
    where
      joined : (xs : List (Past (Cell R A))) (v : Past (Cell R A)) (more : List (Past (Cell R A))) → (xs ++ v ∷ []) ++ more ≡ xs ++ v ∷ more
      joined [] v more = refl
      joined (w ∷ xs) v more = ap (λ l. w ∷ l) (joined xs v more)

  module _ (first : Metaslab) (there : slice_get x.metaslabs m ≡ Some first) (first_at : CameAt rack area x lock [] m first) (lists : List (List LaneTurn)) (lanes : List (List Hold)) (same : map (holds_of (Some m)) lanes ≡ map holds_in lists)
      (once : (p : ℕ) → all_times p lists ≡ one_within 0 (length log) p) (ascend : (i : ℕ) (turns : List LaneTurn) → slice_get lists i ≡ Some turns → Ascends (places_in turns))
      (each : (i : ℕ) (turns : List LaneTurn) → slice_get lists i ≡ Some turns → (turn : LaneTurn) → Contains turns turn → IsShardTurn rack area x lock log m turn.place turn.holds) where
    one : OneList TurnAt lists (length log)
    one = one_list TurnAt lists (length log) once ascend each

    all : Reached 0 (length log) one.order first
    all = chain (length log) 0 one.order [] first one.at one.so (log, refl) refl first_at

    -- all that was ever seen of it left it so, where it began so
    pub shard_bytes : Bytes [] first → (seen : List (Past (Cell R A))) → StartsWith log seen → HadBytes rack area x lock seen m
    shard_bytes begun seen upto front y starts at =
        let in_it : StartsWith log front = starts_then front seen log starts upto in
        let low = starts_long log front in_it in
        bytes_chain (length log) 0 one.order [] first one.at one.so (log, refl) refl first_at begun front y in_it at (omega arith) (omega (arith, low))

    pub shard_together : ShardTogether rack area x lock m log lanes
    shard_together = record {
      z = all.z;
      at = subst (λ s. CameAt rack area x lock s m all.z) (front_all log all.seen all.begins (let long = all.long in omega (arith, long))) all.at;
      together = λ new new_is. record {
        order = flat_map done_in one.order;
        merged = subst (λ ls. IsMerged ls (flat_map done_in one.order)) (sym same) one.merged;
        reached = with_metaslab x m all.z;
        follows = follows_one m (flat_map done_in one.order) x first all.z there all.follows;
        same = get_set_same x.metaslabs m first all.z there ∙ sym new_is;
      };
    }
