-- All lanes' turns of the uberblock's lock lead from what it was to what it came to.
use Rattle.std.proofs.Common.{◌≡◌, ◌∙◌, ◌++◌, ◌∷◌, ◌+◌, ◌≤◌, arith, ℕ, zero, suc, true, false, List, [], Some, None, All, Contains, ap, sym, subst, refl, map, length}
use Rattle.std.specs.Prelude.{flat_map, slice_get}
use Rattle.std.proofs.lemmas.List.Concat.{flat_map-cons}
use Rattle.std.proofs.lemmas.List.Elements.{All-head, All-tail}
use Rattle.draid_names.specs.Faults.{Rose}
use Rattle.draid_rack.specs.declared.Rack as racks
use Rattle.draid_area.specs.declared.Area as areas
use Rattle.draid_turn.specs.Calls.{Lock}
use Rattle.draid_turn.specs.History.{left_by}
use Rattle.draid_turn.specs.Lists.{Ascends, StartsWith, one_within, places}
use Rattle.draid_turn.specs.declared.past.Past.{Past}
use Rattle.draid_session.specs.Follows.{Follows, UberActs}
use Rattle.draid_session.specs.Holds.{CommitFailed, CommitStarved, Committed, Hold, AsksVersion, LookedUber, NextLeaf, On, OnUber, UberAct, UberView}
use Rattle.draid_session.specs.Lanes.{IsMerged, SameAt, TogetherAt, holds_of, is_of}
use Rattle.draid_session.specs.State.{State}
use Rattle.draid_pool.proofs.Following.{follows_on}
use Rattle.draid_lanes.specs.Traces.{IsGoverned, IsUberTurn, LaneTurn, holds_in, places_in}
use Rattle.draid_lanes.specs.declared.uber.UberCell.{UberCell}
use Rattle.draid_lanes.proofs.Drifted.{left_append}
use Rattle.draid_section.proofs.LockTurns.{OneList, Pair, all_times, done_in, one_list}
use Rattle.draid_section.proofs.Merging.{places_of}
use Rattle.draid_section.proofs.ShardTurns.{first_place, front_all, front_same, longer}

-- ---- the uberblock's part of a state

abbrev pub SameUber : State → State → Type 0
SameUber x y = SameAt None x y

same_self : (x : State) → SameUber x x
same_self x = (refl, refl, refl, refl, refl, refl, refl)

same_then : (x y z : State) → SameUber x y → SameUber y z → SameUber x z
same_then x y z (a, b, c, d, e, f, g) (h, i, j, k, l, m, n) = (a ∙ h, b ∙ i, c ∙ j, d ∙ k, e ∙ l, f ∙ m, g ∙ n)

-- a state with the uberblock's part of another
abbrev pub with_uber : State → State → State
with_uber r z = record r { committed = z.committed; kept_leaf = z.kept_leaf; next_leaf = z.next_leaf; kept_version = z.kept_version; next_version = z.next_version; uber_count = z.uber_count; pending = z.pending }

-- where that is the same it is the state
uber_back : (r z : State) → SameUber r z → with_uber r z ≡ r
uber_back r z (a, b, c, d, e, f, g) =
    λ i. record r { committed = sym a i; kept_leaf = sym b i; next_leaf = sym c i; kept_version = sym d i; next_version = sym e i; uber_count = sym f i; pending = sym g i }

-- what is done to the uberblock of one state is done to that of another with the same part
acts_on : (act : UberAct) (r z w : State) → SameUber r z → UberActs act z w → UberActs act r (with_uber r w)
acts_on LookedUber r z w s acts = subst (λ v. with_uber r v ≡ r) (sym acts) (uber_back r z s)
acts_on (Committed group) r z w (a, b, c, d, e, f, g) (count, low, made) = (
  count,
  subst (λ n. n ≤ count) (sym f) low,
  ap (with_uber r) made ∙ (λ i. record r { committed = group; kept_leaf = sym c i; next_leaf = sym c i; kept_version = sym e i; next_version = sym e i; uber_count = count; pending = false }),
)
acts_on (CommitFailed group) r z w (a, b, c, d, e, f, g) (count, rose, made) = (
  count,
  subst (λ n. Rose n count) (sym f) rose,
  ap (with_uber r) made ∙ (λ i. record r { committed = sym a i; kept_leaf = sym b i; next_leaf = sym c i; kept_version = sym d i; next_version = sym e i; uber_count = count; pending = true }),
)
acts_on (CommitStarved group) r z w (a, b, c, d, e, f, g) (count, low, made) = (
  count,
  subst (λ n. n ≤ count) (sym f) low,
  ap (with_uber r) made ∙ (λ i. record r { committed = sym a i; kept_leaf = sym b i; next_leaf = sym c i; kept_version = sym d i; next_version = sym e i; uber_count = count; pending = true }),
)
acts_on (NextLeaf next) r z w (a, b, c, d, e, f, g) made =
    ap (with_uber r) made ∙ (λ i. record r { committed = sym a i; kept_leaf = sym b i; next_leaf = next; kept_version = sym d i; next_version = sym e i; uber_count = sym f i; pending = sym g i })
acts_on (AsksVersion version) r z w (a, b, c, d, e, f, g) made =
    ap (with_uber r) made ∙ (λ i. record r { committed = sym a i; kept_leaf = sym b i; next_leaf = sym c i; kept_version = sym d i; next_version = version; uber_count = sym f i; pending = sym g i })

view_on : (u : UberView) (r z : State) → SameUber r z → u ≡ record { committed = z.committed; next_leaf = z.next_leaf } → u ≡ record { committed = r.committed; next_leaf = r.next_leaf }
view_on u r z (a, b, c, d, e, f, g) sees = sees ∙ (λ i. record { committed = sym a i; next_leaf = sym c i })

-- so are several holds
pub record Moved (holds : List Hold) (r w : State) : Type 0 where
  pub reached : State
  pub follows : Follows holds r reached
  pub same : SameUber reached w

moves : (holds : List Hold) (r z w : State) → All (λ hold. is_of None hold ≡ true) holds → SameUber r z → Follows holds z w → Moved holds r w
moves [] r z w of s f = record { reached = r; follows = refl; same = subst (SameUber r) (sym f) s }
moves (On v act ∷ holds) r z w of s f = absurd (let first : false ≡ true = All-head (λ hold. is_of None hold ≡ true) (On v act) holds of in cc)
moves (OnUber u act ∷ holds) r z w of s (mid, held, rest) =
    let more = moves holds (with_uber r mid) mid w (All-tail (λ hold. is_of None hold ≡ true) (OnUber u act) holds of) (refl, refl, refl, refl, refl, refl, refl) rest in
    record { reached = more.reached; follows = (with_uber r mid, record { sees = view_on u r z s held.sees; acts = acts_on act r z mid s held.acts }, more.follows); same = more.same }

-- ---- turns

module _ {R A : Type 0} (rack : racks.Ghosts R) (area : areas.Ghosts A) (x : State) (lock : Lock (UberCell R A)) (log : List (Past (UberCell R A))) where
  abbrev pub UberTurnAt : Pair → Type 0
  UberTurnAt p = IsUberTurn rack area x lock log p.0 p.1

  record Reached (from count : ℕ) (order : List Pair) (r : State) : Type 0 where
    seen : List (Past (UberCell R A))
    begins : StartsWith log seen
    long : length seen ≡ from + count
    z : State
    governed : IsGoverned rack area x (left_by lock.first seen) z
    moved : Moved (flat_map done_in order) r z

  chain : (count from : ℕ) (order : List Pair) (seen : List (Past (UberCell R A))) (r z : State) → places_of order ≡ places from count → All UberTurnAt order → StartsWith log seen → length seen ≡ from → IsGoverned rack area x (left_by lock.first seen) z → SameUber r z
      → Reached from count order r
  chain zero from [] seen r z is turns begins long governed same = record { seen = seen; begins = begins; long = omega (arith, long); z = z; governed = governed; moved = record { reached = r; follows = refl; same = same } }
  chain zero from (p ∷ order) seen r z is turns begins long governed same = absurd (cc)
  chain (suc count) from [] seen r z is turns begins long governed same = absurd (cc)
  chain (suc count) from (p ∷ order) seen r z is turns begins long governed same =
      let one = first_place p order from (suc count) is in
      let turn : UberTurnAt p = All-head UberTurnAt p order turns in
      let place : p.0 ≡ from = one.2 in
      let here : seen ≡ turn.log = front_same seen turn.log begins.0 (turn.left ∷ turn.begins.0) (sym begins.1 ∙ (turn.begins.1 ∙ assoc turn.log turn.left turn.begins.0)) (let a = turn.place_is in omega (arith, a, long, place)) in
      let went = turn.goes z (subst (λ s. IsGoverned rack area x (left_by lock.first s) z) here governed) in
      let moved : Moved p.1 r went.0 = moves p.1 r z went.0 turn.of_uber same went.2 in
      let next_long : length (turn.log ++ turn.left ∷ []) ≡ suc from = longer turn.log turn.left ∙ ap suc (sym turn.place_is ∙ place) in
      let rest = chain count (suc from) order (turn.log ++ turn.left ∷ []) moved.reached went.1 (rest_places count one) (All-tail UberTurnAt p order turns) turn.begins next_long
      (subst (λ c. IsGoverned rack area x c went.1) (sym (left_append lock.first turn.log (turn.left ∷ []))) went.4) (same_then moved.reached went.0 went.1 moved.same went.3) in
      let long' = rest.long in
      record {
        seen = rest.seen;
        begins = rest.begins;
        long = omega (arith, long');
        z = rest.z;
        governed = rest.governed;
        moved = record {
          reached = rest.moved.reached;
          follows = subst (λ hs. Follows hs r rest.moved.reached) (sym (flat_map-cons done_in p order)) (follows_on p.1 (flat_map done_in order) r moved.reached rest.moved.reached moved.follows rest.moved.follows);
          same = rest.moved.same;
        };
      }
    where
      assoc : (xs : List (Past (UberCell R A))) (v : Past (UberCell R A)) (more : List (Past (UberCell R A))) → (xs ++ v ∷ []) ++ more ≡ xs ++ v ∷ more
      assoc [] v more = refl
      assoc (w ∷ xs) v more = ap (λ l. w ∷ l) (assoc xs v more)

      rest_places : (n : ℕ) (one : (k : ℕ) × (suc n ≡ suc k) × (p.0 ≡ from) × (places_of order ≡ places (suc from) k)) → places_of order ≡ places (suc from) n
      rest_places n (k, same, place, rest) = (let e : k ≡ n = omega (arith, same) in rest ∙ ap (places (suc from)) e)

  -- what the pool came to behind all turns of the uberblock's lock, as far as that goes, and that they all come together there
  pub record UberTogether (lanes : List (List Hold)) : Type 0 where
    pub z : State
    pub governed : IsGoverned rack area x (left_by lock.first log) z
    pub together : (new : State) → SameAt None z new → TogetherAt None lanes x new

  module _ (begun : IsGoverned rack area x lock.first x) (lists : List (List LaneTurn)) (lanes : List (List Hold)) (same : map (holds_of None) lanes ≡ map holds_in lists) (once : (p : ℕ) → all_times p lists ≡ one_within 0 (length log) p)
      (ascend : (i : ℕ) (turns : List LaneTurn) → slice_get lists i ≡ Some turns → Ascends (places_in turns))
      (each : (i : ℕ) (turns : List LaneTurn) → slice_get lists i ≡ Some turns → (turn : LaneTurn) → Contains turns turn → IsUberTurn rack area x lock log turn.place turn.holds) where
    one : OneList UberTurnAt lists (length log)
    one = one_list UberTurnAt lists (length log) once ascend each

    all : Reached 0 (length log) one.order x
    all = chain (length log) 0 one.order [] x x one.at one.so (log, refl) refl begun (same_self x)

    pub uber_together : UberTogether lanes
    uber_together = record {
      z = all.z;
      governed = subst (λ s. IsGoverned rack area x (left_by lock.first s) all.z) (front_all log all.seen all.begins (let long = all.long in omega (arith, long))) all.governed;
      together = λ new new_is. record {
        order = flat_map done_in one.order;
        merged = subst (λ ls. IsMerged ls (flat_map done_in one.order)) (sym same) one.merged;
        reached = all.moved.reached;
        follows = all.moved.follows;
        same = same_then all.moved.reached all.z new all.moved.same new_is;
      };
    }
