-- A turn of a metaslab's lock in which a lane makes several of the session's holds, one after another.
use Rattle.std.proofs.Common.{◌≡◌, ◌==◌, ◌<◌, ◌≤◌, ◌++◌, ◌∷◌, ◌∙◌, [], inr, ℕ, zero, suc, Bool, true, false, List, Some, None, Contains, arith, refl, sym, ap, subst, length, slice_set, eq-eqb, ne_eqb, if◌then◌else◌}
use mathlib.Core.Logic.{dite}
use native.Mathlib.Decide.{ℕ_discrete}
use Rattle.std.specs.Prelude.{cond, slice_get, slice_index_or}
use Rattle.std.proofs.lemmas.List.{append-nil, append_assoc, length-append}
use Rattle.std.proofs.lemmas.List.Elements.{All-cons, All-nil}
use Rattle.draid_names.specs.declared.pass_kind.PassKind.{PassKind}
use Rattle.draid_names.specs.declared.pass_kind.PassKind.TheVariants.{Heal}
use Rattle.draid_rack.specs.declared.Rack as racks
use Rattle.draid_area.specs.declared.Area as areas
use Rattle.draid_machine.specs.State as machine
use Rattle.draid_machine.proofs.Small.{none_some}
use Rattle.draid_segments.specs.Segments.{Pieces}
use Rattle.draid_session.specs.Holds.{Hold}
use Rattle.draid_session.specs.Lanes.{holds_of, is_of}
use Rattle.draid_session.specs.State.{Metaslab, State}
use Rattle.draid_shard.specs.Part.{layout_in}
use Rattle.draid_shard.specs.declared.shard.Shard.{Shard}
use Rattle.draid_turn.specs.Calls.{Caller, Lock}
use Rattle.draid_turn.specs.Lists.{StartsWith}
use Rattle.draid_turn.specs.declared.past.Past.{Past}
use Rattle.draid_pool.specs.Bytes.{HaveBytes}
use Rattle.draid_pool.specs.Drifts.{KeepsBytes}
use Rattle.draid_pool.specs.Metaslabs.{IsMetaslab}
use Rattle.draid_pool.specs.Pools.{part_in}
use Rattle.draid_pool.specs.Shards.{FollowsIn}
use Rattle.draid_pool.specs.declared.cell.Cell.{Cell}
use Rattle.draid_pool.proofs.Holding.{some_same}
use Rattle.draid_pool.proofs.Places.{get_set_other, get_set_same, set_length}
use Rattle.draid_pool.proofs.ShardSteps.{follows_since}
use Rattle.draid_visits.specs.Steps.{HadContents}
use Rattle.draid_lanes.specs.Governing.{lane_last}
use Rattle.draid_lanes.specs.Locks.{Went, left_in}
use Rattle.draid_lanes.specs.Traces.{IsShardTurn, LaneTurn, holds_in}
use Rattle.draid_lanes.specs.Waits.{LaneWent}
use Rattle.draid_lanes.specs.declared.locked.Locked.{Locked}
use Rattle.draid_lanes.proofs.Drifted.{left_append}
use Rattle.draid_lanes.proofs.OneTurn.{CameTo, HasCame, Once, came_at, came_on, found_came, gone, only_at}
use Rattle.draid_lanes.proofs.RoundWords.{Says, said_as}
use Rattle.draid_lanes.proofs.Tracing.{PassWent, Traced, starts_self, went_none}
use Rattle.draid_works.proofs.MendSees.{Seen, found_had}

-- ---- holds of one metaslab

-- they are those of its lock alone
holds_there : (l : machine.Layout) (m k : ℕ) (t : Bool) → (m == k) ≡ t → (hs : List Hold) (y z : Metaslab) → FollowsIn l m hs y z → holds_of (Some k) hs ≡ (if t then hs else [])
holds_there l m k true is [] y z f = refl
holds_there l m k false is [] y z f = refl
holds_there l m k true is (h ∷ hs) y z f = ap (λ b. cond b (h ∷ holds_of (Some k) hs) (holds_of (Some k) hs)) (ap (is_of (Some k)) f.2 ∙ is) ∙ ap (λ l. h ∷ l) (holds_there l m k true is hs f.1 z f.4)
holds_there l m k false is (h ∷ hs) y z f = ap (λ b. cond b (h ∷ holds_of (Some k) hs) (holds_of (Some k) hs)) (ap (is_of (Some k)) f.2 ∙ is) ∙ holds_there l m k false is hs f.1 z f.4

holds_none : (l : machine.Layout) (m : ℕ) (hs : List Hold) (y z : Metaslab) → FollowsIn l m hs y z → holds_of None hs ≡ []
holds_none l m [] y z f = refl
holds_none l m (h ∷ hs) y z f = ap (λ b. cond b (h ∷ holds_of None hs) (holds_of None hs)) (ap (is_of None) f.2) ∙ holds_none l m hs f.1 z f.4

-- What holds are told to do to a metaslab, whatever that stood for. Where all blocks had bytes by these pieces, they have them then.
pub record LedTo {R A : Type 0} (rack : racks.Ghosts R) (area : areas.Ghosts A) (x : State) (m : ℕ) (before : Pieces) (y : Metaslab) (after : Shard R A) (told : List Hold → Type 0) : Type 0 where
  pub holds : List Hold
  pub reached : Metaslab
  pub pieces : Pieces
  pub follows : FollowsIn (layout_in (part_in x m)) m holds y reached
  pub done : told holds
  pub is : IsMetaslab rack area (part_in x m) pieces after reached
  pub bytes : HaveBytes (part_in x m).geometry before y → HaveBytes (part_in x m).geometry pieces reached

-- so it is of a scrub where the metaslab's blocks had bytes
abbrev pub TellsMany : {R A : Type 0} → racks.Ghosts R → areas.Ghosts A → State → ℕ → PassKind → (List Hold → Type 0) → Shard R A → Shard R A → Type 0
TellsMany rack area x m kind told before after =
    (pieces : Pieces) (y : Metaslab) → IsMetaslab rack area (part_in x m) pieces before y → LedTo rack area x m pieces y after (λ hs. (kind ≡ Heal → HadContents rack area (part_in x m) before y) → told hs)

-- ---- the turn

module _ {R A G W : Type 0} (rack : racks.Ghosts R) (area : areas.Ghosts A) (x : State) (a b : Locked R A G W) (m : ℕ) (before after : Shard R A) (goes : LaneWent rack area a m before after b) (found reached : Metaslab) (came_found : CameTo rack area x m before found)
    (came_left : CameTo rack area x m after reached) (hs : List Hold) (follows : FollowsIn (layout_in (part_in x m)) m hs found reached)
    (bytes : KeepsBytes rack area (part_in x m) before found after) where
  abbrev w : Went rack area a.turns.now a.passes.items m before after b.passes.items
  w = goes.1

  abbrev pub many_turn : LaneTurn
  many_turn = record { place = length w.log; holds = hs }

  behind_is : left_in w.lock (w.log ++ w.left ∷ []) ≡ after
  behind_is = ap (λ (c : Cell R A). c.shard) (left_append w.lock.first w.log (w.left ∷ [])) ∙ w.left_is

  its_turn : IsShardTurn rack area x w.lock w.next.seen m (length w.log) hs
  its_turn = record {
    log = w.log;
    left = w.left;
    place_is = refl;
    begins = subst (λ seen. StartsWith seen (w.log ++ w.left ∷ [])) (sym w.seen) (starts_self (w.log ++ w.left ∷ []));
    found = found;
    reached = reached;
    found_is = came_at rack area x w.lock w.log m before found (sym w.found) came_found;
    reached_is = came_at rack area x w.lock (w.log ++ w.left ∷ []) m after reached behind_is came_left;
    follows = follows;
    bytes = subst (λ (q : Shard R A × Shard R A). KeepsBytes rack area (part_in x m) q.0 found q.1) (λ i. (w.found i, sym w.left_is i)) bytes;
  }

  below_next : length w.log < length w.next.seen
  below_next = (let all = ap length w.seen ∙ length-append w.log (w.left ∷ []) in omega (arith, all))

  from_seen : length w.pass.seen ≤ length w.log
  from_seen = (let all = ap length w.behind ∙ length-append w.pass.seen w.unseen in omega (arith, all))

  one_in : (other : LaneTurn) → Contains (many_turn ∷ []) other → many_turn ≡ other
  one_in other among = by among.0 among.1 among.2
    where
      by : (k : ℕ) → k < 1 → slice_index_or (many_turn ∷ []) k other ≡ other → many_turn ≡ other
      by zero less is = is
      by (suc k) less is = absurd (omega (arith, less))

  went_many : PassWent rack area x w.lock m w.pass w.next (many_turn ∷ [])
  went_many = record {
    own = w.own;
    seen = (w.unseen ++ w.left ∷ [], w.seen ∙ (ap (λ l. l ++ w.left ∷ []) w.behind ∙ append_assoc w.pass.seen w.unseen (w.left ∷ [])));
    above = All-cons (λ place. length w.pass.seen ≤ place) (length w.log) [] from_seen (All-nil (λ place. length w.pass.seen ≤ place));
    below = All-cons (λ place. place < length w.next.seen) (length w.log) [] below_next (All-nil (λ place. place < length w.next.seen));
    ascends = (tt, tt);
    ends = inr (record { front = []; last = many_turn; are = refl; log = w.log; left = w.left; place_is = refl; seen_is = w.seen });
    shards = λ other among. subst (λ (u : LaneTurn). IsShardTurn rack area x w.lock w.next.seen m u.place u.holds) (one_in other among) its_turn;
  }

  only_here : only_at m (many_turn ∷ []) m ≡ many_turn ∷ []
  only_here = ap (λ t. if t then many_turn ∷ [] else []) (eq-eqb m m refl)

  only_other : (k : ℕ) → (k ≡ m → ⊥) → only_at m (many_turn ∷ []) k ≡ []
  only_other k not = ap (λ t. if t then many_turn ∷ [] else []) (ne_eqb m k (λ same. not (sym same)))

  -- what became of a pass
  abbrev Went_at : ℕ → Type 0
  Went_at k = (pass : Caller (Past (Cell R A))) → slice_get a.passes.items k ≡ Some pass → (lock : Lock (Cell R A)) → slice_get a.turns.now k ≡ Some lock
      → (next : Caller (Past (Cell R A))) × (slice_get (slice_set a.passes.items m w.next) k ≡ Some next) × PassWent rack area x lock k pass next (only_at m (many_turn ∷ []) k)

  here : Went_at m
  here pass at lock there = (
    w.next,
    get_set_same a.passes.items m w.pass w.next w.pass_is,
    subst (λ (z : Lock (Cell R A) × Caller (Past (Cell R A))). PassWent rack area x z.0 m z.1 w.next (only_at m (many_turn ∷ []) m))
        (λ i. (some_same w.lock lock (sym w.lock_is ∙ there) i, some_same w.pass pass (sym w.pass_is ∙ at) i)) (subst (PassWent rack area x w.lock m w.pass w.next) (sym only_here) went_many),
  )

  away : (k : ℕ) → (k ≡ m → ⊥) → Went_at k
  away k not pass at lock there = (pass, get_set_other a.passes.items m k w.next not ∙ at, subst (PassWent rack area x lock k pass pass) (sym (only_other k not)) (went_none rack area x lock k pass))

  each_at : (k : ℕ) → Went_at k
  each_at k = dite (ℕ_discrete k m) (λ same. subst Went_at (sym same) here) (λ not. away k not)

  lost : (k : ℕ) → slice_get a.passes.items k ≡ None → k ≡ m → ⊥
  lost k none same = none_some (slice_get a.passes.items k) w.pass none (ap (slice_get a.passes.items) same ∙ w.pass_is)

  same_at : (t : Bool) → (if t then hs else []) ≡ holds_in (if t then many_turn ∷ [] else [])
  same_at true = sym (append-nil hs)
  same_at false = refl

  pub traced_many : Traced rack area x a b (only_at m (many_turn ∷ [])) hs []
  traced_many = record {
    locks = goes.0;
    many = ap length w.sets ∙ set_length a.passes.items m w.next;
    same = λ k. holds_there (layout_in (part_in x m)) m k (m == k) refl hs found reached follows ∙ same_at (m == k);
    of_uber = holds_none (layout_in (part_in x m)) m hs found reached follows;
    none = λ k none. only_other k (lost k none);
    each = λ k pass at lock there. (let z = each_at k pass at lock there in (z.0, ap (λ ps. slice_get ps k) w.sets ∙ z.1, z.2));
    absent = λ k none. ap (λ ps. slice_get ps k) w.sets ∙ (get_set_other a.passes.items m k w.next (lost k none) ∙ none);
  }

-- ---- one of a command that is made over holds

module _ {R A G W : Type 0} (rack : racks.Ghosts R) (area : areas.Ghosts A) (x : State) (owns : ℕ → Bool) (does : Shard R A → Shard R A → Type 0) (told : List Hold → Type 0) (a : Locked R A G W) (m : ℕ) (b : Locked R A G W) (h : Once rack area x owns does a m b) (came : HasCame rack area x a) where
  module _ (t : LedTo rack area x m (gone rack area x owns does a m b h came).now (gone rack area x owns does a m b h came).reached h.after told) (bytes : KeepsBytes rack area (part_in x m) h.before (gone rack area x owns does a m b h came).reached h.after) where
    abbrev found : Metaslab
    found = (gone rack area x owns does a m b h came).reached

    left_came : CameTo rack area x m h.after t.reached
    left_came = came_on rack area x m h.before h.after found t.reached t.pieces (found_came rack area x owns does a m b h came) t.is (follows_since (layout_in (part_in x m)) m t.holds found t.reached t.follows)

    came_many : HasCame rack area x b
    came_many k shard at = dite (ℕ_discrete k m)
        (λ same.
        let is : h.after ≡ shard = some_same h.after shard (sym (h.is m ∙ ap (λ t. if t then Some h.after else lane_last a m) (eq-eqb m m refl)) ∙ (ap (lane_last b) (sym same) ∙ at)) in
        (t.reached, subst (λ j. CameTo rack area x j shard t.reached) (sym same) (subst (λ s. CameTo rack area x m s t.reached) is left_came)))
        (λ not. came k shard (sym (h.is k ∙ ap (λ t. if t then Some h.after else lane_last a k) (ne_eqb k m not)) ∙ at))

    pub said_led : Says rack area x a b [] told
    said_led = record {
      turns = only_at m (many_turn rack area x a b m h.before h.after h.goes found t.reached (found_came rack area x owns does a m b h came) left_came t.holds t.follows bytes ∷ []);
      holds = t.holds;
      traced = traced_many rack area x a b m h.before h.after h.goes found t.reached (found_came rack area x owns does a m b h came) left_came t.holds t.follows bytes;
      done = t.done;
      came = came_many;
    }

module _ {R A G W : Type 0} (rack : racks.Ghosts R) (area : areas.Ghosts A) (x : State) (owns : ℕ → Bool) (kind : PassKind) (does : Shard R A → Shard R A → Type 0) (told : List Hold → Type 0) (a : Locked R A G W) (m : ℕ) (b : Locked R A G W) (h : Once rack area x owns does a m b)
    (came : HasCame rack area x a) where
  abbrev had : Metaslab → Type 0
  had y = kind ≡ Heal → HadContents rack area (part_in x m) h.before y

  -- so the hold leaves blocks their bytes
  many_bytes : (y : Metaslab) → TellsMany rack area x m kind told h.before h.after → KeepsBytes rack area (part_in x m) h.before y h.after
  many_bytes y tells pieces is has =
      let t = tells pieces y is in
      record { reached = t.reached; pieces = t.pieces; is = t.is; since = follows_since (layout_in (part_in x m)) m t.holds y t.reached t.follows; has = t.bytes has }

  pub said_many : TellsMany rack area x m kind told h.before h.after → Says rack area x a b [] (Seen rack area x kind b told)
  said_many tells =
      let g = gone rack area x owns does a m b h came in
      said_as rack area x a b [] (λ hs. had g.reached → told hs) (Seen rack area x kind b told)
      (said_led rack area x owns does (λ hs. had g.reached → told hs) a m b h came (tells g.now g.reached g.is) (many_bytes g.reached tells))
      (λ hs d saw. d (λ heal. found_had rack area x a b m h.before h.after g.reached h.goes (found_came rack area x owns does a m b h came) (saw heal)))
