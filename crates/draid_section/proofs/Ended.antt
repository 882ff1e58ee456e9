-- A pool that is put together again of what lanes left is whole.
use Rattle.std.proofs.Common.{◌≡◌, ◌<◌, ◌≤◌, ◌+◌, ◌∙◌, ◌⊎◌, inl, inr, arith, ℕ, zero, suc, Bool, true, List, [], ◌∷◌, Option, Some, None, All, length, sym, ap, subst}
use Rattle.std.specs.Prelude.{slice_get, nat_eq}
use Rattle.std.specs.declared.vec.Vec.{Vec}
use Rattle.std.specs.declared.alloc.Global.{Global}
use Rattle.std.proofs.lemmas.List.Elements.{All-head, All-tail}
use Rattle.std.proofs.lemmas.Option.{slice_get_within}
use Rattle.draid_names.specs.declared.numbers.TheConstants.{LAST_NUMBER, OBJECTS}
use Rattle.draid_names.specs.declared.pointer.Pointer.{Pointer}
use Rattle.draid_rack.specs.declared.Rack as racks
use Rattle.draid_area.specs.declared.Area as areas
use Rattle.draid_spec.specs.declared.layout.Geometry.{Geometry}
use Rattle.draid_map.specs.Place.{IsLayout}
use Rattle.draid_machine.specs.declared.names.Held.{Held}
use Rattle.draid_machine.specs.declared.names.Key.{Key}
use Rattle.draid_machine.specs.Names.{is_block}
use Rattle.draid_entries.specs.Entries.{held_in}
use Rattle.draid_shard.specs.Alike.{ShareArms}
use Rattle.draid_shard.specs.Fits.{IsLeaf, Valid}
use Rattle.draid_shard.specs.Looks.{IsLive}
use Rattle.draid_shard.specs.Part.{Part}
use Rattle.draid_shard.specs.declared.shard.Shard.{Shard}
use Rattle.draid_shard.proofs.Held.{held_entry}
use Rattle.draid_turn.specs.Calls.{Caller, Lock}
use Rattle.draid_turn.specs.Numbers.{holds}
use Rattle.draid_turn.specs.declared.past.Past.{Past}
use Rattle.draid_holds.specs.Passes.{ClosesEach, FollowsOwn}
use Rattle.draid_uber.specs.Slots.{group_of}
use Rattle.draid_uber.specs.Uber as ubers
use Rattle.draid_uber.specs.declared.uber.Uber.{Uber}
use Rattle.draid_pool.specs.Drifts.{Drifts, groups_number}
use Rattle.draid_pool.specs.Threads.{IsHeldBy, IsNear, all_of}
use Rattle.draid_pool.specs.Whole.{IsPointer, IsShardOf, IsWhole}
use Rattle.draid_pool.specs.declared.cell.Cell.{Cell}
use Rattle.draid_pool.specs.declared.own.Own.{Own}
use Rattle.draid_pool.specs.declared.pool.Pool.{Pool}
use Rattle.draid_pool.proofs.Arms.{share_both}
use Rattle.draid_pool.proofs.HeldBy.{held_drifts}
use Rattle.draid_pool.proofs.Holding.{some_same}
use Rattle.draid_pool.proofs.Lists.{present, some_of}
use Rattle.draid_pool.proofs.ShardSteps.{live_on}
use Rattle.draid_lanes.specs.Locks.{Step, last_in, last_of, left_in, owned_by}
use Rattle.draid_section.specs.Opening.{passes_at, with_pass}
use Rattle.draid_section.specs.Whole.{LaneEnded, IsGathered, IsOfLane, IsOfPool, LanesEnded, pointer_of}
use Rattle.draid_section.proofs.Beginning.{first_is, some_locks}
use Rattle.draid_lanes.proofs.Drifted.{drifts_found}
use Rattle.draid_lanes.proofs.Held.{has_place, owned_at}
use Rattle.draid_lanes.proofs.SyncUnder.{groups_in, owned_all}
use Rattle.draid_checkpoint.specs.Check.{Point}
use Rattle.draid_pool.proofs.Nears.{open_upto}
use Rattle.draid_pool.proofs.Wholes.{fits_none}
use Rattle.draid_machine.proofs.Small.{none_some}
use Rattle.std.specs.HashMap.{get}

-- ---- the passes of one metaslab

module _ {R A : Type 0} (P : Caller (Past (Cell R A)) → Type 0) (m : ℕ) where
  rest_all : (o : Option (Caller (Past (Cell R A)))) (passes : List (Caller (Past (Cell R A)))) → All P (with_pass o passes) → All P passes
  rest_all None passes all = all
  rest_all (Some pass) passes all = All-tail P pass passes all

  -- what is so of all of them is so of that of one list
  pub passes_all : (lists : List (Vec (Caller (Past (Cell R A))) Global)) → All P (passes_at m lists) → (k : ℕ) (list : Vec (Caller (Past (Cell R A))) Global) (pass : Caller (Past (Cell R A))) → slice_get lists k ≡ Some list → slice_get list.items m ≡ Some pass → P pass
  passes_all [] all k list pass k_is there = absurd (cc)
  passes_all (l ∷ lists) all zero list pass k_is there =
      let is : slice_get l.items m ≡ Some pass = ap (λ (v : Vec (Caller (Past (Cell R A))) Global). slice_get v.items m) (some_same l list k_is) ∙ there in
      All-head P pass (passes_at m lists) (subst (λ o. All P (with_pass o (passes_at m lists))) is all)
  passes_all (l ∷ lists) all (suc k) list pass k_is there = passes_all lists (rest_all (slice_get l.items m) (passes_at m lists) all) k list pass k_is there

-- ---- what others made of a metaslab since a thread left it

module _ {R A : Type 0} (rack : racks.Ghosts R) (area : areas.Ghosts A) (pool : Pool R A) (locks : List (Lock (Cell R A))) (rests : List (Caller (Past (Cell R A)))) (lanes : List (Vec (Caller (Past (Cell R A))) Global)) (owns : List Own) (uber : Uber A) (shards : List (Shard R A))
    (e : LanesEnded rack area pool locks rests lanes owns uber shards) where
  -- a metaslab that was taken out of its lock
  pub record IsTaken (m : ℕ) (shard : Shard R A) : Type 0 where
    pub lock : Lock (Cell R A)
    pub lock_is : slice_get locks m ≡ Some lock
    pub rest : Caller (Past (Cell R A))
    pub rest_is : slice_get rests m ≡ Some rest
    pub value : Cell R A
    pub value_is : value.shard ≡ shard
    pub closes : ClosesEach (Step rack area) lock.first rest (passes_at m e.lists) value

  pub taken : (m : ℕ) (shard : Shard R A) → slice_get shards m ≡ Some shard → IsTaken m shard
  taken m shard at =
      let inside = slice_get_within shards m shard at in
      let many = e.unlocked.many in
      let many_rests = e.many_rests in
      let lock = present locks m (omega (arith, inside, many)) in
      let rest = present rests m (omega (arith, inside, many, many_rests)) in
      let z = e.unlocked.each m lock.0 rest.0 lock.1 rest.1 in
      record { lock = lock.0; lock_is = lock.1; rest = rest.0; rest_is = rest.1; value = z.0; value_is = some_of (slice_get shards m) z.0.shard shard z.1 at; closes = z.2 }

  -- each metaslab is there
  taken_at : (m : ℕ) (lock : Lock (Cell R A)) → slice_get locks m ≡ Some lock → (shard : Shard R A) × (slice_get shards m ≡ Some shard)
  taken_at m lock lock_is = present shards m (let inside = slice_get_within locks m lock lock_is in let many = e.unlocked.many in omega (arith, inside, many))

  -- a pass has seen a metaslab, and what it came to since
  pub record WasSeen (passes : List (Caller (Past (Cell R A)))) (m : ℕ) (shard : Shard R A) : Type 0 where
    pub lock : Lock (Cell R A)
    pub pass : Caller (Past (Cell R A))
    pub lock_is : slice_get locks m ≡ Some lock
    pub pass_is : slice_get passes m ≡ Some pass
    pub drifts : Drifts rack area true (owned_by passes) (left_in lock pass.seen) shard

  since_seen : (passes : List (Caller (Past (Cell R A)))) (m : ℕ) (shard : Shard R A) (t : IsTaken m shard) (pass : Caller (Past (Cell R A))) → slice_get passes m ≡ Some pass → FollowsOwn t.closes.log pass
      → Drifts rack area true (owned_by passes) (left_in t.lock pass.seen) shard
  since_seen passes m shard t pass pass_is follows = subst (λ (s : Shard R A). Drifts rack area true (owned_by passes) (left_in t.lock pass.seen) s) t.value_is
      (drifts_found rack area (owned_by passes) pass.numbers t.lock.first pass.seen follows.unseen t.closes.log t.value (λ n own. owned_at passes m n pass pass_is own)
      (first_is rack area pool e.whole locks e.firsts e.locked m t.lock t.lock_is).valid t.closes.stood.steps follows.begins t.closes.stood.is follows.foreign)

  list_seen : (k : ℕ) (list : Vec (Caller (Past (Cell R A))) Global) → slice_get e.lists k ≡ Some list → length list.items ≡ length locks → (m : ℕ) (shard : Shard R A) → slice_get shards m ≡ Some shard → WasSeen list.items m shard
  list_seen k list k_is many m shard at =
      let t = taken m shard at in
      let pass = present list.items m (let inside = slice_get_within locks m t.lock t.lock_is in omega (arith, inside, many)) in
      record {
        lock = t.lock;
        pass = pass.0;
        lock_is = t.lock_is;
        pass_is = pass.1;
        drifts = since_seen list.items m shard t pass.0 pass.1 (passes_all (FollowsOwn t.closes.log) m e.lists t.closes.follows k list pass.0 k_is pass.1);
      }

  -- a metaslab that came from what it was
  pub record CameFrom (mine : ℕ → Bool) (m : ℕ) (was : Shard R A) : Type 0 where
    pub shard : Shard R A
    pub there : slice_get shards m ≡ Some shard
    pub drifts : Drifts rack area true mine was shard

  -- ---- what no lane holds

  rest_first : (m : ℕ) (lock : Lock (Cell R A)) (rest : Caller (Past (Cell R A))) → slice_get rests m ≡ Some rest → left_in lock rest.seen ≡ lock.first.shard
  rest_first m lock rest rest_is = ap (left_in lock) (e.rests_new m rest rest_is)

  pub rest_drifts : (m : ℕ) (shard : Shard R A) (t : IsTaken m shard) → Drifts rack area true (owned_by rests) t.lock.first.shard shard
  rest_drifts m shard t = subst (λ (s : Shard R A). Drifts rack area true (owned_by rests) s shard) (rest_first m t.lock t.rest t.rest_is) (since_seen rests m shard t t.rest t.rest_is t.closes.first_follows)

  rest_came : (m : ℕ) (was : Shard R A) → slice_get pool.metaslabs.shards.items m ≡ Some was → CameFrom (owned_by rests) m was
  rest_came m was at =
      let z = e.locked.each m was at in
      let now = taken_at m z.0 z.1 in
      let t = taken m now.0 now.1 in
      let same : t.lock ≡ z.0 = some_of (slice_get locks m) t.lock z.0 t.lock_is z.1 in
      record {
        shard = now.0;
        there = now.1;
        drifts = subst (λ (s : Shard R A). Drifts rack area true (owned_by rests) s now.0) (ap (λ (l : Lock (Cell R A)). l.first.shard) same ∙ z.2) (rest_drifts m now.0 t);
      }

  -- ---- what a lane holds

  module _ (i : ℕ) (lane : Vec (Caller (Past (Cell R A))) Global) (own : Own) (lane_is : slice_get lanes i ≡ Some lane) (own_is : slice_get owns i ≡ Some own) where
    abbrev has : LaneEnded rack area locks lane.items own
    has = e.each i lane own lane_is own_is

    pub lane_seen : (m : ℕ) (shard : Shard R A) → slice_get shards m ≡ Some shard → WasSeen lane.items m shard
    lane_seen = (let k = e.lanes_in i lane lane_is in list_seen k.0 lane k.1 has.fits.many)

    lane_came : (m : ℕ) (was : Shard R A) → last_in locks lane.items m ≡ Some was → CameFrom (owned_by lane.items) m was
    lane_came m was at =
        let place = has_place locks lane.items m was at in
        let now = taken_at m place.lock place.lock_is in
        let s = lane_seen m now.0 now.1 in
        let same : left_in s.lock s.pass.seen ≡ was = some_of (last_in locks lane.items m) (left_in s.lock s.pass.seen) was (λ j. last_of (s.lock_is j) (s.pass_is j)) at in
        record { shard = now.0; there = now.1; drifts = subst (λ (x : Shard R A). Drifts rack area true (owned_by lane.items) x now.0) same s.drifts }

    lane_held : (m : ℕ) (shard : Shard R A) → slice_get shards m ≡ Some shard → IsHeldBy rack (all_of (owned_by lane.items) m) own.seq shard
    lane_held m shard at =
        let s = lane_seen m shard at in
        let was = has.whole.shards m (left_in s.lock s.pass.seen) (λ j. last_of (s.lock_is j) (s.pass_is j)) in
        held_drifts rack (all_of (owned_by lane.items) m) own.seq (left_in s.lock s.pass.seen) shard s.drifts.valid was (owned_by lane.items) shard.committed (λ k mine. mine) s.drifts.own

  -- what a lane has of its own objects is there
  own_of : (i : ℕ) (lane : Vec (Caller (Past (Cell R A))) Global) → slice_get lanes i ≡ Some lane → (own : Own) × (slice_get owns i ≡ Some own)
  own_of i lane lane_is = present owns i (let inside = slice_get_within lanes i lane lane_is in let many = e.many in omega (arith, inside, many))

  lane_of : (i : ℕ) (own : Own) → slice_get owns i ≡ Some own → (lane : Vec (Caller (Past (Cell R A))) Global) × (slice_get lanes i ≡ Some lane)
  lane_of i own own_is = present lanes i (let inside = slice_get_within owns i own own_is in let many = e.many in omega (arith, inside, many))

  -- ---- each metaslab

  module _ (m : ℕ) (shard : Shard R A) (at : slice_get shards m ≡ Some shard) where
    abbrev t : IsTaken m shard
    t = taken m shard at

    abbrev first : IsShardOf rack e.whole.perms pool m t.lock.first.shard
    first = first_is rack area pool e.whole locks e.firsts e.locked m t.lock t.lock_is

    abbrev from_first : Drifts rack area true (owned_by rests) t.lock.first.shard shard
    from_first = rest_drifts m shard t

    rest_held : IsHeldBy rack (all_of (owned_by rests) m) pool.own.seq shard
    rest_held = held_drifts rack (all_of (owned_by rests) m) pool.own.seq t.lock.first.shard shard from_first.valid
        (record { valid = first.valid; numbered = λ key h own. first.numbered key h; settled = λ key h own. first.settled key h }) (owned_by rests) shard.committed (λ k mine. mine) from_first.own

    -- each block is of an object that a lane holds, or none does
    small : (key : Key) (h : Held) → held_in shard.entries key ≡ Some h → key.object < OBJECTS
    small key h there =
        let z = held_entry shard.entries key h there in
        subst (λ (k : Key). k.object < OBJECTS) z.key_is (from_first.valid.tables.placed h.first z.e z.there).is_block.object_small

    pub settled_is : (key : Key) (h : Held) → held_in shard.entries key ≡ Some h → is_block h.stage ≡ true
    settled_is key h there = elim (e.all key.object (small key h there)) [
      | inl mine ↦ rest_held.settled key h mine there
      | inr z ↦ (let own = own_of z.0 z.1 z.2 in (lane_held z.0 z.1 own.0 z.2 own.1 m shard at).settled key h z.3 there)
    ]

    pub numbered_is : (seq : ℕ) → pool.own.seq ≤ seq → ((i : ℕ) (own : Own) → slice_get owns i ≡ Some own → own.seq ≤ seq) → (key : Key) (h : Held) → held_in shard.entries key ≡ Some h → key.seq ≤ seq
    numbered_is seq pool_seq lane_seq key h there = elim (e.all key.object (small key h there)) [
      | inl mine ↦ (let low = rest_held.numbered key h mine there in omega (arith, low, pool_seq))
      | inr z ↦
          let own = own_of z.0 z.1 z.2 in
          let low = (lane_held z.0 z.1 own.0 z.2 own.1 m shard at).numbered key h z.3 there in
          let up = lane_seq z.0 own.0 own.1 in
          omega (arith, low, up)
    ]

    -- ---- groups

    pub governed : WasSeen e.groups.items m shard
    governed = list_seen e.groups_in.0 e.groups e.groups_in.1 e.governs.fits.many m shard at

    pub groups_owned : owned_by e.groups.items groups_number ≡ true
    groups_owned = owned_all e.groups.items groups_number (λ n pass pass_is. ap (holds groups_number) (e.governs.alone n pass pass_is).0 ∙ groups_in)

    pub committed_is : shard.committed ≡ group_of (ubers.kept_of uber)
    committed_is =
        let s = governed in
        let next = (e.governs.next m s.lock s.pass s.lock_is s.pass_is).next in
        let same = (s.drifts.groups groups_owned).groups.committed in
        omega (arith, next, same)

    pub leaves_are : (leaf : ℕ) → IsLeaf shard.slots leaf → leaf < ubers.next_leaf_of uber
    leaves_are leaf is = (let s = governed in e.governs.leaves m s.lock s.pass s.lock_is s.pass_is leaf ((s.drifts.groups groups_owned).leaves leaf is))

  pub alike : (m n : ℕ) (a b : Shard R A) → slice_get shards m ≡ Some a → slice_get shards n ≡ Some b → ShareArms a.slots b.slots
  alike m n a b at there =
      let x = governed m a at in
      let y = governed n b there in
      share_both (left_in x.lock x.pass.seen).slots (left_in y.lock y.pass.seen).slots a.slots b.slots (x.drifts.groups (groups_owned m a at)).arms (y.drifts.groups (groups_owned n b there)).arms
      (e.governs.alike m n x.lock y.lock x.pass y.pass x.lock_is x.pass_is y.lock_is y.pass_is)

  -- each metaslab is valid
  pub valid_is : (m : ℕ) (shard : Shard R A) → slice_get shards m ≡ Some shard → Valid rack shard
  valid_is m shard at = (from_first m shard at).valid

  -- what a lane has a pointer of is a live block of one of them
  pub lane_live : (i : ℕ) (own : Own) → slice_get owns i ≡ Some own → (object : ℕ) (pointer : Pointer) → pointer_of own object ≡ Some pointer
      → (pointer.object ≡ object) × ((shard : Shard R A) × (slice_get shards pointer.metaslab ≡ Some shard) × IsLive shard pointer)
  lane_live i own own_is object pointer at =
      let lane = lane_of i own own_is in
      let had = (has i lane.0 own lane.1 own_is).whole.pointers object pointer at in
      let came = lane_came i lane.0 own lane.1 own_is pointer.metaslab had.shard had.there in
      let live = live_on rack area (owned_by lane.0.items) came.shard.committed had.shard came.shard pointer had.valid came.drifts.valid came.drifts.part came.drifts.own (ap (owned_by lane.0.items) had.object_is ∙ had.own) had.live in
      (had.object_is, (came.shard, came.there, live))

  -- ---- the pool

  module _ (new : Pool R A) (g : IsGathered pool rests lanes owns uber shards new) where
    -- one of its metaslabs is one of those that were taken out
    is_shard : (m : ℕ) (shard : Shard R A) → slice_get new.metaslabs.shards.items m ≡ Some shard → slice_get shards m ≡ Some shard
    is_shard m shard at = ap (λ (l : List (Shard R A)). slice_get l m) (sym g.metaslabs) ∙ at

    shard_is : (m : ℕ) (shard : Shard R A) → slice_get shards m ≡ Some shard → IsShardOf rack e.whole.perms new m shard
    shard_is m shard at = record {
      valid = (from_first m shard at).valid;
      part = (from_first m shard at).part ∙ ((first m shard at).part ∙ ap (λ (x : Geometry). record { geometry = x; perms = e.whole.perms; number = m }) (sym g.geometry));
      numbered = numbered_is m shard at new.own.seq g.pool_seq g.lane_seq;
      settled = settled_is m shard at;
      committed = committed_is m shard at ∙ ap (λ (u : Uber A). group_of (ubers.kept_of u)) (sym g.uber_is);
      leaves = λ leaf is. subst (λ (u : Uber A). leaf < ubers.next_leaf_of u) (sym g.uber_is) (leaves_are m shard at leaf is);
    }

    -- a pointer of a block that was live, and whose object was nobody else's
    still_live : (mine : ℕ → Bool) (object : ℕ) (pointer : Pointer) (was : Shard R A) → pointer.object ≡ object → mine object ≡ true → Valid rack was → IsLive was pointer → CameFrom mine pointer.metaslab was → IsPointer new object pointer
    still_live mine object pointer was object_is own valid live came = record {
      object_is = object_is;
      shard = came.shard;
      there = ap (λ (l : List (Shard R A)). slice_get l pointer.metaslab) g.metaslabs ∙ came.there;
      live = live_on rack area mine came.shard.committed was came.shard pointer valid came.drifts.valid came.drifts.part came.drifts.own (ap mine object_is ∙ own) live;
    }

    pointer_is : (object : ℕ) (pointer : Pointer) → IsOfPool pool rests lanes owns object pointer ⊎ IsOfLane pool rests lanes owns object pointer → IsPointer new object pointer
    pointer_is object pointer (inl of) =
        let had = e.whole.objects object pointer of.there in
        still_live (owned_by rests) object pointer had.shard had.object_is of.owned (e.whole.shards pointer.metaslab had.shard had.there).valid had.live (rest_came pointer.metaslab had.shard had.there)
    pointer_is object pointer (inr of) =
        let had = (has of.place of.lane of.own of.lane_is of.own_is).whole.pointers object pointer of.there in
        still_live (owned_by of.lane.items) object pointer had.shard had.object_is of.owned had.valid had.live (lane_came of.place of.lane of.own of.lane_is of.own_is pointer.metaslab had.shard had.there)

    -- a floor that was near what was committed is near what is committed now
    near_now : (floor m : ℕ) (mine : ℕ → Bool) (was : Shard R A) → floor ≤ was.committed + 2 → CameFrom mine m was → floor ≤ group_of (ubers.kept_of new.uber) + 2
    near_now floor m mine was near came =
        let rises = came.drifts.later in
        let is = committed_is m came.shard came.there ∙ ap (λ (u : Uber A). group_of (ubers.kept_of u)) (sym g.uber_is) in
        omega (arith, near, rises, is)

    abbrev AFloor : Type 0
    AFloor = (new.own.floor ≤ pool.own.floor) ⊎ ((i : ℕ) × (own : Own) × (slice_get owns i ≡ Some own) × (new.own.floor ≤ own.floor))

    floor_is : AFloor → new.own.floor ≤ group_of (ubers.kept_of new.uber) + 2
    floor_is (inl less) =
        let one = present pool.metaslabs.shards.items 0 (let some = some_locks rack area pool e.whole locks e.firsts e.locked in let many = e.locked.many in omega (arith, some, many)) in
        let near = e.whole.floor in
        let is = (e.whole.shards 0 one.0 one.1).committed in
        near_now new.own.floor 0 (owned_by rests) one.0 (omega (arith, less, near, is)) (rest_came 0 one.0 one.1)
    floor_is (inr z) =
        let lane = lane_of z.0 z.1 z.2 in
        let whole = (has z.0 lane.0 z.1 lane.1 z.2).whole in
        let near = whole.reached in
        let less = z.3 in
        let up = near.near in
        let most = open_upto near.shard.open_group near.shard.closing near.shard.committed near.shard.sealed (whole.shards near.metaslab near.shard near.there).valid.groups in
        near_now new.own.floor near.metaslab (owned_by lane.0.items) near.shard (omega (arith, less, up, most)) (lane_came z.0 lane.0 z.1 lane.1 z.2 near.metaslab near.shard near.there)

    -- a floor that was at most a group which was open is at most one that is open now
    near_then : (floor m : ℕ) (mine : ℕ → Bool) (was : Shard R A) → floor ≤ was.open_group → CameFrom mine m was → IsNear floor (slice_get new.metaslabs.shards.items)
    near_then floor m mine was near came = record {
      metaslab = m;
      shard = came.shard;
      there = ap (λ (l : List (Shard R A)). slice_get l m) g.metaslabs ∙ came.there;
      near = (let rises = came.drifts.opens in omega (arith, near, rises));
    }

    near_is : AFloor → IsNear new.own.floor (slice_get new.metaslabs.shards.items)
    near_is (inl less) =
        let near = e.whole.near in
        let up = near.near in
        near_then new.own.floor near.metaslab (owned_by rests) near.shard (omega (arith, less, up)) (rest_came near.metaslab near.shard near.there)
    near_is (inr z) =
        let lane = lane_of z.0 z.1 z.2 in
        let near = (has z.0 lane.0 z.1 lane.1 z.2).whole.reached in
        let less = z.3 in
        let up = near.near in
        near_then new.own.floor near.metaslab (owned_by lane.0.items) near.shard (omega (arith, less, up)) (lane_came z.0 lane.0 z.1 lane.1 z.2 near.metaslab near.shard near.there)

    low_is : AFloor → new.own.floor ≤ LAST_NUMBER
    low_is (inl less) = (let low = e.whole.low in omega (arith, less, low))
    low_is (inr z) = (let lane = lane_of z.0 z.1 z.2 in let low = (has z.0 lane.0 z.1 lane.1 z.2).whole.low in let less = z.3 in omega (arith, less, low))

    uber_layout_is : ubers.layout_in (ubers.layout_of new.uber) new.geometry.props.version ≡ new.geometry
    uber_layout_is =
        let lock = present locks 0 (some_locks rack area pool e.whole locks e.firsts e.locked) in
        let same : lock.0.first.shard.geometry ≡ new.geometry = ap (λ (p : Part). p.geometry) (first_is rack area pool e.whole locks e.firsts e.locked 0 lock.0 lock.1).part ∙ sym g.geometry in
        subst (λ (u : Uber A). ubers.layout_in (ubers.layout_of u) new.geometry.props.version ≡ new.geometry) (sym g.uber_is)
        (subst (λ (x : Geometry). ubers.layout_in (ubers.layout_of uber) x.props.version ≡ x) same (e.governs.layout 0 lock.0 lock.1))

    -- it has no checkpoint, as before
    point_is : ubers.point_of new.uber ≡ ubers.point_of pool.uber
    point_is = ap (λ (u : Uber A). ubers.point_of u) g.uber_is ∙ e.point

    none_is : (ubers.point_of new.uber).group ≡ None
    none_is = ap (λ (p : Point). p.group) point_is ∙ e.unpointed

    many_are : length new.metaslabs.shards.items ≡ new.geometry.props.metaslabs
    many_are =
        let are = ap (λ (l : List (Shard R A)). length l) g.metaslabs in
        let now = e.unlocked.many in
        let were = e.locked.many in
        are ∙ (now ∙ (were ∙ (e.whole.many ∙ ap (λ (x : Geometry). x.props.metaslabs) (sym g.geometry))))

    pub ended_whole : IsWhole rack area new
    ended_whole = record {
      perms = e.whole.perms;
      layout = subst (λ (x : Geometry). IsLayout x e.whole.perms) (sym g.geometry) e.whole.layout;
      many = many_are;
      shards = λ m shard at. shard_is m shard (is_shard m shard at);
      alike = λ m n a b at there. alike m n a b (is_shard m a at) (is_shard n b there);
      uber = subst (λ (u : Uber A). ubers.Valid area.size u) (sym g.uber_is) e.governs.valid;
      uber_layout = uber_layout_is;
      objects = λ object pointer at. pointer_is object pointer (g.objects object pointer at);
      floor = floor_is g.floor;
      low = low_is g.floor;
      near = near_is g.floor;
      point = fits_none (ubers.point_of new.uber) (get nat_eq new.own.objects) new.own.seq none_is (ap (λ (p : Point). p.drops) point_is ∙ e.whole.point.none e.unpointed);
      behind = λ own m shard is at. absurd (none_some (ubers.point_of new.uber).group own none_is is);
    }
