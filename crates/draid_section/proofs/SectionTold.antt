-- A section, from the state of the pool before it to that behind it.
use Rattle.std.proofs.Common.{◌≡◌, ◌∙◌, ◌<◌, arith, ℕ, Bool, true, List, [], Option, Some, None, All, length, refl, sym, ap, subst, if◌then◌else◌}
use Rattle.std.specs.Prelude.{nat_eq, slice_get}
use Rattle.std.specs.HashMap.{get}
use Rattle.std.proofs.lemmas.List.Elements.{All-nil}
use Rattle.std.proofs.lemmas.Option.{slice_get_within}
use Rattle.draid_names.specs.declared.pointer.Pointer.{Pointer}
use Rattle.draid_rack.specs.declared.Rack as racks
use Rattle.draid_area.specs.declared.Area as areas
use Rattle.draid_machine.specs.Created.{IsReached}
use Rattle.draid_objects.specs.Changes.{write_of}
use Rattle.draid_shard.specs.Part.{Part, layout_in}
use Rattle.draid_shard.specs.declared.shard.Shard.{Shard}
use Rattle.draid_turn.specs.Calls.{Caller, Lock}
use Rattle.draid_turn.specs.Lists.{Ascends}
use Rattle.draid_turn.specs.Numbers.{holds}
use Rattle.draid_turn.specs.declared.past.Past.{Past}
use Rattle.draid_turn.specs.declared.span.Span.{Span}
use Rattle.draid_session.specs.State.{Metaslab, State}
use Rattle.draid_pool.specs.Threads.{Knows, PointsAt}
use Rattle.draid_pool.specs.Pools.{Represents, part_in}
use Rattle.draid_pool.specs.Ubers.{IsUber}
use Rattle.draid_pool.specs.declared.cell.Cell.{Cell}
use Rattle.draid_pool.specs.declared.pool.Pool.{Pool}
use Rattle.draid_pool.proofs.Lists.{present, some_of}
use Rattle.draid_pool.proofs.OwnedKnows.{all, knows_all, table_in}
use Rattle.draid_pool.proofs.PoolBytes.{pool_bytes}
use Rattle.draid_pool.proofs.Since.{since_self}
use Rattle.draid_lanes.specs.Lanes.{table_of}
use Rattle.draid_lanes.specs.Locks.{last_in, left_in, owned_by}
use Rattle.draid_lanes.specs.Meeting.{groups_alone}
use Rattle.draid_lanes.specs.Traces.{Came, CameAt, IsGoverned, StandsAt}
use Rattle.draid_lanes.specs.declared.lane.Lane.{Lane}
use Rattle.draid_lanes.specs.declared.uber.UberCell.{UberCell}
use Rattle.draid_lanes.proofs.OneCame.{one_metaslab}
use Rattle.draid_section.specs.Opening.{AreLocked, IsDealt}
use Rattle.draid_section.proofs.Beginning.{first_of, lasts, lock_of, pass_new}
use Rattle.draid_section.proofs.Dealt.{dealt_owns}
use Rattle.draid_section.proofs.Restricted.{knows_some}
use Rattle.draid_section.proofs.ShardTurns.{BytesAt}

-- a table that has the same pointers of what is owned
knows_table : {R A : Type 0} (rack : racks.Ghosts R) (area : areas.Ghosts A) (owns : ℕ → Bool) (last : ℕ → Option (Shard R A)) (table other : ℕ → Option Pointer) (seq floor : ℕ) (x : State) → ((o : ℕ) → owns o ≡ true → other o ≡ table o)
    → Knows rack area owns last table seq floor x → Knows rack area owns last other seq floor x
knows_table rack area owns last table other seq floor x same k = record {
  pieces = k.pieces;
  but_it = record {
    each = k.but_it.each;
    holds = k.but_it.holds;
    objects = λ o mine. subst (λ p. PointsAt last p (write_of x.store.changes o)) (sym (same o mine)) (k.but_it.objects o mine);
    seq = k.but_it.seq;
    floor = k.but_it.floor;
  };
}

-- ---- what a metaslab came to is one alone

module _ {R A : Type 0} (rack : racks.Ghosts R) (area : areas.Ghosts A) (x : State) where
  same_of : (part : Part) (now : Shard R A) (f g : Metaslab) (a : Came rack area part f now) (b : Came rack area part g now) → f ≡ g → a.reached ≡ b.reached
  same_of part now f g a b same = subst (λ (h : Metaslab). (c : Came rack area part h now) → a.reached ≡ c.reached) same (λ c. one_metaslab rack area part f now a c) b

  pub came_single : (lock : Lock (Cell R A)) (m : ℕ) (seen : List (Past (Cell R A))) (y z : Metaslab) → CameAt rack area x lock seen m y → CameAt rack area x lock seen m z → y ≡ z
  came_single lock m seen y z a b =
      sym a.is ∙ (same_of (part_in x m) (left_in lock seen) a.first b.first a.came b.came (some_of (slice_get x.metaslabs m) a.first b.first a.there b.there) ∙ b.is)

-- ---- as a section begins

module _ {R A : Type 0} (rack : racks.Ghosts R) (area : areas.Ghosts A) (pool : Pool R A) (x : State) (r : Represents rack area pool x) (locks : List (Lock (Cell R A))) (firsts : List (Caller (Past (Cell R A)))) (locked : AreLocked pool.metaslabs.shards.items locks firsts) where
  -- each metaslab is what the state has
  pub begins_at : (m : ℕ) (lock : Lock (Cell R A)) (y : Metaslab) → slice_get locks m ≡ Some lock → slice_get x.metaslabs m ≡ Some y → CameAt rack area x lock [] m y
  begins_at m lock y lock_is there =
      let is = r.stands.each m lock.first.shard y (first_of pool.metaslabs.shards.items locks firsts locked m lock lock_is) there in
      record { first = y; there = there; came = record { began = subst (λ p. IsReached (layout_in p) y.world) is.part_is is.stands.reached; reached = y; pieces = r.stands.pieces m; is = is; since = since_self (layout_in (part_in x m)) y }; is = refl }

  -- all blocks of each have bytes
  pub begins_bytes : (m : ℕ) (lock : Lock (Cell R A)) (y : Metaslab) → slice_get locks m ≡ Some lock → slice_get x.metaslabs m ≡ Some y → BytesAt rack area x lock m [] y
  begins_bytes m lock y lock_is there =
      let is = r.stands.each m lock.first.shard y (first_of pool.metaslabs.shards.items locks firsts locked m lock lock_is) there in
      (r.stands.pieces m, is, pool_bytes rack area pool x r m lock.first.shard y there is)

  -- a lane knows as much of it as its own objects go
  module _ {G W : Type 0} (lane : Lane R A G W) (list : List Span) (turns : lane.metaslabs.turns.now ≡ locks) (new : IsDealt locks list lane.metaslabs.passes.items) (some : 0 < length locks) (table : (o : ℕ) → table_of lane o ≡ (if holds o list then get nat_eq pool.own.objects o else None))
      (seq : lane.own.seq ≡ pool.own.seq) (floor : lane.own.floor ≡ pool.own.floor) where
    abbrev owned : ℕ → Bool
    owned = owned_by lane.metaslabs.passes.items

    tables : (o : ℕ) → owned o ≡ true → table_of lane o ≡ get nat_eq pool.own.objects o
    tables o mine = table o ∙ ap (λ b. if b then get nat_eq pool.own.objects o else None) (sym (dealt_owns locks list lane.metaslabs.passes.items new some o) ∙ mine)

    known : Knows rack area owned (λ m. slice_get pool.metaslabs.shards.items m) (table_of lane) pool.own.seq pool.own.floor x
    known = knows_table rack area owned (λ m. slice_get pool.metaslabs.shards.items m) (table_in pool) (table_of lane) pool.own.seq pool.own.floor x tables
        (knows_some rack area all owned (λ n mine. refl) (λ m. slice_get pool.metaslabs.shards.items m) (table_in pool) pool.own.seq pool.own.floor x (knows_all rack area pool x r))

    known_here : Knows rack area owned (last_in lane.metaslabs.turns.now lane.metaslabs.passes.items) (table_of lane) lane.own.seq lane.own.floor x
    known_here = subst (λ (t : (ℕ → Option (Shard R A)) × ℕ × ℕ). Knows rack area owned t.0 (table_of lane) t.1 t.2 x)
        (λ i. ((sym (lasts pool.metaslabs.shards.items locks firsts locked list lane.metaslabs.passes.items new) ∙ ap (λ ls. last_in ls lane.metaslabs.passes.items) (sym turns)) i, sym seq i, sym floor i)) known

    pub stands_first : StandsAt rack area x lane x
    stands_first = record {
      same = refl;
      many = refl;
      each = λ m lock pass lock_is pass_is.
          (let here : slice_get locks m ≡ Some lock = sym (ap (λ ls. slice_get ls m) turns) ∙ lock_is in
          let y = present x.metaslabs m (let inside = slice_get_within locks m lock here in let many = locked.many in let shards = r.stands.shards in omega (arith, inside, many, shards)) in
          let fresh = pass_new pool.metaslabs.shards.items locks firsts locked list lane.metaslabs.passes.items new m lock pass here pass_is in
          (y.0, y.1, subst (λ (p : Caller (Past (Cell R A))). CameAt rack area x lock p.seen m y.0) (sym fresh) (begins_at m lock y.0 here y.1)));
      ordered = λ m pass pass_is.
          (let lock = lock_of pool.metaslabs.shards.items locks firsts locked list lane.metaslabs.passes.items new m pass pass_is in
          let fresh = pass_new pool.metaslabs.shards.items locks firsts locked list lane.metaslabs.passes.items new m lock.0 pass lock.1 pass_is in
          subst (λ (p : Caller (Past (Cell R A))). Ascends p.own × All (λ place. place < length p.seen) p.own) (sym fresh) (tt, All-nil (λ place. place < 0)));
      knows = known_here;
    }

  -- who holds the uberblock knows all of it
  pub governed_first : (cell : UberCell R A) → cell.turns.now ≡ locks → cell.uber ≡ pool.uber → IsDealt locks groups_alone cell.groups.items → IsGoverned rack area x cell x
  governed_first cell turns uber new = record {
    pool = record { geometry = refl; perms = refl; told = refl; many = refl };
    store = refl;
    each = λ m lock pass lock_is pass_is.
        (let here : slice_get locks m ≡ Some lock = sym (ap (λ ls. slice_get ls m) turns) ∙ lock_is in
        let y = present x.metaslabs m (let inside = slice_get_within locks m lock here in let many = locked.many in let shards = r.stands.shards in omega (arith, inside, many, shards)) in
        let fresh = pass_new pool.metaslabs.shards.items locks firsts locked groups_alone cell.groups.items new m lock pass here pass_is in
        (y.0, y.1, subst (λ (p : Caller (Past (Cell R A))). CameAt rack area x lock p.seen m y.0) (sym fresh) (begins_at m lock y.0 here y.1)));
    committed = r.stands.groups.committed;
    uber = subst (λ v. IsUber area v x) (sym uber) r.stands.uber;
    images = r.stands.images;
    leaves = r.stands.leaves;
    shared = r.stands.shared;
    versions = r.stands.versions;
    alike = r.stands.alike;
    switches = λ agree. agree;
  }
