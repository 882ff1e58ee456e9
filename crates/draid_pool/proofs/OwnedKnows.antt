-- A thread that owns all objects of a pool, with nobody beside it, knows what the pool stands for.
use Rattle.std.proofs.Common.{◌≡◌, ◌≤◌, ◌∙◌, inl, arith, ℕ, Bool, true, List, [], ◌∷◌, Option, Some, None, refl, sym, ap, subst}
use Rattle.std.specs.Prelude.{◌+◌, false, filter, max, slice_get, nat_eq}
use Rattle.std.specs.HashMap.{get}
use Rattle.sha2.specs.Sha256.{sha256}
use Rattle.draid_names.specs.declared.pointer.Pointer.{Pointer}
use Rattle.draid_rack.specs.declared.Rack as racks
use Rattle.draid_area.specs.declared.Area as areas
use Rattle.draid_objects.specs.Changes.{Change, Write, write_of}
use Rattle.draid_objects.proofs.Keeping.{commit_kept}
use Rattle.draid_shard.specs.Part.{Part}
use Rattle.draid_shard.specs.declared.shard.Shard.{Shard}
use Rattle.draid_session.specs.State.{Metaslab, State, Store}
use Rattle.std.proofs.lemmas.Option.{slice_get_within}
use Rattle.draid_objects.specs.Stores.{AreMarkedUpto, IsBehindChecks}
use Rattle.draid_pool.proofs.Marked.{behind_later, marked_later, max_next}
use Rattle.draid_pool.proofs.Wholes.{open_high}
use Rattle.draid_objects.specs.Marks.{Dropped, GivenUp, Made, Mark, check_by, is_dropped}
use Rattle.draid_pool.specs.Objects.{HoldsObjects, IsLastAt, PointsTo, blocks_of}
use Rattle.draid_pool.specs.Pools.{Represents, Stands}
use Rattle.draid_pool.specs.Threads.{Bounds, IsWholeBy, Knows, PointsAt, is_own_mark, own_changes, own_store}
use Rattle.draid_pool.specs.Whole.{IsWhole}
use Rattle.draid_pool.specs.declared.pool.Pool.{Pool}
use Rattle.draid_pool.proofs.Lifted.{metaslab_of}
use Rattle.draid_pool.proofs.Lists.{present}

-- all objects are the thread's own
abbrev pub all : ℕ → Bool
all object = true

-- the metaslabs of a pool as they were left, and its table
abbrev pub left_in : {R A : Type 0} → Pool R A → ℕ → Option (Shard R A)
left_in pool m = slice_get pool.metaslabs.shards.items m

abbrev pub table_in : {R A : Type 0} → Pool R A → ℕ → Option Pointer
table_in pool object = get nat_eq pool.own.objects object

pub all_own : (cs : List Change) → own_changes all cs ≡ cs
all_own [] = refl
all_own (c ∷ cs) = ap (λ l. c ∷ l) (all_own cs)

pub all_marks : (ms : List Mark) → filter (is_own_mark all) ms ≡ ms
all_marks [] = refl
all_marks (Made group ∷ ms) = ap (λ l. Made group ∷ l) (all_marks ms)
all_marks (Dropped key group ∷ ms) = ap (λ l. Dropped key group ∷ l) (all_marks ms)
all_marks (GivenUp group ∷ ms) = ap (λ l. GivenUp group ∷ l) (all_marks ms)

pub all_store : (store : Store) → own_store all store ≡ store
all_store store = λ i. record store { changes = all_own store.changes i; marks = all_marks store.marks i }

module _ {R A : Type 0} where
  points_in : (shards : List (Shard R A)) (o : Option Pointer) (w : Option Write) → PointsTo shards o w → PointsAt (λ m. slice_get shards m) o w
  points_in shards None None points = tt
  points_in shards None (Some w) points = absurd points
  points_in shards (Some p) None points = absurd points
  points_in shards (Some p) (Some w) points = record {
    object_is = points.object_is;
    seq_is = points.seq_is;
    metaslab_is = points.metaslab_is;
    birth_is = points.birth_is;
    len_is = points.len_is;
    digest_is = points.digest_is;
    shard = points.shard;
    there = points.there;
    live = points.live;
  }

  pub points_out : (shards : List (Shard R A)) (o : Option Pointer) (w : Option Write) → PointsAt (λ m. slice_get shards m) o w → PointsTo shards o w
  points_out shards None None points = tt
  points_out shards None (Some w) points = absurd points
  points_out shards (Some p) None points = absurd points
  points_out shards (Some p) (Some w) points = record {
    object_is = points.object_is;
    seq_is = points.seq_is;
    metaslab_is = points.metaslab_is;
    birth_is = points.birth_is;
    len_is = points.len_is;
    digest_is = points.digest_is;
    shard = points.shard;
    there = points.there;
    live = points.live;
  }

module _ {R A : Type 0} (rack : racks.Ghosts R) (area : areas.Ghosts A) where
  pub whole_by : (pool : Pool R A) → IsWhole rack area pool → IsWholeBy rack all (left_in pool) (table_in pool) pool.own.seq pool.own.floor
  whole_by pool w = record {
    shards = λ m shard there. (let is = w.shards m shard there in record {
      valid = is.valid;
      numbered = λ key h own. is.numbered key h;
      settled = λ key h own. is.settled key h;
    });
    placed = λ m shard there. ap (λ (q : Part). q.number) (w.shards m shard there).part;
    together = λ m n shard other own there at. (w.shards n other at).committed ∙ sym (w.shards m shard there).committed;
    next = λ m shard own there. (let floor = w.floor in let group = (w.shards m shard there).committed in omega (arith, floor, group));
    pointers = λ object pointer at. (let p = w.objects object pointer at in record {
      object_is = p.object_is;
      own = refl;
      shard = p.shard;
      there = p.there;
      valid = (w.shards pointer.metaslab p.shard p.there).valid;
      live = p.live;
    });
    low = w.low;
    reached = w.near;
  }

  pub knows_all : (pool : Pool R A) (x : State) → Represents rack area pool x → Knows rack area all (left_in pool) (table_in pool) pool.own.seq pool.own.floor x
  knows_all pool x r = record {
    pieces = s.pieces;
    but_it = record {
      each = λ m shard at. (let z = metaslab_of rack area pool x s m shard at in (z.y, z.at, z.is));
      holds = record {
        holds = λ c b. subst (λ (z : Store). HoldsObjects x.geometry c z (blocks_of x.metaslabs) s.pieces) (sym (all_store x.store)) (record {
          stores = commit_kept sha256 x.committed x.store.changes x.store.marks (blocks_of x.metaslabs) (blocks_of x.metaslabs) s.holds.stores c (low c b) (λ m k. inl refl);
          floors = s.holds.floors;
          settled = s.holds.settled;
          numbered = s.holds.numbered;
          positive = s.holds.positive;
          bytes = s.holds.bytes;
        });
        only = λ m k h at live counts. subst (λ (z : Store). IsLastAt m k (write_of z.changes k.object)) (sym (all_store x.store)) (r.only m k h at live (subst (λ (z : Store). is_dropped (check_by z.marks) k ≡ false) (all_store x.store) counts));
        checks = λ c b m y at. subst (λ (z : Store). IsBehindChecks c z.marks y.world.open_group) (sym (all_store x.store))
            (behind_later x.committed c y.world.open_group y.world.open_group x.store.marks (low c b) (omega arith) (s.groups.checks m y at));
        marked = λ m y at. subst (λ (z : Store). AreMarkedUpto (max x.store.floor y.world.open_group) z.marks) (sym (all_store x.store))
            (marked_later (max x.store.floor (x.committed + 1)) (max x.store.floor y.world.open_group) x.store.marks (max_next x.store.floor (x.committed + 1) y.world.open_group (open_behind m y at)) s.groups.marked);
      };
      objects = λ o mine. points_in pool.metaslabs.shards.items (table_in pool o) (write_of x.store.changes o) (s.objects o);
      seq = s.seq;
      floor = s.floor;
    };
  }
    where
      s : Stands rack area pool (table_in pool) x
      s = r.stands

      open_behind : (m : ℕ) (y : Metaslab) → slice_get x.metaslabs m ≡ Some y → x.committed + 1 ≤ y.world.open_group
      open_behind m y at =
          let shard = present pool.metaslabs.shards.items m (let inside = slice_get_within x.metaslabs m y at in let many = s.shards in omega (arith, inside, many)) in
          let is = s.each m shard.0 y shard.1 at in
          let high = open_high shard.0.open_group shard.0.closing shard.0.committed shard.0.sealed is.valid.groups in
          let open_is = is.stands.is_in.open_group_is in
          let committed_is = is.stands.is_in.committed in
          let same = s.groups.committed m y at in
          omega (arith, high, open_is, committed_is, same)

      low : (c : ℕ) → Bounds x c → x.committed ≤ c
      low c b =
          let first = present x.metaslabs 0 (let many = s.many in let some = s.layout.geometry_is.props.some_metaslabs in omega (arith, many, some)) in
          let bound = b 0 first.0 first.1 in
          let same = s.groups.committed 0 first.0 first.1 in
          omega (arith, bound, same)
