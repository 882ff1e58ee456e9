-- Holds of one metaslab of a pool that leave what it holds as it was.
use Rattle.std.proofs.Common.{◌≡◌, ◌∙◌, [], ℕ, List, Option, Some, None, arith, refl, sym, ap, subst, slice_index_or, slice_set}
use Rattle.std.specs.Prelude.{false, nat_eq, slice_get}
use Rattle.std.specs.HashMap.{get}
use Rattle.std.specs.Vec.{with_item}
use Rattle.std.proofs.lemmas.Option.{slice_get-get_or, slice_get_within}
use Rattle.draid_names.specs.declared.pointer.Pointer.{Pointer}
use Rattle.draid_rack.specs.declared.Rack as racks
use Rattle.draid_area.specs.declared.Area as areas
use Rattle.draid_machine.specs.declared.names.Key.{Key}
use Rattle.draid_machine.specs.declared.names.Held.{Held}
use Rattle.draid_machine.specs.declared.names.Stage.TheVariants.{Live}
use Rattle.draid_segments.specs.Segments.{Pieces}
use Rattle.draid_objects.specs.Marks.{check_by, is_dropped}
use Rattle.draid_objects.specs.Blocks.{Blocks}
use Rattle.draid_objects.specs.Changes.{Write, write_of}
use Rattle.draid_entries.specs.Maps.{key_of}
use Rattle.draid_shard.specs.declared.shard.Shard.{Shard}
use Rattle.draid_session.specs.Holds.{Hold}
use Rattle.draid_session.specs.State.{Metaslab, State, Store}
use Rattle.draid_pool.specs.Carries.{CarriesOut}
use Rattle.draid_pool.specs.Metaslabs.{IsMetaslab}
use Rattle.draid_pool.specs.Objects.{HoldsObjects, IsLastAt, PointsTo, blocks_of}
use Rattle.draid_pool.specs.Pools.{Represents, Stands, part_in}
use Rattle.draid_pool.specs.Shards.{Goes, KeepsImages, SameBlocks}
use Rattle.draid_pool.specs.declared.pool.Pool.{Pool}
use Rattle.draid_pool.proofs.Lists.{present}
use Rattle.draid_pool.proofs.Moved.{Turned, follows_one, pointer_on, same_blocks, stands_turned, turn, turn_back, with_metaslab}

-- what stands at a place that is inside
pub shard_at : {S : Type 0} (shards : List S) (m : ℕ) (some here : S) → slice_get shards m ≡ Some some → here ≡ slice_index_or shards m here → slice_get shards m ≡ Some here
shard_at shards m some here there is = slice_get-get_or shards m here (slice_get_within shards m some there) ∙ ap Some (sym is)

-- the pool with another shard at a place
abbrev pub with_shard : {R A : Type 0} → Pool R A → ℕ → Shard R A → Pool R A
with_shard pool m shard = record pool { metaslabs = record { shards = with_item pool.metaslabs.shards m shard } }

module _ {R A : Type 0} (rack : racks.Ghosts R) (area : areas.Ghosts A) where
  -- one shard of a pool is another, and the rest is as before
  pub record SetsShard (m : ℕ) (pool new : Pool R A) (shard shard' : Shard R A) : Type 0 where
    pub there : slice_get pool.metaslabs.shards.items m ≡ Some shard
    pub sets : new.metaslabs.shards.items ≡ slice_set pool.metaslabs.shards.items m shard'
    pub geometry : new.geometry ≡ pool.geometry
    pub objects : new.own.objects ≡ pool.own.objects
    pub seq : new.own.seq ≡ pool.own.seq
    pub floor : new.own.floor ≡ pool.own.floor
    pub uber : new.uber ≡ pool.uber

  pub sets_shard : (pool : Pool R A) (m : ℕ) (shard shard' : Shard R A) → slice_get pool.metaslabs.shards.items m ≡ Some shard → SetsShard m pool (with_shard pool m shard') shard shard'
  sets_shard pool m shard shard' there = record { there = there; sets = refl; geometry = refl; objects = refl; seq = refl; floor = refl; uber = refl }

  -- the metaslab of a shard
  pub record HasMetaslab (pool : Pool R A) (x : State) (s : Stands rack area pool (λ object. get nat_eq pool.own.objects object) x) (m : ℕ) (shard : Shard R A) : Type 0 where
    pub y : Metaslab
    pub at : slice_get x.metaslabs m ≡ Some y
    pub is : IsMetaslab rack area (part_in x m) (s.pieces m) shard y

  pub metaslab_of : (pool : Pool R A) (x : State) (s : Stands rack area pool (λ object. get nat_eq pool.own.objects object) x) (m : ℕ) (shard : Shard R A) → slice_get pool.metaslabs.shards.items m ≡ Some shard
      → HasMetaslab pool x s m shard
  metaslab_of pool x s m shard there =
      let below = slice_get_within pool.metaslabs.shards.items m shard there in
      let same = s.shards in
      let z = present x.metaslabs m (omega (arith, below, same)) in
      record { y = z.0; at = z.1; is = s.each m shard z.0 there z.1 }

  points_on : (m : ℕ) (pool new : Pool R A) (shard shard' : Shard R A) (x : State) (y y' : Metaslab) (now : Pieces) (p : Option Pointer) (w : Option Write)
      → Stands rack area pool (λ object. get nat_eq pool.own.objects object) x → Turned rack area m pool new shard shard' x y y' now → y'.world.core.held ≡ y.world.core.held
      → PointsTo pool.metaslabs.shards.items p w → PointsTo new.metaslabs.shards.items p w
  points_on m pool new shard shard' x y y' now None None s t same is = tt
  points_on m pool new shard shard' x y y' now None (Some w) s t same is = absurd is
  points_on m pool new shard shard' x y y' now (Some p) None s t same is = absurd is
  points_on m pool new shard shard' x y y' now (Some p) (Some w) s t same is =
      pointer_on rack area m pool new shard shard' (λ object. get nat_eq pool.own.objects object) x y y' now p w s t (λ here. ap (λ held. held (key_of p)) same) is

  pub kept_represents : (m : ℕ) (pool new : Pool R A) (shard shard' : Shard R A) (x : State) (y y' : Metaslab) → (r : Represents rack area pool x) → SetsShard m pool new shard shard'
      → slice_get x.metaslabs m ≡ Some y → IsMetaslab rack area (part_in x m) (r.stands.pieces m) shard' y' → SameBlocks y y' → KeepsImages y.world y'.world
      → Represents rack area new (record (with_metaslab x m y') { store = x.store })
  kept_represents m pool new shard shard' x y y' r set at is same images =
      let s = r.stands in
      let t : Turned rack area m pool new shard shard' x y y' (s.pieces m) = record { there = set.there; sets = set.sets; geometry = set.geometry; at = at; is = is; committed = same.committed; images = images; uber = set.uber } in
      let blocks : blocks_of (slice_set x.metaslabs m y') ≡ blocks_of x.metaslabs = same_blocks x.metaslabs m y y' at same.held in
      let holds : HoldsObjects x.geometry x.committed x.store (blocks_of (slice_set x.metaslabs m y')) (turn m (s.pieces m) s.pieces)
      = subst (λ b. HoldsObjects x.geometry x.committed x.store b (turn m (s.pieces m) s.pieces)) (sym blocks)
      (subst (λ p. HoldsObjects x.geometry x.committed x.store (blocks_of x.metaslabs) p) (sym (turn_back m s.pieces)) s.holds) in
      record {
        stands = stands_turned rack area m pool new shard shard' (λ object. get nat_eq pool.own.objects object) (λ object. get nat_eq new.own.objects object) x y y' (s.pieces m) x.store s t holds refl (omega arith)
            s.groups.next s.groups.last
            (λ object. subst (λ objects. PointsTo new.metaslabs.shards.items (get nat_eq objects object) (write_of x.store.changes object)) (sym set.objects)
            (points_on m pool new shard shard' x y y' (s.pieces m) (get nat_eq pool.own.objects object) (write_of x.store.changes object) s t same.held (s.objects object)))
            (s.seq ∙ sym set.seq) (s.floor ∙ sym set.floor);
        only = subst (λ (b : Blocks). (n : ℕ) (k : Key) (h : Held) → b n k ≡ Some h → h.stage ≡ Live → is_dropped (check_by x.store.marks) k ≡ false → IsLastAt n k (write_of x.store.changes k.object)) (sym blocks) r.only;
      }

  -- what they did, as a call of the pool
  pub carries : (m : ℕ) (pool new : Pool R A) (shard shard' : Shard R A) (x : State) (y : Metaslab) (does : List Hold → Metaslab → Type 0) (says : List Hold → Store → Type 0)
      → (r : Represents rack area pool x) → SetsShard m pool new shard shard' → slice_get x.metaslabs m ≡ Some y → Goes rack area (part_in x m) (r.stands.pieces m) y shard' does
      → ((holds : List Hold) (y' : Metaslab) → does holds y' → SameBlocks y y' × says holds x.store) → CarriesOut rack area new x says
  carries m pool new shard shard' x y does says r set at goes how =
      let z = how goes.holds goes.reached goes.done in
      record {
        holds = goes.holds;
        reached = with_metaslab x m goes.reached;
        store = x.store;
        follows = follows_one m goes.holds x y goes.reached at goes.follows;
        done = z.1;
        represents = kept_represents m pool new shard shard' x y goes.reached r set at goes.is z.0 goes.images;
      }

  -- nothing was done
  pub carries_none : (pool : Pool R A) (x : State) (says : List Hold → Store → Type 0) → Represents rack area pool x → says [] x.store → CarriesOut rack area pool x says
  carries_none pool x says r is = record { holds = []; reached = x; store = x.store; follows = refl; done = is; represents = r }
