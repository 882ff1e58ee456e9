-- For which states a pool stands.
use Rattle.std.specs.Prelude.{◌≡◌, ℕ, Option, Some, nat_eq, length, slice_get, ◌↔◌, List, Contains, IsSome, false}
use Rattle.std.specs.HashMap.{get}
use Rattle.draid_rack.specs.declared.Rack as racks
use Rattle.draid_area.specs.declared.Area as areas
use Rattle.draid_map.specs.Place.{IsLayout}
use Rattle.draid_names.specs.declared.pointer.Pointer.{Pointer}
use Rattle.draid_machine.specs.declared.names.Held.{Held}
use Rattle.draid_machine.specs.declared.names.Key.{Key}
use Rattle.draid_machine.specs.declared.names.Stage.TheVariants.{Live}
use Rattle.draid_segments.specs.Segments.{Pieces}
use Rattle.draid_objects.specs.Changes.{write_of}
use Rattle.draid_shard.specs.Part.{Part}
use Rattle.draid_shard.specs.declared.shard.Shard.{Shard}
use Rattle.draid_session.specs.State.{Metaslab, State}
use Rattle.draid_pool.specs.Importable.{AllAlike, HasPoolVersions, Shared}
use Rattle.draid_pool.specs.Metaslabs.{IsMetaslab}
use Rattle.draid_pool.specs.Records.{HasImages, HasLeafNumbers}
use Rattle.draid_pool.specs.Ubers.{IsUber}
use Rattle.draid_pool.specs.Objects.{HasGroups, HoldsObjects, IsLastAt, PointsTo, blocks_of}
use Rattle.draid_pool.specs.declared.pool.Pool.{Pool}
use Rattle.std.specs.List.Sorted.{IsStrictlyIncreasing}
use Rattle.draid_uber.specs.Slots.{group_of}
use Rattle.draid_uber.specs.Uber.{kept_of}
use Rattle.draid_objects.specs.Marks.{check_by, is_dropped}

-- a metaslab of a state
abbrev pub part_in : State → ℕ → Part
part_in x m = record { geometry = x.geometry; perms = x.perms; number = m }

-- The pool has one shard for each metaslab of its layout, which stands for it. The metaslabs hold what befell the objects; the table has the pointer of each object
-- that has bytes; the number of the last write and the floor are the pool's. The uberblock names a group of which each metaslab has the record. All
-- metaslabs have the pool's version, and the same arms: in the committed group, and now.
pub record Stands {R A : Type 0} (rack : racks.Ghosts R) (area : areas.Ghosts A) (pool : Pool R A) (table : ℕ → Option Pointer) (x : State) : Type 0 where
  pub geometry : x.geometry ≡ pool.geometry
  pub layout : IsLayout x.geometry x.perms
  pub many : length x.metaslabs ≡ x.geometry.props.metaslabs
  pub shards : length pool.metaslabs.shards.items ≡ length x.metaslabs
  pub pieces : ℕ → Pieces
  pub each : (m : ℕ) (shard : Shard R A) (y : Metaslab) → slice_get pool.metaslabs.shards.items m ≡ Some shard → slice_get x.metaslabs m ≡ Some y
      → IsMetaslab rack area (part_in x m) (pieces m) shard y
  pub holds : HoldsObjects x.geometry x.committed x.store (blocks_of x.metaslabs) pieces
  pub groups : HasGroups x
  pub objects : (object : ℕ) → PointsTo pool.metaslabs.shards.items (table object) (write_of x.store.changes object)
  pub seq : x.store.seq ≡ pool.own.seq
  pub floor : x.store.floor ≡ pool.own.floor
  pub uber : IsUber area pool.uber x
  pub images : HasImages x
  pub leaves : HasLeafNumbers x
  pub shared : Shared
  pub versions : HasPoolVersions x.kept_version x.next_version shared
  pub alike : AllAlike shared x

-- and each live block is that of its object's last write, but for those that the checkpoint alone keeps
pub record Represents {R A : Type 0} (rack : racks.Ghosts R) (area : areas.Ghosts A) (pool : Pool R A) (x : State) : Type 0 where
  pub stands : Stands rack area pool (λ object. get nat_eq pool.own.objects object) x
  pub only : (m : ℕ) (k : Key) (h : Held) → blocks_of x.metaslabs m k ≡ Some h → h.stage ≡ Live → is_dropped (check_by x.store.marks) k ≡ false → IsLastAt m k (write_of x.store.changes k.object)

-- the group that a pool's uberblock names
abbrev pub group_in : {R A : Type 0} → Pool R A → ℕ
group_in pool = group_of (kept_of pool.uber)

-- so many objects have a block
pub record HasNames (newest : ℕ → Option Pointer) (objects : ℕ) : Type 0 where
  pub names : List ℕ
  pub ascending : IsStrictlyIncreasing names
  pub each : (object : ℕ) → Contains names object ↔ IsSome (newest object)
  pub many : objects ≡ length names
