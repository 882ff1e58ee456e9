-- What a pool is by itself, whatever its devices hold.
use Rattle.std.specs.Prelude.{◌≡◌, ◌≤◌, ◌<◌, ◌+◌, ℕ, true, Some, None, [], nat_eq, length, slice_get, List, Option, All, Contains}
use Rattle.std.specs.HashMap.{get}
use Rattle.draid_rack.specs.declared.Rack as racks
use Rattle.draid_area.specs.declared.Area as areas
use Rattle.draid_perm.specs.declared.perms.Perms.{Perms}
use Rattle.draid_map.specs.Place.{IsLayout}
use Rattle.draid_names.specs.declared.numbers.TheConstants.{LAST_NUMBER}
use Rattle.draid_names.specs.declared.pointer.Pointer.{Pointer}
use Rattle.draid_machine.specs.declared.names.Held.{Held}
use Rattle.draid_machine.specs.declared.names.Key.{Key}
use Rattle.draid_machine.specs.Names.{is_block}
use Rattle.draid_entries.specs.Entries.{held_in}
use Rattle.draid_shard.specs.Alike.{ShareArms}
use Rattle.draid_shard.specs.Looks.{IsLive}
use Rattle.draid_shard.specs.Fits as shards
use Rattle.draid_shard.specs.States.{part_of}
use Rattle.draid_shard.specs.declared.shard.Shard.{Shard}
use Rattle.draid_uber.specs.Slots.{group_of}
use Rattle.draid_uber.specs.Uber as ubers
use Rattle.draid_pool.specs.Threads.{IsNear}
use Rattle.draid_pool.specs.declared.pool.Pool.{Pool}
use Rattle.draid_checkpoint.specs.Check.{Point, holds_birth}

-- One of the shards is that of a layout's metaslab. Its blocks have numbers of writes that were begun, and none of its writes is under way. It has committed the
-- group that the uberblock names. Its leaves, with those whose detachment isn't committed, have numbers below that of the next leaf.
pub record IsShardOf {R A : Type 0} (rack : racks.Ghosts R) (perms : Perms) (pool : Pool R A) (m : ℕ) (shard : Shard R A) : Type 0 where
  pub valid : shards.Valid rack shard
  pub part : part_of shard ≡ record { geometry = pool.geometry; perms = perms; number = m }
  pub numbered : (key : Key) (h : Held) → held_in shard.entries key ≡ Some h → key.seq ≤ pool.own.seq
  pub settled : (key : Key) (h : Held) → held_in shard.entries key ≡ Some h → is_block h.stage ≡ true
  pub committed : shard.committed ≡ group_of (ubers.kept_of pool.uber)
  pub leaves : (leaf : ℕ) → shards.IsLeaf shard.slots leaf → leaf < ubers.next_leaf_of pool.uber

-- a pointer of an object is that of a live block in its metaslab
pub record IsPointer {R A : Type 0} (pool : Pool R A) (object : ℕ) (pointer : Pointer) : Type 0 where
  pub object_is : pointer.object ≡ object
  pub shard : Shard R A
  pub there : slice_get pool.metaslabs.shards.items pointer.metaslab ≡ Some shard
  pub live : IsLive shard pointer

-- The checkpoint has room for each object's block that it keeps, and for some more; it can spell them all in a check record; and none that it alone keeps is an object's own, or of a write
-- that wasn't begun. Where there is none it keeps no block.
pub record PointFits (more : ℕ) (point : Point) (table : ℕ → Option Pointer) (seq : ℕ) : Type 0 where
  pub names : List ℕ
  pub each : (object : ℕ) (p : Pointer) → table object ≡ Some p → holds_birth point.group p.birth ≡ true → Contains names object
  pub room : length names + more ≤ point.spare
  pub few : length point.drops + (length names + more) ≤ 524_288
  pub apart : All (λ d. (p : Pointer) → table d.object ≡ Some p → d.seq ≡ p.seq → ⊥) point.drops
  pub begun : All (λ d. d.seq ≤ seq) point.drops
  pub none : point.group ≡ None → point.drops ≡ []

-- What each call needs and keeps. A pool is whole also where nothing is known of what its devices held as it was imported. All its metaslabs have the same arms. Its floor is at most
-- the group that is open in some metaslab.
-- But for its version its uberblock has the pool's layout.
pub record IsWhole {R A : Type 0} (rack : racks.Ghosts R) (area : areas.Ghosts A) (pool : Pool R A) : Type 0 where
  pub perms : Perms
  pub layout : IsLayout pool.geometry perms
  pub many : length pool.metaslabs.shards.items ≡ pool.geometry.props.metaslabs
  pub shards : (m : ℕ) (shard : Shard R A) → slice_get pool.metaslabs.shards.items m ≡ Some shard → IsShardOf rack perms pool m shard
  pub alike : (m n : ℕ) (a b : Shard R A) → slice_get pool.metaslabs.shards.items m ≡ Some a → slice_get pool.metaslabs.shards.items n ≡ Some b → ShareArms a.slots b.slots
  pub uber : ubers.Valid area.size pool.uber
  pub uber_layout : ubers.layout_in (ubers.layout_of pool.uber) pool.geometry.props.version ≡ pool.geometry
  pub objects : (object : ℕ) (pointer : Pointer) → get nat_eq pool.own.objects object ≡ Some pointer → IsPointer pool object pointer
  pub floor : pool.own.floor ≤ group_of (ubers.kept_of pool.uber) + 2
  pub low : pool.own.floor ≤ LAST_NUMBER
  pub near : IsNear pool.own.floor (slice_get pool.metaslabs.shards.items)
  pub point : PointFits 0 (ubers.point_of pool.uber) (get nat_eq pool.own.objects) pool.own.seq
  pub behind : (own m : ℕ) (shard : Shard R A) → (ubers.point_of pool.uber).group ≡ Some own → slice_get pool.metaslabs.shards.items m ≡ Some shard → own < shard.open_group
