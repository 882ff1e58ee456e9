-- What becomes of a pool as its checkpoint is given up, with all live blocks to which no object's pointer leads.
use Rattle.std.specs.Prelude.{◌≡◌, ◌+◌, ◌≤◌, ℕ, [], None, Some, length, max, nat_eq, slice_get}
use Rattle.std.specs.HashMap.{get}
use Rattle.draid_names.specs.declared.numbers.TheConstants.{LAST_NUMBER}
use Rattle.draid_rack.specs.declared.Rack as racks
use Rattle.draid_area.specs.declared.Area as areas
use Rattle.draid_shard.specs.declared.shard.Shard.{Shard}
use Rattle.draid_uber.specs.Points.{no_check}
use Rattle.draid_uber.specs.Uber as ubers
use Rattle.draid_uber.specs.declared.uber.Uber.{Uber}
use Rattle.draid_pool.specs.Pools.{group_in}
use Rattle.draid_pool.specs.declared.pool.Pool.{Pool}
use Rattle.draid_rewinds.specs.Sweeps.{FreesOthers, IsOpenIn}

-- the group behind the committed one is open in each metaslab
pub record MayGiveUp {R A : Type 0} (rack : racks.Ghosts R) (area : areas.Ghosts A) (pool : Pool R A) : Type 0 where
  pub each : (m : ℕ) (shard : Shard R A) → slice_get pool.metaslabs.shards.items m ≡ Some shard → IsOpenIn rack (group_in pool + 1) shard
  pub few : length pool.metaslabs.shards.items ≤ 64
  pub low : group_in pool + 1 ≤ LAST_NUMBER
  pub uber : ubers.Valid area.size pool.uber

-- its checkpoint changed in a group, and nothing else
pub record SetsPoint {A : Type 0} (area : areas.Ghosts A) (group : ℕ) (old new : Uber A) : Type 0 where
  pub valid : ubers.Valid area.size new
  pub changed : ubers.changed_of new ≡ group
  pub areas_are : ubers.areas_of new ≡ ubers.areas_of old
  pub kept : ubers.kept_of new ≡ ubers.kept_of old
  pub layout : ubers.layout_of new ≡ ubers.layout_of old
  pub version : ubers.version_of new ≡ ubers.version_of old
  pub leaf : ubers.next_leaf_of new ≡ ubers.next_leaf_of old

-- the uberblock has no checkpoint from a group on
pub record ForgetsPoint {A : Type 0} (area : areas.Ghosts A) (group : ℕ) (old new : Uber A) : Type 0 where
  pub sets : SetsPoint area group old new
  pub point : (ubers.point_of new).group ≡ None
  pub drops : (ubers.point_of new).drops ≡ []
  pub told : (g : ℕ) → ubers.next_check new g ≡ no_check

-- so many blocks were freed in that group, and the checkpoint is given up in it
pub record GivesUp {R A : Type 0} (rack : racks.Ghosts R) (area : areas.Ghosts A) (old : Pool R A) (freed : ℕ) (new : Pool R A) : Type 0 where
  pub frees : FreesOthers rack area (get nat_eq old.own.objects) (group_in old + 1) old.metaslabs.shards.items freed new.metaslabs.shards.items
  pub uber : ForgetsPoint area (group_in old + 1) old.uber new.uber
  pub geometry : new.geometry ≡ old.geometry
  pub objects : new.own.objects ≡ old.own.objects
  pub seq : new.own.seq ≡ old.own.seq
  pub floor : new.own.floor ≡ max old.own.floor (group_in old + 1)
