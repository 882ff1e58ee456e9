-- What a thread knows of a pool of which others have parts.
use Rattle.std.specs.Prelude.{◌≡◌, ℕ, Bool, Option, Some, length, slice_get}
use Rattle.draid_names.specs.declared.pointer.Pointer.{Pointer}
use Rattle.draid_rack.specs.declared.Rack as racks
use Rattle.draid_area.specs.declared.Area as areas
use Rattle.draid_session.specs.State.{Metaslab, State}
use Rattle.draid_shard.specs.Part.{layout_in}
use Rattle.draid_shard.specs.declared.shard.Shard.{Shard}
use Rattle.draid_pool.specs.Drifts.{Since}
use Rattle.draid_pool.specs.Pools.{part_in}
use Rattle.draid_pool.specs.Threads.{Knows}

-- A thread knows a state that came from an earlier one: each metaslab by events, and nothing else changed that the thread has of its own.
pub record KnowsLater {R A : Type 0} (rack : racks.Ghosts R) (area : areas.Ghosts A) (owns : ℕ → Bool) (last : ℕ → Option (Shard R A)) (table : ℕ → Option Pointer) (seq floor : ℕ) (x : State) : Type 0 where
  pub reached : State
  pub same : reached ≡ record x { metaslabs = reached.metaslabs }
  pub many : length reached.metaslabs ≡ length x.metaslabs
  pub since : (m : ℕ) (y : Metaslab) → slice_get x.metaslabs m ≡ Some y → (z : Metaslab) × (slice_get reached.metaslabs m ≡ Some z) × Since (layout_in (part_in x m)) y z
  pub knows : Knows rack area owns last table seq floor reached
