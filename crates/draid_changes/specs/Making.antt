-- How a leaf is made in each metaslab, before an arm comes.
use Rattle.std.specs.Prelude.{◌≡◌, ℕ, Option, Some, None, Result, Ok, Err, slice_get}
use Rattle.draid_names.specs.Faults.{Rose}
use Rattle.draid_names.specs.declared.fault.DeviceFault.{DeviceFault}
use Rattle.draid_names.specs.declared.fault.DeviceFault.TheVariants as device
use Rattle.draid_rack.specs.declared.Rack.{Ghosts}
use Rattle.draid_spec.specs.Geometry.{metaslab_sectors}
use Rattle.draid_shard.specs.declared.shard.Shard.{Shard}
use Rattle.draid_session.specs.Phases.{End, Went, Starved, Broke}
use Rattle.draid_pool.specs.declared.pool.Pool.{Pool}

-- a leaf was made there, as large as the others, and nothing but the rack is another
pub record Makes {R A : Type 0} (rack : Ghosts R) (leaf : ℕ) (old new : Shard R A) : Type 0 where
  pub rest : new ≡ record old { rack = new.rack }
  pub made : (rack.shape new.rack).leaves leaf ≡ Some (metaslab_sectors new.geometry)

-- how the making in all metaslabs ended, by its answer
abbrev pub end_of_making : Result Unit DeviceFault → End
end_of_making (Ok done) = Went
end_of_making (Err device.Failed) = Broke
end_of_making (Err device.NoMemory) = Starved

-- the count of a metaslab's rack as a whole rose
abbrev pub RackRose : {R A : Type 0} → (R → Option ℕ → ℕ) → Pool R A → Pool R A → Type 0
RackRose {R} {A} faults old new =
    (m : ℕ) × (before : Shard R A) × (after : Shard R A) × (slice_get old.metaslabs.shards.items m ≡ Some before) × (slice_get new.metaslabs.shards.items m ≡ Some after) × Rose (faults before.rack None) (faults after.rack None)
