use Rattle.std.specs.Prelude.{◌+◌, ◌-◌, ◌*◌, ◌/◌, ℕ}
use Rattle.draid_spec.specs.declared.layout.Geometry.{Geometry}
use Rattle.draid_spec.specs.Geometry.{metaslab_sectors, metaslab_stripes}
use Rattle.draid_perm.specs.declared.perms.Perms.{Perms}
use Rattle.draid_map.specs.Place.{place_of}
use Rattle.draid_chain.specs.Chain.{chain_end, spare_slot}
use Rattle.draid_machine.specs.State.{Layout}

-- a stripe of a metaslab in the pool, and the slice of a stripe of the pool or of a metaslab
abbrev pub pool_stripe : Geometry → ℕ → ℕ → ℕ
pool_stripe geometry metaslab x = metaslab * metaslab_stripes geometry + x

abbrev pub slice_of : Geometry → ℕ → ℕ
slice_of geometry stripe = stripe / (geometry.props.height * geometry.ngroups)

abbrev pub slice_in : Geometry → ℕ → ℕ → ℕ
slice_in geometry metaslab x = slice_of geometry (pool_stripe geometry metaslab x)

-- the layout of a metaslab: a column's slot is the child of its place, and a spare keeps a stripe's sectors on the slot at which its chain ends in
-- that slice
abbrev pub layout_of : Geometry → Perms → ℕ → Layout
layout_of geometry perms metaslab = record {
  columns = geometry.g;
  parity = geometry.spec.parity;
  slots = geometry.spec.children;
  spares = geometry.spec.spares;
  stripes = metaslab_stripes geometry;
  height = geometry.props.height;
  sectors = metaslab_sectors geometry;
  slot_of = λ x column. (place_of geometry perms (pool_stripe geometry metaslab x) column).child;
  sector_of = λ x column. (place_of geometry perms (pool_stripe geometry metaslab x) column).sector - metaslab * metaslab_sectors geometry;
  home = λ first spare x. chain_end (spare_slot perms (slice_in geometry metaslab x)) first geometry.spec.spares spare;
}
