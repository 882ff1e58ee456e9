-- Which metaslab of which pool a shard is.
use Rattle.std.specs.Prelude.{◌<◌, ◌≤◌, ◌+◌, ◌%◌, ℕ}
use Rattle.draid_spec.specs.declared.layout.Geometry.{Geometry}
use Rattle.draid_spec.specs.Geometry.{metaslab_stripes}
use Rattle.draid_perm.specs.declared.perms.Perms.{Perms}
use Rattle.draid_map.specs.Place.{IsLayout}
use Rattle.draid_machine.specs.State as machine
use Rattle.draid_layouts.specs.Layout.{layout_of}

-- a layout with its permutations, and the number of a metaslab
pub record Part : Type 0 where
  pub geometry : Geometry
  pub perms : Perms
  pub number : ℕ

-- the layout is one that `geometry` gives, with its permutations, and the metaslab is one of its own
pub record IsPart (part : Part) : Type 0 where
  pub layout : IsLayout part.geometry part.perms
  pub below : part.number < part.geometry.props.metaslabs

abbrev pub layout_in : Part → machine.Layout
layout_in part = layout_of part.geometry part.perms part.number

-- stripes of the metaslab that follow one another within one parity group
pub record IsRun (geometry : Geometry) (first stripes : ℕ) : Type 0 where
  pub some : 1 ≤ stripes
  pub inside : first + stripes ≤ metaslab_stripes geometry
  pub group : first % geometry.props.height + stripes ≤ geometry.props.height
