use Rattle.std.specs.Prelude.{◌+◌, ◌-◌, ◌*◌, ◌/◌, ◌%◌, ℕ}
use Rattle.draid_spec.specs.declared.layout.Geometry.{Geometry}
use Rattle.draid_spec.specs.Geometry.{IsGeometry, slice_at}
use Rattle.draid_perm.specs.declared.perms.Perms.{Perms}
use Rattle.draid_perm.specs.Perms.{AreSeeded, child_of}
use Rattle.draid_map.specs.declared.sectors.Place.{Place}

-- a layout that `geometry` gives, and the permutations of its children by its seed
pub record IsLayout (geometry : Geometry) (perms : Perms) : Type 0 where
  pub geometry_is : IsGeometry geometry
  pub perms_are : AreSeeded perms geometry.spec.children geometry.props.seed

-- the place of a column: stripe k is stripe k mod height of a group of a slice, the columns of a slice's groups
-- stand one after another in the rows of the disks, and each slice has a permutation of its own
abbrev pub place_of : Geometry → Perms → ℕ → ℕ → Place
place_of geometry perms stripe column =
    let height = geometry.props.height in
    let slice = stripe / (height * geometry.ngroups) in
    let group = stripe / height % geometry.ngroups in
    let index = group * geometry.g + column in
    record {
      child = child_of perms slice (index % geometry.ndisks);
      sector = (slice * geometry.rows + index / geometry.ndisks) * height + stripe % height;
    }

-- the child that keeps a sector for a spare: the spares have the last positions
abbrev pub spare_child_of : Geometry → Perms → ℕ → ℕ → ℕ
spare_child_of geometry perms spare sector =
    child_of perms (slice_at geometry sector) (geometry.spec.children - 1 - spare)
