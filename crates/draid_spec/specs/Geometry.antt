use Rattle.std.specs.Prelude.{◌≡◌, ◌==◌, ◌+◌, ◌*◌, ◌/◌, ◌≤◌, ◌||◌, ◌&&◌, not, Bool, true, ◌⊎◌, ℕ, nat_lt, nat_le, Result, Ok, Err, if◌then◌else◌}
use Rattle.std.specs.Int.{is_power_of_two}
use Rattle.std.specs.Result.{result_and}
use Rattle.draid_spec.specs.declared.spec.Spec.{Spec}
use Rattle.draid_spec.specs.declared.spec.SpecFault.{SpecFault}
use Rattle.draid_spec.specs.declared.spec.SpecFault.TheVariants.{Limit}
use Rattle.draid_spec.specs.declared.layout.Props.{Props}
use Rattle.draid_spec.specs.declared.layout.Geometry.{Geometry}
use Rattle.draid_spec.specs.Multiple.{lcm, IsLeastCommonMultiple}
use Rattle.draid_spec.specs.Spec.{need_of, have_of, IsSpec, checked_width}

-- a height: a power of two from 8 to 4096
abbrev pub is_height : ℕ → Bool
is_height height = is_power_of_two height && (nat_le 8 height && nat_le height 4096)

-- the properties are in range, one after another: b, h, m, l
abbrev pub checked_props : Props → Result Unit SpecFault
checked_props props =
    if not (props.sector == 512 || props.sector == 4096) then Err (Limit 98 props.sector)
    else if not (is_height props.height) then Err (Limit 104 props.height)
    else if not (nat_le 1 props.metaslabs && nat_le props.metaslabs 64) then Err (Limit 109 props.metaslabs)
    else if not (nat_le 1 props.slices && nat_le props.slices 1024) then Err (Limit 108 props.slices)
    else Ok tt

-- the sectors of a child, over all metaslabs
abbrev pub total_of : Props → ℕ → ℕ
total_of props rows = props.metaslabs * props.slices * rows * props.height

-- the groups of a slice, of g columns each, and its rows, over so many disks
abbrev pub ngroups_of : ℕ → ℕ → ℕ
ngroups_of g ndisks = lcm g ndisks / g

abbrev pub rows_of : ℕ → ℕ → ℕ
rows_of g ndisks = ngroups_of g ndisks * g / ndisks

-- the layout of a spec
abbrev pub layout_of : Spec → Props → Geometry
layout_of spec props =
    let g = need_of spec in
    let ndisks = have_of spec in
    record { spec = spec; props = props; g = g; ndisks = ndisks; ngroups = ngroups_of g ndisks; rows = rows_of g ndisks }

-- the layout, unless it has too many sectors: z
abbrev pub checked_layout : Geometry → Result Geometry SpecFault
checked_layout layout =
    let total = total_of layout.props layout.rows in
    if nat_lt 67108864 total then Err (Limit 122 total) else Ok layout

-- the version of a pool's format is 1 or 2: v
abbrev pub checked_version : ℕ → Result Unit SpecFault
checked_version version = if version == 1 || version == 2 then Ok tt else Err (Limit 118 version)

-- the layout, where the version, the width, the properties and the sectors are in range, looked at in this order
abbrev pub geometry_of : Spec → Props → Result Geometry SpecFault
geometry_of spec props =
    result_and (checked_version props.version) (result_and (checked_width spec)
    (result_and (checked_props props) (checked_layout (layout_of spec props))))

-- a version of a pool's format
abbrev pub IsVersion : ℕ → Type 0
IsVersion version = (version ≡ 1) ⊎ (version ≡ 2)

-- properties in their ranges
pub record IsProps (props : Props) : Type 0 where
  pub sector : (props.sector ≡ 512) ⊎ (props.sector ≡ 4096)
  pub power : is_power_of_two props.height ≡ true
  pub least_height : 8 ≤ props.height
  pub most_height : props.height ≤ 4096
  pub some_metaslabs : 1 ≤ props.metaslabs
  pub most_metaslabs : props.metaslabs ≤ 64
  pub some_slices : 1 ≤ props.slices
  pub most_slices : props.slices ≤ 1024

-- the groups of a slice fill its rows, and fewer would fill no whole rows
pub record FillsRows (g ndisks ngroups rows : ℕ) : Type 0 where
  pub least : IsLeastCommonMultiple g ndisks (ngroups * g)
  pub filled : ngroups * g ≡ rows * ndisks
  pub some_groups : 1 ≤ ngroups
  pub most_groups : ngroups ≤ ndisks
  pub some_rows : 1 ≤ rows
  pub most_rows : rows ≤ g

-- what holds of a layout that `geometry` gives, and of no other
pub record IsGeometry (geometry : Geometry) : Type 0 where
  pub version : IsVersion geometry.props.version
  pub spec : IsSpec geometry.props.version geometry.spec
  pub props : IsProps geometry.props
  pub columns : geometry.g ≡ geometry.spec.parity + geometry.spec.ndata
  pub disks : geometry.ndisks + geometry.spec.spares ≡ geometry.spec.children
  pub width : geometry.g ≤ geometry.ndisks
  pub slice : FillsRows geometry.g geometry.ndisks geometry.ngroups geometry.rows
  pub total : total_of geometry.props geometry.rows ≤ 67108864

-- the stripes of a metaslab: in each of its slices a height of them for each group
abbrev pub metaslab_stripes : Geometry → ℕ
metaslab_stripes geometry = geometry.props.slices * geometry.ngroups * geometry.props.height

-- the sectors that a metaslab has of each child: in each of its slices a height of them for each row
abbrev pub metaslab_sectors : Geometry → ℕ
metaslab_sectors geometry = geometry.props.slices * geometry.rows * geometry.props.height

-- the sectors that a slice has of each child: a height of them for each row
abbrev pub slice_sectors : Geometry → ℕ
slice_sectors geometry = geometry.rows * geometry.props.height

-- the slice that a sector of a child lies in
abbrev pub slice_at : Geometry → ℕ → ℕ
slice_at geometry sector = sector / slice_sectors geometry

-- the stripes of a pool, and the sectors of a child, over all metaslabs
abbrev pub pool_stripes : Geometry → ℕ
pool_stripes geometry = geometry.props.metaslabs * geometry.props.slices * geometry.ngroups * geometry.props.height

abbrev pub child_sectors : Geometry → ℕ
child_sectors geometry = total_of geometry.props geometry.rows
