-- How many stripes and sectors a metaslab has.
use Rattle.std.proofs.Common.{◌*◌, ◌<◌, ◌≤◌, ◌^◌, arith}
use Rattle.std.proofs.Math.Nat.{mul-le-mul}
use Rattle.draid_names.specs.declared.numbers.TheConstants.{NUMBERS}
use Rattle.draid_spec.specs.declared.layout.Geometry.{Geometry}
use Rattle.draid_spec.specs.Geometry.{IsGeometry, metaslab_stripes}

-- a metaslab has few stripes
pub low_stripes : (geometry : Geometry) → IsGeometry geometry → metaslab_stripes geometry ≤ 2 ^ 28
low_stripes geometry is =
    let groups : geometry.ngroups ≤ 64 = (let a = is.slice.most_groups in let d = is.disks in let c = is.spec.most_children in omega (arith, a, d, c)) in
    let two : geometry.props.slices * geometry.ngroups ≤ 1024 * 64 = mul-le-mul is.props.most_slices groups in
    let three : geometry.props.slices * geometry.ngroups * geometry.props.height ≤ 1024 * 64 * 4096 = mul-le-mul two is.props.most_height in
    omega (arith, three)

pub few_stripes : (geometry : Geometry) → IsGeometry geometry → metaslab_stripes geometry ≤ NUMBERS
few_stripes geometry is = let low = low_stripes geometry is in omega (arith, low)

pub some_height : (geometry : Geometry) → IsGeometry geometry → 0 < geometry.props.height
some_height geometry is = let least : 8 ≤ geometry.props.height = is.props.least_height in omega (arith, least)
