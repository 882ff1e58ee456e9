use Rattle.std.proofs.Common.{◌≡◌, ◌+◌, ◌*◌, ◌/◌, ◌%◌, ◌<◌, sym, ap, ◌∙◌, arith}
use Rattle.draid_spec.specs.Geometry.{child_sectors}
use Rattle.std.proofs.Math.Nat.{mod-lt}
use Rattle.draid_perm.specs.Perms.{child_of}
use Rattle.draid_map.proofs.Apart.{slice_of_sector, group_of_position, column_owns}
use Rattle.draid_map.proofs.places.owner.Goals as goal

pub number-requires-clause-slice : goal.number-requires-clause-slice
number-requires-clause-slice c =
    let within : c.args.sector < child_sectors c.args.geometry.now = omega arith in
    let is : c.of-spot.result.slice ≡ c.args.sector / (c.args.geometry.now.props.height * c.args.geometry.now.rows) = cc in
    let below = slice_of_sector c.args.geometry.now c.args.sector c.requires.layout.geometry_is within in
    omega arith

pub number-requires-clause-band : goal.number-requires-clause-band
number-requires-clause-band c =
    let some : 0 < c.args.geometry.now.rows = omega arith in
    let row = mod-lt (c.args.sector / c.args.geometry.now.props.height) some in
    let position : c.position-position.result < c.args.geometry.now.ndisks = omega arith in
    let below = group_of_position c.args.geometry.now (c.args.sector / c.args.geometry.now.props.height % c.args.geometry.now.rows) c.position-position.result c.requires.layout.geometry_is row position in
    let is : (c.of-spot.result.band * c.from-2.result + c.from-3.result) / c.from-g.result
    ≡ (c.args.sector / c.args.geometry.now.props.height % c.args.geometry.now.rows * c.args.geometry.now.ndisks + c.position-position.result) / c.args.geometry.now.g = cc in
    omega arith

pub returns : goal.returns
returns c =
    let within : c.args.sector < child_sectors c.args.geometry.now = omega arith in
    let position : c.position-position.result < c.args.geometry.now.ndisks = omega arith in
    let slice : c.of-spot.result.slice ≡ c.args.sector / (c.args.geometry.now.props.height * c.args.geometry.now.rows) = cc in
    record {
      owns =
          column_owns c.args.geometry.now c.args.perms.now c.args.child c.args.sector c.position-position.result _ _ c.requires.layout.geometry_is within position
          (ap (λ q. child_of c.args.perms.now q c.position-position.result) (sym slice) ∙ c.position-position.ensures.inverse)
          (cc) (cc);
    }
