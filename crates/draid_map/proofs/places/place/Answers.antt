use Rattle.std.proofs.Common.{◌≡◌, ◌+◌, ◌*◌, ◌/◌, ◌%◌, ◌<◌, arith}
use Rattle.std.proofs.Math.Nat.{mod-lt}
use Rattle.draid_map.proofs.Apart.{slice_of_stripe, row_of_column}
use Rattle.draid_map.proofs.places.place.Goals as goal

pub number-requires-clause-slice : goal.number-requires-clause-slice
number-requires-clause-slice c =
    let is : c.of-spot.result.slice ≡ c.args.stripe / (c.args.geometry.now.props.height * c.args.geometry.now.ngroups) = cc in
    let below = slice_of_stripe c.args.geometry.now c.args.stripe c.requires.layout.geometry_is c.requires.stripe in
    omega arith

pub number-requires-clause-band : goal.number-requires-clause-band
number-requires-clause-band c =
    let some : 0 < c.args.geometry.now.ngroups = omega arith in
    let group = mod-lt (c.args.stripe / c.args.geometry.now.props.height) some in
    let below = row_of_column c.args.geometry.now (c.args.stripe / c.args.geometry.now.props.height % c.args.geometry.now.ngroups) c.args.column c.requires.layout.geometry_is group c.requires.column in
    let is : (c.of-spot.result.band * c.from-2.result + c.from-3.result) / c.from-ndisks.result
    ≡ (c.args.stripe / c.args.geometry.now.props.height % c.args.geometry.now.ngroups * c.args.geometry.now.g + c.args.column) / c.args.geometry.now.ndisks = cc in
    omega arith
