use Rattle.std.proofs.Common.{◌<◌, ◌+◌, ◌-◌, ◌*◌, ◌/◌, arith}
use Rattle.std.proofs.Math.Nat.{mod-lt}
use Rattle.draid_spec.specs.Geometry.{metaslab_stripes}
use Rattle.draid_shard.specs.States.{part_of}
use Rattle.draid_shard.proofs.Placed.{place_by, slice_from, slice_low}
use Rattle.draid_shard.proofs.shard.Shard.stripe_place.Goals as goal

pub overflow_sub-slice : goal.overflow_sub-slice
overflow_sub-slice g c =
    rw (c.from-number.ensures, c.metaslab_stripes.ensures.value, c.from-height.ensures, c.from-ngroups.ensures, c.from.ensures)
    (slice_from (part_of c.args.self.now) c.requires.part c.args.pointer.now.first)

pub overflow_mul-result-2 : goal.overflow_mul-result-2
overflow_mul-result-2 g c =
    let some = c.requires.run.some in
    let inside = c.requires.run.inside in
    let less : c.args.pointer.now.first < metaslab_stripes c.args.self.now.geometry = omega (arith, some, inside) in
    let low = slice_low (part_of c.args.self.now) c.requires.part c.args.pointer.now.first _ c.slice_sectors.result less
    (λ i. (c.from-number.ensures i * c.metaslab_stripes.ensures.value i + c.args.pointer.now.first) / (c.from-height.ensures i * c.from-ngroups.ensures i) - c.from-number.ensures i * c.from.ensures i)
    c.slice_sectors.ensures.value in
    omega (arith, low)

pub overflow_add-result : goal.overflow_add-result
overflow_add-result g c =
    let some = c.requires.run.some in
    let inside = c.requires.run.inside in
    let less : c.args.pointer.now.first < metaslab_stripes c.args.self.now.geometry = omega (arith, some, inside) in
    let low = slice_low (part_of c.args.self.now) c.requires.part c.args.pointer.now.first _ c.slice_sectors.result less
    (λ i. (c.from-number.ensures i * c.metaslab_stripes.ensures.value i + c.args.pointer.now.first) / (c.from-height.ensures i * c.from-ngroups.ensures i) - c.from-number.ensures i * c.from.ensures i)
    c.slice_sectors.ensures.value in
    let least = c.requires.part.layout.geometry_is.props.least_height in
    let most = c.requires.part.layout.geometry_is.props.most_height in
    let height = c.from-height.ensures in
    let some_height : 0 < c.from-height.result = omega (arith, least, height) in
    let offset = mod-lt (c.from-number.result * c.metaslab_stripes.result + c.args.pointer.now.first) some_height in
    omega (arith, low, most, height, offset)

pub returns : goal.returns
returns g c =
    place_by (part_of c.args.self.now) c.requires.part c.args.pointer.now.first _ _ _ _ _ _ c.from-number.ensures c.metaslab_stripes.ensures.value c.from-height.ensures c.from-ngroups.ensures c.from.ensures
    c.slice_sectors.ensures.value
