use Rattle.std.proofs.Common.{◌+◌, ◌≤◌, bit_xor, length, arith}
use Rattle.draid_gf.specs.Field.{field_product}
use Rattle.draid_gf.proofs.Kernels.{vector_added, sums_lanes, times_lanes}
use Rattle.draid_gf.proofs.kernel.mul_vectors.Goals as goal

pub vectors-preserved : goal.vectors-preserved
vectors-preserved c =
    let at = c.vectors.at in
    let left = c.vectors-test.true in
    let same = c.vectors.invariant.long in
    let both = c.requires in
    let room : at + 32 ≤ length c.vectors.to = omega (arith, left) in
    vector_added (λ t f. bit_xor t (field_product c.args.factor.now f)) c.args.from.now c.args.to.now c.vectors.to _ 0 at room c.vectors.invariant
    (sums_lanes (field_product c.args.factor.now) c.vectors.to c.args.from.now c.times-products.result at room
    (times_lanes (field_product c.args.factor.now) c.args.from.now c.times-products.result at (omega arith) c.times-products.ensures))
