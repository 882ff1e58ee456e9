use Rattle.std.proofs.Common.{◌+◌, ◌≤◌, bit_xor, length, arith}
use Rattle.std.specs.Simd.Lanes.{chunk}
use Rattle.draid_gf.proofs.Kernels.{vector_added, sums_lanes, chunk_lanes}
use Rattle.draid_gf.proofs.kernel.xor_vectors.Goals as goal

pub vectors-preserved : goal.vectors-preserved
vectors-preserved c =
    let at = c.vectors.at in
    let left = c.vectors-test.true in
    let same = c.vectors.invariant.long in
    let both = c.requires in
    let room : at + 32 ≤ length c.vectors.to = omega (arith, left) in
    vector_added bit_xor c.args.from.now c.args.to.now c.vectors.to _ 0 at room c.vectors.invariant
    (sums_lanes (λ x. x) c.vectors.to c.args.from.now (chunk at 32 c.args.from.now) at room
    (chunk_lanes c.args.from.now at (omega arith)))
