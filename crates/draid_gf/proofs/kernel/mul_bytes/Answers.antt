use Rattle.std.proofs.Common.{bit_xor, ap}
use Rattle.std.specs.Prelude.{slice_index}
use Rattle.draid_gf.specs.Field.{field_product}
use Rattle.draid_gf.proofs.Kernels.{added_none, byte_added}
use Rattle.draid_gf.proofs.kernel.mul_bytes.Goals as goal

pub loop-i-init : goal.loop-i-init
loop-i-init c = added_none (λ t f. bit_xor t (field_product c.args.by f)) c.args.from.now c.args.to.now c.args.at c.requires.inside

pub loop-i-preserved : goal.loop-i-preserved
loop-i-preserved c =
    byte_added (λ t f. bit_xor t (field_product c.args.by f)) c.args.from.now c.args.to.now c.loop-i.to c.args.at c.loop-i.i _ c.loop-i-test.true c.loop-i.invariant
    (ap (bit_xor (slice_index c.loop-i.to c.loop-i.i)) c.mul.ensures.value)
