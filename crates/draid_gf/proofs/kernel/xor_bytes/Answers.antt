use Rattle.std.proofs.Common.{bit_xor, refl}
use Rattle.draid_gf.proofs.Kernels.{added_none, byte_added}
use Rattle.draid_gf.proofs.kernel.xor_bytes.Goals as goal

pub loop-i-init : goal.loop-i-init
loop-i-init c = added_none bit_xor c.args.from.now c.args.to.now c.args.at c.requires.inside

pub loop-i-preserved : goal.loop-i-preserved
loop-i-preserved c =
    byte_added bit_xor c.args.from.now c.args.to.now c.loop-i.to c.args.at c.loop-i.i _ c.loop-i-test.true c.loop-i.invariant
    refl
