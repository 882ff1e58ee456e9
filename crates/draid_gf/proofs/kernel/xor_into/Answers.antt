use Rattle.std.proofs.Common.{bit_xor, refl}
use Rattle.draid_gf.proofs.Kernels.{added_whole}
use Rattle.draid_gf.proofs.kernel.xor_into.Goals as goal

pub returns : goal.returns
returns c =
    added_whole bit_xor bit_xor c.args.from.now c.args.to.now c.xor_vectors-at.new.to c.xor_bytes.new.to c.xor_vectors-at.result c.requires refl
    c.xor_vectors-at.ensures c.xor_bytes.ensures
