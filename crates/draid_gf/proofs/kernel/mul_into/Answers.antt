use Rattle.std.proofs.Common.{bit_xor, ap}
use Rattle.draid_gf.specs.Field.{field_product}
use Rattle.draid_gf.proofs.Kernels.{added_whole}
use Rattle.draid_gf.proofs.kernel.mul_into.Goals as goal

pub returns : goal.returns
returns c =
    added_whole (λ t f. bit_xor t (field_product c.args.by f)) _ c.args.from.now c.args.to.now c.mul_vectors-at.new.to c.mul_bytes.new.to c.mul_vectors-at.result c.requires (ap (λ by t f. bit_xor t (field_product by f)) c.new.ensures)
    c.mul_vectors-at.ensures c.mul_bytes.ensures
