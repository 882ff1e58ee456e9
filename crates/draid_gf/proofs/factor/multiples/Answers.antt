use Rattle.std.proofs.Common.{◌*◌, ◌∙◌, arith, length-set}
use Rattle.draid_gf.specs.Field.{field_product}
use Rattle.draid_gf.proofs.Kernels.{one_listed}
use Rattle.draid_gf.proofs.factor.multiples.Goals as goal

pub loop-i-preserved : goal.loop-i-preserved
loop-i-preserved c =
    let long = c.loop-i.invariant.long in
    record {
      long = length-set c.loop-i.products c.loop-i.i c.mul.result ∙ long;
      listed =
          one_listed (λ k. field_product c.args.by (c.args.step * k)) c.loop-i.products c.loop-i.i c.mul.result (omega (arith, long))
          c.loop-i.invariant.listed c.mul.ensures.value;
    }
