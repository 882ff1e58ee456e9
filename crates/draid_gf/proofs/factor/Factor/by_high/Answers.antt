use Rattle.std.proofs.Common.{subst, ◌*◌, ◌/◌, ◌%◌}
use Rattle.std.specs.Prelude.{slice_index}
use Rattle.draid_gf.specs.Field.{field_product}
use Rattle.draid_gf.specs.Lanes.{HasLanes}
use Rattle.draid_gf.proofs.LaneLemmas.{high_halves, high_small, SwzOk-halves, looked_up}
use Rattle.draid_gf.proofs.factor.Factor.by_high.Goals as goal

pub swizzle : goal.swizzle
swizzle c =
    SwzOk-halves _ (λ k. slice_index c.args.lanes k / 16) (high_halves c.args.lanes c.fits-lanes.0) (high_small c.args.lanes c.fits-lanes.0 c.fits-lanes.1)

pub returns : goal.returns
returns c =
    looked_up _ (λ k. slice_index c.args.lanes k / 16) (high_halves c.args.lanes c.fits-lanes.0) (high_small c.args.lanes c.fits-lanes.0 c.fits-lanes.1)
    c.self.inside.high (λ x. field_product c.args.self.now (16 * x))
    (subst (λ by. HasLanes 32 c.self.inside.high (λ k. field_product by (16 * (k % 16)))) c.self.view_is c.self.inside.highs)
