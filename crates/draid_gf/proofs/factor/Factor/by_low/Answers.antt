use Rattle.std.proofs.Common.{subst, ◌%◌, arith}
use Rattle.std.specs.Prelude.{slice_index}
use Rattle.draid_gf.specs.Field.{field_product}
use Rattle.draid_gf.specs.Lanes.{HasLanes}
use Rattle.draid_gf.proofs.LaneLemmas.{low_halves, SwzOk-halves, looked_up}
use Rattle.draid_gf.proofs.factor.Factor.by_low.Goals as goal

pub swizzle : goal.swizzle
swizzle c = SwzOk-halves _ (λ k. slice_index c.args.lanes k % 16) (low_halves c.args.lanes c.fits-lanes.0) (λ k low. omega arith)

pub returns : goal.returns
returns c =
    looked_up _ (λ k. slice_index c.args.lanes k % 16) (low_halves c.args.lanes c.fits-lanes.0) (λ k low. omega arith)
    c.self.inside.low (field_product c.args.self.now)
    (subst (λ by. HasLanes 32 c.self.inside.low (λ k. field_product by (k % 16))) c.self.view_is c.self.inside.lows)
