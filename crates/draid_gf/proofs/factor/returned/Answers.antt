use Rattle.std.proofs.Common.{◌/◌}
use Rattle.std.specs.Prelude.{slice_index}
use Rattle.draid_gf.specs.Lanes.{returned_by_four}
use Rattle.draid_gf.proofs.LaneLemmas.{SwzOk-halves, high_pairs, looked_up, pairs_small, returned_twice}
use Rattle.draid_gf.proofs.factor.returned.Goals as goal

pub swizzle : goal.swizzle
swizzle c =
    SwzOk-halves _ (λ k. slice_index c.args.lanes k / 64) (high_pairs c.args.lanes c.fits-lanes.0) (pairs_small c.args.lanes c.fits-lanes.0 c.fits-lanes.1)

pub returns : goal.returns
returns c =
    looked_up _ (λ k. slice_index c.args.lanes k / 64) (high_pairs c.args.lanes c.fits-lanes.0) (pairs_small c.args.lanes c.fits-lanes.0 c.fits-lanes.1)
    c.twice.result returned_by_four (returned_twice c.twice.result c.twice.ensures)
