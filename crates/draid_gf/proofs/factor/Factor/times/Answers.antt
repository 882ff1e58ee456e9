use Rattle.std.proofs.Common.{◌*◌, ◌/◌, ◌%◌, ◌∙◌, bit_xor}
use Rattle.std.specs.Prelude.{slice_index}
use Rattle.draid_gf.specs.Field.{field_product}
use Rattle.draid_gf.proofs.LaneLemmas.{HasLanes-zip2, mapped, lane_byte, product_of_halves}
use Rattle.draid_gf.proofs.factor.Factor.times.Goals as goal

pub returns : goal.returns
returns c =
    let by = c.args.self.now in
    let lanes = c.args.lanes in
    let both =
    HasLanes-zip2 32 bit_xor c.by_low.result c.by_high.result
    (λ k. field_product by (slice_index lanes k % 16)) (λ k. field_product by (16 * (slice_index lanes k / 16)))
    c.by_low.ensures c.by_high.ensures in
    mapped (field_product by) lanes _ c.fits-lanes.0
    (record {
      long = both.long;
      each = λ k low. both.each k low ∙ product_of_halves by (slice_index lanes k) (lane_byte lanes c.fits-lanes.0 c.fits-lanes.1 k low);
    })
