use Rattle.std.proofs.Common.{◌*◌, ◌/◌, ◌%◌, ◌^◌, ◌∙◌, bit_xor}
use Rattle.std.specs.Prelude.{slice_index}
use Rattle.draid_gf.specs.Field.{field_product}
use Rattle.draid_gf.specs.Lanes.{returned_by_four}
use Rattle.draid_gf.proofs.LaneLemmas.{HasLanes-splat, HasLanes-zip2, four_times_byte, lane_byte, mapped}
use Rattle.draid_gf.proofs.factor.four_times.Goals as goal

pub returns : goal.returns
returns c =
    let lanes = c.args.lanes in
    let both =
    HasLanes-zip2 32 bit_xor _ c.returned.result (λ k. slice_index lanes k * 2 ^ 2 % 256) (λ k. returned_by_four (slice_index lanes k / 64))
    (HasLanes-splat (λ a b. a * 2 ^ b % 256) lanes 2 c.fits-lanes.0) c.returned.ensures in
    mapped (field_product 4) lanes _ c.fits-lanes.0
    (record {
      long = both.long;
      each = λ k low. both.each k low ∙ four_times_byte (slice_index lanes k) (lane_byte lanes c.fits-lanes.0 c.fits-lanes.1 k low);
    })
