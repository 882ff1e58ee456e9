use Rattle.std.proofs.Common.{◌∙◌, arith}
use Rattle.std.specs.List.{range_with_len}
use Rattle.std.proofs.lemmas.Simd.{pick_l_left, pick_l-range_with_len}
use Rattle.draid_parity.proofs.rows.first_half.Goals as goal

pub returns : goal.returns
returns c =
    let lanes = c.args.lanes in
    let long = c.fits-lanes.0 in
    pick_l_left 0 lanes lanes 64 (range_with_len 0 32) long tt ∙ pick_l-range_with_len 0 lanes 0 32 (omega arith)
