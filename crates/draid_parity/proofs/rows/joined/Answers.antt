use Rattle.std.proofs.Common.{◌+◌, ◌∙◌, ◌++◌, ap₂, length-append}
use Rattle.std.proofs.lemmas.Simd.{pick_l_whole}
use Rattle.draid_parity.proofs.rows.joined.Goals as goal

pub returns : goal.returns
returns c =
    let low = c.args.low in
    let high = c.args.high in
    pick_l_whole 0 (low ++ high) 64 (length-append low high ∙ ap₂ (λ m n. m + n) c.fits-low.0 c.fits-high.0)
