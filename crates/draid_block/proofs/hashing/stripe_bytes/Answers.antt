use Rattle.std.proofs.Common.{◌≡◌, ◌*◌, ◌∙◌, min, arith, refl, ap}
use Rattle.draid_parity.specs.Columns.{StripeValue}
use Rattle.draid_block.specs.Columns.{Cut, sectors_in}
use Rattle.draid_block.specs.Blocks.{cut_of}
use Rattle.draid_block.proofs.Upto.{upto_none, upto_more, part_fits, left_more}
use Rattle.draid_block.proofs.hashing.stripe_bytes.Goals as goal

pub loop-i-init : goal.loop-i-init
loop-i-init c =
    let items = c.in_ok-bytes.ensures.items in
    rw (upto_none (cut_of c.args.geometry.now) c.args.len c.args.stripe.now.columns, items) (record { holds = refl; left = omega arith })

pub slice_bounds-extend_from_slice-end : goal.slice_bounds-extend_from_slice-end
slice_bounds-extend_from_slice-end c =
    let long = c.column-column.ensures.len ∙ ap (λ (s : StripeValue). s.len) c.requires.shape in
    part_fits (cut_of c.args.geometry.now) c.args.len c.loop-i.i c.min-end.result c.loop-i.left c.column-column.result.now
    (c.min-end.ensures ∙ ap (λ m. min m c.loop-i.left) c.part_bytes.ensures) long

pub loop-i-preserved : goal.loop-i-preserved
loop-i-preserved c =
    let cut : Cut = cut_of c.args.geometry.now in
    let was = c.loop-i.invariant in
    let long = c.column-column.ensures.len ∙ ap (λ (s : StripeValue). s.len) c.requires.shape in
    let end : c.min-end.result ≡ min (sectors_in cut c.args.len c.loop-i.i * cut.sector) c.loop-i.left = c.min-end.ensures ∙ ap (λ m. min m c.loop-i.left) c.part_bytes.ensures in
    let same = was.holds in
    let left = rw same at was.left in
    let more = upto_more cut c.args.len c.args.stripe.now.columns c.column-column.result.now c.loop-i.i c.min-end.result c.loop-i.left left end c.column-column.ensures.value in
    let fits = part_fits cut c.args.len c.loop-i.i c.min-end.result c.loop-i.left c.column-column.result.now end long in
    let new = c.in_ok-extend_from_slice.ensures.items in
    rw new
    (record {
      holds = rw same more;
      left = left_more c.loop-i.left c.min-end.result _ c.column-column.result.now c.args.len was.left (omega arith) fits;
    })
