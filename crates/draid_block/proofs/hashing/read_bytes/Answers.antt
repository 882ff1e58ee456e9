use Rattle.std.proofs.Common.{◌≡◌, ℕ, ◌+◌, ◌*◌, ◌∙◌, List, length, take, min, arith, refl, ap}
use Rattle.draid_parity.specs.Columns.{column_at}
use Rattle.draid_block.specs.Columns.{Cut, sectors_in}
use Rattle.draid_block.specs.Blocks.{cut_of}
use Rattle.draid_block.specs.Solving.{read_of}
use Rattle.draid_block.proofs.Upto.{upto_none, upto_more, part_fits, left_more}
use Rattle.draid_block.proofs.hashing.read_bytes.Goals as goal

pub loop-i-init : goal.loop-i-init
loop-i-init c =
    let items = c.in_ok-bytes.ensures.items in
    rw (upto_none (cut_of c.args.geometry.now) c.args.len (read_of c.args.columns.now), items) (record { holds = refl; left = omega arith })

pub loop-i-preserved : goal.loop-i-preserved
loop-i-preserved c =
    let cut : Cut = cut_of c.args.geometry.now in
    let was = c.loop-i.invariant in
    let column : List ℕ = column_at (read_of c.args.columns.now) (c.args.geometry.now.spec.parity + c.loop-i.i) in
    let end : c.min-end.result ≡ min (sectors_in cut c.args.len c.loop-i.i * cut.sector) c.loop-i.left = c.min-end.ensures ∙ ap (λ m. min m c.loop-i.left) c.part_bytes.ensures in
    let count = c.requires.count in
    let long = c.requires.long (c.args.geometry.now.spec.parity + c.loop-i.i) (omega arith) in
    let same = was.holds in
    let left = rw same at was.left in
    let more = upto_more cut c.args.len (read_of c.args.columns.now) column c.loop-i.i c.min-end.result c.loop-i.left left end refl in
    let fits = part_fits cut c.args.len c.loop-i.i c.min-end.result c.loop-i.left column end long in
    let front : take c.min-end.result c.read_column.result.now ≡ take c.min-end.result column = ap (λ (l : List ℕ). take c.min-end.result l) c.read_column.ensures in
    let new = c.in_ok-extend_from_slice.ensures.items in
    rw (new, front)
    (record {
      holds = rw same more;
      left = left_more c.loop-i.left c.min-end.result _ column c.args.len was.left (omega arith) fits;
    })

pub slice_bounds-extend_from_slice-end : goal.slice_bounds-extend_from_slice-end
slice_bounds-extend_from_slice-end c =
    let cut : Cut = cut_of c.args.geometry.now in
    let end : c.min-end.result ≡ min (sectors_in cut c.args.len c.loop-i.i * cut.sector) c.loop-i.left = c.min-end.ensures ∙ ap (λ m. min m c.loop-i.left) c.part_bytes.ensures in
    let count = c.requires.count in
    let long = c.requires.long (c.args.geometry.now.spec.parity + c.loop-i.i) (omega arith) in
    part_fits cut c.args.len c.loop-i.i c.min-end.result c.loop-i.left c.read_column.result.now end (ap length c.read_column.ensures ∙ long)
