use Rattle.std.proofs.Common.{◌+◌, ◌-◌, ◌^◌, ◌∙◌, [], take, drop, arith}
use Rattle.std.specs.Prelude.{slice_index}
use Rattle.std.proofs.lemmas.List.{get_or_default}
use Rattle.draid_parity.specs.Codeword.{weighted_sum}
use Rattle.draid_parity.specs.Columns.{byte_row}
use Rattle.draid_parity.proofs.Horner.{first_lanes, next_lanes, whole_lanes, power_byte, weighted_sum-byte}
use Rattle.draid_parity.proofs.fused.one_sum.Goals as goal

pub loop-i-init : goal.loop-i-init
loop-i-init g c =
    let p = c.args.parity in
    let columns = c.args.columns.now in
    first_lanes g.V.Rows.COUNT c.args.at p _ (2 ^ c.args.k) columns (g.V.Rows.bytes c.rows-sum.result) c.index-columns-parity.result c.requires.some
    (c.index-columns-parity.is ∙ get_or_default columns p c.index-columns-parity.result [] c.requires.some) (omega arith)
    c.rows-sum.ensures.lanes c.rows-sum.ensures.bytes

pub loop-i-preserved : goal.loop-i-preserved
loop-i-preserved g c =
    let p = c.args.parity in
    let at = c.args.at in
    let i = c.loop-i.i in
    let w = 2 ^ c.args.k in
    let columns = c.args.columns.now in
    let column = c.index-columns-i.result in
    let byte = power_byte c.args.k c.requires.kind in
    next_lanes g.V.Rows.COUNT at p i w columns (g.V.Rows.bytes c.rows.result) column (g.V.Rows.bytes c.horner-sum.result) (omega arith) c.loop-i-test.true byte
    (c.index-columns-i.is ∙ get_or_default columns i column [] c.loop-i-test.true)
    c.rows.ensures.lanes c.rows.ensures.bytes
    (c.horner-sum.ensures (λ j. weighted_sum w (take (i - p) (byte_row (at + j) (drop p columns)))) (λ j. slice_index column (at + j)) c.loop-i.invariant
    (λ j. weighted_sum-byte w (take (i - p) (byte_row (at + j) (drop p columns))) byte) c.rows.ensures.lanes)

pub returns : goal.returns
returns g c =
    whole_lanes g.V.Rows.COUNT c.args.at c.args.parity c.loop-i.i (2 ^ c.args.k) c.args.columns.now (g.V.Rows.bytes c.loop-i.sum) (omega arith) c.loop-i.invariant
