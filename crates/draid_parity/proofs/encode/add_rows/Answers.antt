use Rattle.std.proofs.Common.{◌∙◌, [], ◌<◌, length, bit_xor, ap, sym, arith}
use Rattle.std.proofs.lemmas.List.{get_or_default}
use Rattle.std.proofs.lemmas.Simd.{length-zip2}
use Rattle.draid_parity.proofs.PairLemmas.{adds_rows}
use Rattle.draid_parity.proofs.encode.add_rows.Goals as goal

pub returns : goal.returns
returns g c =
    let old = c.args.columns.now.items in
    let below : c.args.x < length old = omega arith in
    adds_rows c.args.at g.V.Rows.COUNT c.args.x old c.put_rows.new.columns.items (g.V.Rows.bytes c.rows.result) (g.V.Rows.bytes c.args.rows)
    (g.V.Rows.bytes c.plus-sums.result) c.index.result.now (c.index.ensures ∙ get_or_default old c.args.x _ [] below)
    c.rows.ensures.lanes c.rows.ensures.bytes c.requires.count c.plus-sums.ensures c.put_rows.ensures

pub put_rows-requires-clause-count : goal.put_rows-requires-clause-count
put_rows-requires-clause-count g c =
    let long = c.rows.ensures.lanes.long in
    ap length c.plus-sums.ensures ∙ length-zip2 bit_xor (g.V.Rows.bytes c.rows.result) (g.V.Rows.bytes c.args.rows) (long ∙ sym c.requires.count) ∙ long
