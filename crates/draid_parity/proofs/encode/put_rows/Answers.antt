use Rattle.std.proofs.Common.{◌<◌, ◌∙◌, [], length, arith}
use Rattle.std.proofs.lemmas.List.{get_or_default}
use Rattle.draid_parity.proofs.RowsLemmas.{puts_rows}
use Rattle.draid_parity.proofs.encode.put_rows.Goals as goal

pub returns : goal.returns
returns g c =
    let below : c.args.k < length c.args.columns.now.items = omega arith in
    puts_rows c.args.at g.V.Rows.COUNT c.args.k (g.V.Rows.bytes c.args.rows) c.args.columns.now.items c.index_mut.result.now c.put.new.self
    below c.requires.inside c.requires.count
    (c.index_mut.ensures.value ∙ get_or_default c.args.columns.now.items c.args.k _ [] below) c.put.ensures
