use Rattle.std.proofs.Common.{◌≡◌, ◌∙◌, [], ◌<◌, length, arith}
use Rattle.std.proofs.lemmas.List.{get_or_default}
use Rattle.draid_parity.specs.Columns.{column_at}
use Rattle.draid_parity.proofs.PairLemmas.{rest_lanes, rest_bytes}
use Rattle.draid_parity.proofs.single.rest.Goals as goal

pub returns-clause-lanes : goal.returns-clause-lanes
returns-clause-lanes g c =
    let columns = c.args.columns.now in
    let below : c.args.k < length columns = omega arith in
    let is : c.index-columns-k.result ≡ column_at columns c.args.k = c.index-columns-k.is ∙ get_or_default columns c.args.k c.index-columns-k.result [] below in
    rest_lanes g.V.Rows.COUNT c.args.at c.args.k c.args.parity columns (g.V.Rows.bytes c.rows-row.result) (g.V.Rows.bytes c.one_sum-sum.result)
    (g.V.Rows.bytes c.plus.result) c.index-columns-k.result is c.rows-row.ensures.lanes c.one_sum-sum.ensures c.plus.ensures

pub returns-clause-bytes : goal.returns-clause-bytes
returns-clause-bytes g c =
    let columns = c.args.columns.now in
    let below : c.args.k < length columns = omega arith in
    let is : c.index-columns-k.result ≡ column_at columns c.args.k = c.index-columns-k.is ∙ get_or_default columns c.args.k c.index-columns-k.result [] below in
    rest_bytes g.V.Rows.COUNT c.args.at c.args.k c.args.parity columns (g.V.Rows.bytes c.rows-row.result) c.index-columns-k.result (omega arith) is
    c.rows-row.ensures.lanes c.rows-row.ensures.bytes
