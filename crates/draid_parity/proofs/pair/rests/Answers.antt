use Rattle.std.proofs.Common.{◌≡◌, ◌∙◌, [], ◌<◌, length, arith}
use Rattle.std.proofs.lemmas.List.{get_or_default}
use Rattle.draid_parity.specs.Columns.{column_at}
use Rattle.draid_parity.proofs.PairLemmas.{rest_lanes, rest_bytes}
use Rattle.draid_parity.proofs.pair.rests.Goals as goal

pub returns-clause-first : goal.returns-clause-first
returns-clause-first g c =
    let columns = c.args.columns.now in
    let below : c.args.k < length columns = omega arith in
    let is : c.index-columns-k.result ≡ column_at columns c.args.k = c.index-columns-k.is ∙ get_or_default columns c.args.k c.index-columns-k.result [] below in
    rest_lanes g.V.Rows.COUNT c.args.at c.args.k c.args.parity columns (g.V.Rows.bytes c.rows-low.result) (g.V.Rows.bytes c.two_sums-first.result.0)
    (g.V.Rows.bytes c.plus.result) c.index-columns-k.result is c.rows-low.ensures.lanes c.two_sums-first.ensures.first c.plus.ensures

pub returns-clause-second : goal.returns-clause-second
returns-clause-second g c =
    let columns = c.args.columns.now in
    let below : c.args.l < length columns = omega arith in
    let is : c.index-columns-l.result ≡ column_at columns c.args.l = c.index-columns-l.is ∙ get_or_default columns c.args.l c.index-columns-l.result [] below in
    rest_lanes g.V.Rows.COUNT c.args.at c.args.l c.args.parity columns (g.V.Rows.bytes c.rows-high.result) (g.V.Rows.bytes c.two_sums-first.result.1)
    (g.V.Rows.bytes c.plus-2.result) c.index-columns-l.result is c.rows-high.ensures.lanes c.two_sums-first.ensures.second c.plus-2.ensures

pub returns-clause-first_bytes : goal.returns-clause-first_bytes
returns-clause-first_bytes g c =
    let columns = c.args.columns.now in
    let below : c.args.k < length columns = omega arith in
    let is : c.index-columns-k.result ≡ column_at columns c.args.k = c.index-columns-k.is ∙ get_or_default columns c.args.k c.index-columns-k.result [] below in
    rest_bytes g.V.Rows.COUNT c.args.at c.args.k c.args.parity columns (g.V.Rows.bytes c.rows-low.result) c.index-columns-k.result (omega arith) is
    c.rows-low.ensures.lanes c.rows-low.ensures.bytes

pub returns-clause-second_bytes : goal.returns-clause-second_bytes
returns-clause-second_bytes g c =
    let columns = c.args.columns.now in
    let below : c.args.l < length columns = omega arith in
    let is : c.index-columns-l.result ≡ column_at columns c.args.l = c.index-columns-l.is ∙ get_or_default columns c.args.l c.index-columns-l.result [] below in
    rest_bytes g.V.Rows.COUNT c.args.at c.args.l c.args.parity columns (g.V.Rows.bytes c.rows-high.result) c.index-columns-l.result (omega arith) is
    c.rows-high.ensures.lanes c.rows-high.ensures.bytes
