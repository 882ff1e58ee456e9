use Rattle.std.proofs.Common.{◌+◌, ◌^◌, ◌∙◌, [], arith}
use Rattle.std.proofs.lemmas.List.{get_or_default}
use Rattle.draid_parity.proofs.Horner.{next_sum, whole_lanes}
use Rattle.draid_parity.proofs.fused.two_sums.Goals as goal

pub returns-then-i-columns-clause-first : goal.returns-then-i-columns-clause-first
returns-then-i-columns-clause-first g c =
    let n = g.V.Rows.COUNT in
    let list = g.V.Rows.bytes in
    let p = c.args.parity in
    let sums = c.paired_sums-first in
    let i = sums.result.2 in
    let columns = c.args.columns.now in
    let below = c.if-i-columns.true in
    let some = sums.ensures.some in
    let past = sums.ensures.past in
    let column = c.index-columns-i.result in
    let row = c.rows-row in
    let is = c.index-columns-i.is ∙ get_or_default columns i column [] below in
    whole_lanes n c.args.at p (i + 1) (2 ^ c.args.k) columns (list c.horner.result) (omega (arith, past))
    (next_sum n c.args.at p i c.args.k columns (list sums.result.0) (list row.result) column (list c.horner.result) c.requires.kind (omega (arith, some)) below is
    row.ensures.lanes row.ensures.bytes c.horner.ensures sums.ensures.first)

pub returns-else-i-columns-clause-first : goal.returns-else-i-columns-clause-first
returns-else-i-columns-clause-first g c =
    let sums = c.paired_sums-first in
    let far = c.if-i-columns.false in
    whole_lanes g.V.Rows.COUNT c.args.at c.args.parity sums.result.2 (2 ^ c.args.k) c.args.columns.now (g.V.Rows.bytes sums.result.0) (omega (arith, far)) sums.ensures.first

pub returns-then-i-columns-clause-second : goal.returns-then-i-columns-clause-second
returns-then-i-columns-clause-second g c =
    let n = g.V.Rows.COUNT in
    let list = g.V.Rows.bytes in
    let p = c.args.parity in
    let sums = c.paired_sums-first in
    let i = sums.result.2 in
    let columns = c.args.columns.now in
    let below = c.if-i-columns.true in
    let some = sums.ensures.some in
    let past = sums.ensures.past in
    let column = c.index-columns-i.result in
    let row = c.rows-row in
    let is = c.index-columns-i.is ∙ get_or_default columns i column [] below in
    whole_lanes n c.args.at p (i + 1) (2 ^ c.args.l) columns (list c.horner-then-i-columns.result) (omega (arith, past))
    (next_sum n c.args.at p i c.args.l columns (list sums.result.1) (list row.result) column (list c.horner-then-i-columns.result) c.requires.other (omega (arith, some)) below is
    row.ensures.lanes row.ensures.bytes c.horner-then-i-columns.ensures sums.ensures.second)

pub returns-else-i-columns-clause-second : goal.returns-else-i-columns-clause-second
returns-else-i-columns-clause-second g c =
    let sums = c.paired_sums-first in
    let far = c.if-i-columns.false in
    whole_lanes g.V.Rows.COUNT c.args.at c.args.parity sums.result.2 (2 ^ c.args.l) c.args.columns.now (g.V.Rows.bytes sums.result.1) (omega (arith, far)) sums.ensures.second
