use Rattle.std.proofs.Common.{◌∙◌, [], arith}
use Rattle.std.proofs.lemmas.List.{get_or_default}
use Rattle.draid_parity.proofs.Horner.{next_sum}
use Rattle.draid_parity.proofs.fused.one_more.Goals as goal

pub returns : goal.returns
returns g c =
    let n = g.V.Rows.COUNT in
    let list = g.V.Rows.bytes in
    let at = c.args.at in
    let i = c.args.i in
    let columns = c.args.columns.now in
    let below = c.requires.there in
    let was = c.requires.sums in
    let column = c.index-columns-i.result in
    let is = c.index-columns-i.is ∙ get_or_default columns i column [] below in
    let row = c.rows-row in
    record {
      p = next_sum n at 3 i 0 columns (list c.args.sums.0) (list row.result) column (list c.horner-first.result) (omega arith) c.requires.data below is
          row.ensures.lanes row.ensures.bytes c.horner-first.ensures was.p;
      q = next_sum n at 3 i 1 columns (list c.args.sums.1) (list row.result) column (list c.horner-second.result) (omega arith) c.requires.data below is
          row.ensures.lanes row.ensures.bytes c.horner-second.ensures was.q;
      r = next_sum n at 3 i 2 columns (list c.args.sums.2) (list row.result) column (list c.horner-third.result) (omega arith) c.requires.data below is
          row.ensures.lanes row.ensures.bytes c.horner-third.ensures was.r;
    }
