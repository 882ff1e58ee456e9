use Rattle.draid_parity.proofs.RowsLemmas.{sets_none, sets_more}
use Rattle.draid_parity.proofs.encode.encode_two.Goals as goal

pub returns : goal.returns
returns g c =
    let n = g.V.Rows.COUNT in
    let bytes = g.V.Rows.bytes in
    let at = c.args.at in
    let old = c.args.columns.now.items in
    let seen = c.deref.result.now in
    let same = c.deref.ensures.value in
    let step0 = sets_more 2 0 at n (bytes c.two_sums-p.result.0) old old c.put_rows.new.columns.items seen same (sets_none 2 at n old) c.put_rows.ensures c.two_sums-p.ensures.first in
    sets_more 2 1 at n (bytes c.two_sums-p.result.1) old c.put_rows.new.columns.items c.put_rows-2.new.columns.items seen same step0 c.put_rows-2.ensures c.two_sums-p.ensures.second
