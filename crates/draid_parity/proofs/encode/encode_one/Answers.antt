use Rattle.draid_parity.proofs.RowsLemmas.{sets_none, sets_more}
use Rattle.draid_parity.proofs.encode.encode_one.Goals as goal

pub returns : goal.returns
returns g c =
    let n = g.V.Rows.COUNT in
    let bytes = g.V.Rows.bytes in
    let at = c.args.at in
    let old = c.args.columns.now.items in
    let seen = c.deref.result.now in
    let same = c.deref.ensures.value in
    sets_more 1 0 at n (bytes c.one_sum-p.result) old old c.put_rows.new.columns.items seen same (sets_none 1 at n old) c.put_rows.ensures c.one_sum-p.ensures
