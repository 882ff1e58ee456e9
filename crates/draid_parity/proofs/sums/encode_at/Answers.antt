use Rattle.std.proofs.Common.{arith}
use Rattle.draid_parity.proofs.TripleLemmas.{encodes_one}
use Rattle.draid_parity.proofs.sums.encode_at.Goals as goal

pub returns : goal.returns
returns g c =
    encodes_one c.args.parity c.args.at g.V.Rows.COUNT c.args.k (g.V.Rows.bytes c.one_sum-sum.result) c.args.columns.now.items c.put_rows.new.columns.items
    c.deref.result.now c.deref.ensures.value (omega arith) c.requires.parity c.one_sum-sum.ensures c.put_rows.ensures
