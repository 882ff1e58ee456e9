use Rattle.std.proofs.Common.{◌<◌, ◌≤◌, [], ◌∷◌, length, inl, refl, arith}
use Rattle.draid_parity.specs.Columns.{column_at}
use Rattle.draid_parity.proofs.RowsLemmas.{solved_whole}
use Rattle.draid_parity.proofs.sums.encode_sum.Goals as goal

pub returns-clause-sum : goal.returns-clause-sum
returns-clause-sum c =
    let mid = c.encode_rows-at.new.columns.items in
    let new = c.encode_rows.new.columns.items in
    let len = length (column_at mid 0) in
    let counted = c.encode_rows.ensures.count in
    let first = c.encode_rows-at.ensures.count in
    let far = c.encode_rows.ensures.far in
    let enough : len ≤ c.encode_rows.result = omega (arith, far) in
    let below : c.args.k < length new = omega (arith, counted, first) in
    solved_whole c.args.parity len c.encode_rows.result c.args.k (c.args.k ∷ []) (c.args.k ∷ []) new below c.encode_rows.ensures.columns enough c.encode_rows.ensures.solved (inl refl)
