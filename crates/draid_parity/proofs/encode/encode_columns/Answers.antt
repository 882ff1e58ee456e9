use Rattle.std.proofs.Common.{arith}
use Rattle.draid_parity.specs.Columns.{column_at}
use Rattle.std.proofs.Common.{length}
use Rattle.draid_parity.proofs.RowsLemmas.{sums_whole}
use Rattle.draid_parity.proofs.encode.encode_columns.Goals as goal

pub returns-clause-sums : goal.returns-clause-sums
returns-clause-sums c =
    let mid = c.encode_vectors-at.new.columns.items in
    let far = c.encode_rows.ensures.far in
    let counted = c.encode_rows.ensures.count in
    let first = c.encode_vectors-at.ensures.count in
    λ k below.
    sums_whole c.args.parity (length (column_at mid 0)) c.encode_rows.result k c.encode_rows.new.columns.items (omega arith)
    c.encode_rows.ensures.columns (omega arith) (c.encode_rows.ensures.sums k below)
