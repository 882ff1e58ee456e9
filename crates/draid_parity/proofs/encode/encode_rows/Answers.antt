use Rattle.std.proofs.Common.{◌+◌, ◌∙◌, sym, subst, arith}
use Rattle.draid_parity.specs.Rows.{HasSumBefore}
use Rattle.draid_parity.proofs.RowsLemmas.{sums_more}
use Rattle.draid_parity.proofs.encode.encode_rows.Goals as goal

pub rows-preserved : goal.rows-preserved
rows-preserved g c =
    let n = g.V.Rows.COUNT in
    let at = c.rows.at in
    let old = c.rows.columns.items in
    let new = c.encode_at.new.columns.items in
    let was = c.rows.invariant in
    let sets = c.encode_at.ensures in
    let counted = sets.count in
    let width = c.COUNT-at.ensures in
    let wide = was.len in
    let room = c.rows-test.true in
    record {
      stays = λ i above. sets.stays i above ∙ was.stays i above;
      count = sets.count ∙ was.count;
      columns = λ i below. sets.long i ∙ was.columns i (omega arith);
      len = was.len;
      inside = omega (arith, wide);
      sums = λ k below.
          subst (λ m. HasSumBefore (at + m) c.args.parity new k) (sym width)
          (sums_more c.args.parity at n k old new sets below (was.sums k below));
    }
