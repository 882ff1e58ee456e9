use Rattle.std.proofs.Common.{◌+◌, ◌∙◌, [], ◌∷◌, sym, subst, arith}
use Rattle.draid_parity.specs.Rows.{IsSolvedBefore}
use Rattle.draid_parity.proofs.RowsLemmas.{not_this, solved_more}
use Rattle.draid_parity.proofs.sums.encode_rows.Goals as goal

pub rows-preserved : goal.rows-preserved
rows-preserved g c =
    let n = g.V.Rows.COUNT in
    let at = c.rows.at in
    let p = c.args.parity in
    let sums = c.args.k ∷ [] in
    let lost = c.args.k ∷ [] in
    let old = c.rows.columns.items in
    let new = c.encode_at.new.columns.items in
    let was = c.rows.invariant in
    let solves = c.encode_at.ensures in
    let counted = solves.count in
    let wide = was.len in
    let width = c.COUNT-at.ensures in
    let room = c.rows-test.true in
    record {
      stays = λ i not_k. solves.stays i (not_this i c.args.k not_k) ∙ was.stays i not_k;
      count = solves.count ∙ was.count;
      columns = λ i below. solves.long i ∙ was.columns i (omega arith);
      len = was.len;
      inside = omega (arith, wide);
      solved = subst (λ m. IsSolvedBefore p (at + m) sums lost new) (sym width) (solved_more p at n sums lost old new solves was.solved);
    }
