use Rattle.std.proofs.Common.{ℕ, List, ◌+◌, ◌∙◌, [], ◌∷◌, sym, subst, arith}
use Rattle.draid_parity.specs.Rows.{IsSolvedBefore}
use Rattle.draid_parity.proofs.RowsLemmas.{none_of, solved_more}
use Rattle.draid_parity.proofs.triple.solve_rows.Goals as goal

pub rows-preserved : goal.rows-preserved
rows-preserved g c =
    let n = g.V.Rows.COUNT in
    let at = c.rows.at in
    let p : ℕ = 3 in
    let sums : List ℕ = 0 ∷ 1 ∷ 2 ∷ [] in
    let lost = c.args.x ∷ c.args.y ∷ c.args.z ∷ [] in
    let old = c.rows.columns.items in
    let new = c.solve_at.new.columns.items in
    let was = c.rows.invariant in
    let solves = c.solve_at.ensures in
    let counted = solves.count in
    let wide = was.len in
    let width = c.COUNT-at.ensures in
    let room = c.rows-test.true in
    record {
      stays = λ i not_x not_y not_z. solves.stays i (none_of i c.args.x c.args.y c.args.z not_x not_y not_z) ∙ was.stays i not_x not_y not_z;
      count = solves.count ∙ was.count;
      columns = λ i below. solves.long i ∙ was.columns i (omega arith);
      len = was.len;
      inside = omega (arith, wide);
      solved = subst (λ m. IsSolvedBefore p (at + m) sums lost new) (sym width) (solved_more p at n sums lost old new solves was.solved);
    }
