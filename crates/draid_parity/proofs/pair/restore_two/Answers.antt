use Rattle.std.proofs.Common.{◌≡◌, ◌-◌, ◌∙◌, ◌<◌, ◌≤◌, [], ◌∷◌, refl, sym, inl, inr, subst, length, arith}
use Rattle.draid_parity.specs.Columns.{IsColumn, column_at}
use Rattle.draid_parity.specs.Rows.{SolvesPair}
use Rattle.draid_parity.proofs.RowsLemmas.{solved_whole, solved_column}
use Rattle.draid_parity.proofs.pair.restore_two.Goals as goal

pub returns-clause-sums : goal.returns-clause-sums
returns-clause-sums c =
    let mid = c.solve_vectors-at.new.columns.items in
    let new = c.solve_rows.new.columns.items in
    let len = length (column_at mid 0) in
    let counted = c.solve_rows.ensures.count in
    let first = c.solve_vectors-at.ensures.count in
    let far = c.solve_rows.ensures.far in
    let k = c.args.k in
    let l = c.args.l in
    let sums = k ∷ l ∷ [] in
    let lost = c.args.x ∷ c.args.y ∷ [] in
    let enough : len ≤ c.solve_rows.result = omega (arith, far) in
    let k_below : k < length new = omega (arith, counted, first) in
    let l_below : l < length new = omega (arith, counted, first) in (
      solved_whole c.args.parity len c.solve_rows.result k sums lost new k_below c.solve_rows.ensures.columns enough c.solve_rows.ensures.solved (inl refl),
      solved_whole c.args.parity len c.solve_rows.result l sums lost new l_below c.solve_rows.ensures.columns enough c.solve_rows.ensures.solved (inr (inl refl)),
    )

pub returns-clause-first : goal.returns-clause-first
returns-clause-first c =
    let mid = c.solve_vectors-at.new.columns.items in
    let new = c.solve_rows.new.columns.items in
    let len = length (column_at mid 0) in
    let counted = c.solve_rows.ensures.count in
    let first = c.solve_vectors-at.ensures.count in
    let far = c.solve_rows.ensures.far in
    let enough : len ≤ c.solve_rows.result = omega (arith, far) in
    let below : c.args.x < length new = omega (arith, counted, first) in
    subst (λ n. IsColumn n (column_at new c.args.x)) (c.solve_vectors-at.ensures.columns 0 (omega (arith, first)))
    (solved_column c.args.parity len c.solve_rows.result c.args.x (c.args.k ∷ c.args.l ∷ []) (c.args.x ∷ c.args.y ∷ []) new below c.solve_rows.ensures.columns enough
    c.solve_rows.ensures.solved (inl refl))

pub returns-clause-second : goal.returns-clause-second
returns-clause-second c =
    let mid = c.solve_vectors-at.new.columns.items in
    let new = c.solve_rows.new.columns.items in
    let len = length (column_at mid 0) in
    let counted = c.solve_rows.ensures.count in
    let first = c.solve_vectors-at.ensures.count in
    let far = c.solve_rows.ensures.far in
    let enough : len ≤ c.solve_rows.result = omega (arith, far) in
    let below : c.args.y < length new = omega (arith, counted, first) in
    subst (λ n. IsColumn n (column_at new c.args.y)) (c.solve_vectors-at.ensures.columns 0 (omega (arith, first)))
    (solved_column c.args.parity len c.solve_rows.result c.args.y (c.args.k ∷ c.args.l ∷ []) (c.args.x ∷ c.args.y ∷ []) new below c.solve_rows.ensures.columns enough
    c.solve_rows.ensures.solved (inr (inl refl)))

pub solve_rows-requires-clause-pair : goal.solve_rows-requires-clause-pair
solve_rows-requires-clause-pair c =
    let counted = c.solve_vectors-at.ensures.count in
    let pair = c.pair_of-pair.result in
    let many = length c.solve_vectors-at.new.columns.items in
    let first : c.len.result ≡ many = omega (arith, counted) in
    let second : c.len-2.result ≡ many = c.len-2.ensures ∙ sym c.len.ensures ∙ first in
    subst (λ n. SolvesPair c.args.k c.args.l (many - 1 - c.args.x) (n - 1 - c.args.y) pair.node pair.between pair.over_first pair.over_second) second
    (subst (λ n. SolvesPair c.args.k c.args.l (n - 1 - c.args.x) (c.len-2.result - 1 - c.args.y) pair.node pair.between pair.over_first pair.over_second) first
    c.pair_of-pair.ensures.pair)

pub returns-clause-stays : goal.returns-clause-stays
returns-clause-stays c = λ i not_x not_y. c.solve_rows.ensures.stays i not_x not_y ∙ c.solve_vectors-at.ensures.stays i not_x not_y
