use Rattle.std.proofs.Common.{◌≡◌, ℕ, zero, suc, ◌-◌, ◌<◌, ◌≤◌, ◌∙◌, [], ◌∷◌, length, inl, inr, refl, subst, arith}
use Rattle.draid_parity.specs.Columns.{IsColumn, column_at}
use Rattle.draid_parity.specs.Rows.{IsOneOf, SolvesTriple}
use Rattle.draid_parity.proofs.RowsLemmas.{solved_whole, solved_column}
use Rattle.draid_parity.proofs.triple.restore_three.Goals as goal

pub returns-clause-sums : goal.returns-clause-sums
returns-clause-sums c = λ k kind.
    let mid = c.solve_rows-at.new.columns.items in
    let new = c.solve_rows.new.columns.items in
    let len = length (column_at mid 0) in
    let counted = c.solve_rows.ensures.count in
    let first = c.solve_rows-at.ensures.count in
    let far = c.solve_rows.ensures.far in
    let enough : len ≤ c.solve_rows.result = omega (arith, far) in
    let below : k < length new = omega (arith, counted, first) in
    solved_whole 3 len c.solve_rows.result k (0 ∷ 1 ∷ 2 ∷ []) (c.args.x ∷ c.args.y ∷ c.args.z ∷ []) new below c.solve_rows.ensures.columns enough c.solve_rows.ensures.solved (one_of k kind)
  where
    one_of : (k : ℕ) → k < 3 → IsOneOf (0 ∷ 1 ∷ 2 ∷ []) k
    one_of zero kind = inl refl
    one_of (suc zero) kind = inr (inl refl)
    one_of (suc (suc zero)) kind = inr (inr (inl refl))
    one_of (suc (suc (suc k))) kind = absurd (omega arith)

pub returns-clause-first : goal.returns-clause-first
returns-clause-first c =
    let mid = c.solve_rows-at.new.columns.items in
    let new = c.solve_rows.new.columns.items in
    let len = length (column_at mid 0) in
    let counted = c.solve_rows.ensures.count in
    let first = c.solve_rows-at.ensures.count in
    let far = c.solve_rows.ensures.far in
    let enough : len ≤ c.solve_rows.result = omega (arith, far) in
    let below : c.args.x < length new = omega (arith, counted, first) in
    subst (λ n. IsColumn n (column_at new c.args.x)) (c.solve_rows-at.ensures.columns 0 (omega (arith, first)))
    (solved_column 3 len c.solve_rows.result c.args.x (0 ∷ 1 ∷ 2 ∷ []) (c.args.x ∷ c.args.y ∷ c.args.z ∷ []) new below c.solve_rows.ensures.columns enough
    c.solve_rows.ensures.solved (inl refl))

pub returns-clause-second : goal.returns-clause-second
returns-clause-second c =
    let mid = c.solve_rows-at.new.columns.items in
    let new = c.solve_rows.new.columns.items in
    let len = length (column_at mid 0) in
    let counted = c.solve_rows.ensures.count in
    let first = c.solve_rows-at.ensures.count in
    let far = c.solve_rows.ensures.far in
    let enough : len ≤ c.solve_rows.result = omega (arith, far) in
    let below : c.args.y < length new = omega (arith, counted, first) in
    subst (λ n. IsColumn n (column_at new c.args.y)) (c.solve_rows-at.ensures.columns 0 (omega (arith, first)))
    (solved_column 3 len c.solve_rows.result c.args.y (0 ∷ 1 ∷ 2 ∷ []) (c.args.x ∷ c.args.y ∷ c.args.z ∷ []) new below c.solve_rows.ensures.columns enough
    c.solve_rows.ensures.solved (inr (inl refl)))

pub returns-clause-third : goal.returns-clause-third
returns-clause-third c =
    let mid = c.solve_rows-at.new.columns.items in
    let new = c.solve_rows.new.columns.items in
    let len = length (column_at mid 0) in
    let counted = c.solve_rows.ensures.count in
    let first = c.solve_rows-at.ensures.count in
    let far = c.solve_rows.ensures.far in
    let enough : len ≤ c.solve_rows.result = omega (arith, far) in
    let below : c.args.z < length new = omega (arith, counted, first) in
    subst (λ n. IsColumn n (column_at new c.args.z)) (c.solve_rows-at.ensures.columns 0 (omega (arith, first)))
    (solved_column 3 len c.solve_rows.result c.args.z (0 ∷ 1 ∷ 2 ∷ []) (c.args.x ∷ c.args.y ∷ c.args.z ∷ []) new below c.solve_rows.ensures.columns enough
    c.solve_rows.ensures.solved (inr (inr (inl refl))))

pub solve_rows-requires-clause-triple : goal.solve_rows-requires-clause-triple
solve_rows-requires-clause-triple c =
    let first = c.solve_rows-at.ensures.count in
    let known = c.triple_of-triple.result in
    let many : c.len-last.result ≡ length c.solve_rows-at.new.columns.items = omega (arith, first) in
    subst (λ n. SolvesTriple (n - 1 - c.args.x) (n - 1 - c.args.y) (n - 1 - c.args.z) known.first known.second known.over_second known.over_third known.between)
    many c.triple_of-triple.ensures

pub returns-clause-stays : goal.returns-clause-stays
returns-clause-stays c = λ i not_x not_y not_z. c.solve_rows.ensures.stays i not_x not_y not_z ∙ c.solve_rows-at.ensures.stays i not_x not_y not_z
