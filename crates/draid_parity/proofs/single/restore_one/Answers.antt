use Rattle.std.proofs.Common.{◌-◌, ◌<◌, ◌≤◌, ◌∙◌, [], ◌∷◌, length, inl, refl, sym, subst, arith}
use Rattle.draid_gf.proofs.Powers.{powers_differ}
use Rattle.draid_parity.specs.Columns.{IsColumn, column_at}
use Rattle.draid_parity.proofs.PairLemmas.{unit_inverse, unit_power}
use Rattle.draid_parity.proofs.RowsLemmas.{solved_whole, solved_column}
use Rattle.draid_parity.proofs.single.restore_one.Goals as goal

pub inv-requires : goal.inv-requires
inv-requires c = λ none. powers_differ.nonzero _ (sym c.pow2.ensures ∙ none)

pub solve_rows-at-requires-clause-plain : goal.solve_rows-at-requires-clause-plain
solve_rows-at-requires-clause-plain c = λ none.
    c.new-over.ensures ∙ unit_inverse c.pow2.result c.inv.result (omega arith) (c.pow2.ensures ∙ unit_power c.args.k (c.len.result - 1 - c.args.x) none) c.inv.ensures.inverse

pub solve_rows-requires-clause-plain : goal.solve_rows-requires-clause-plain
solve_rows-requires-clause-plain c = λ none.
    c.new-over.ensures ∙ unit_inverse c.pow2.result c.inv.result (omega arith) (c.pow2.ensures ∙ unit_power c.args.k (c.len.result - 1 - c.args.x) none) c.inv.ensures.inverse

pub returns-clause-sum : goal.returns-clause-sum
returns-clause-sum c =
    let mid = c.solve_rows-at.new.columns.items in
    let new = c.solve_rows.new.columns.items in
    let len = length (column_at mid 0) in
    let counted = c.solve_rows.ensures.count in
    let first = c.solve_rows-at.ensures.count in
    let far = c.solve_rows.ensures.far in
    let enough : len ≤ c.solve_rows.result = omega (arith, far) in
    let below : c.args.k < length new = omega (arith, counted, first) in
    solved_whole c.args.parity len c.solve_rows.result c.args.k (c.args.k ∷ []) (c.args.x ∷ []) new below c.solve_rows.ensures.columns enough c.solve_rows.ensures.solved (inl refl)

pub returns-clause-column : goal.returns-clause-column
returns-clause-column c =
    let mid = c.solve_rows-at.new.columns.items in
    let new = c.solve_rows.new.columns.items in
    let len = length (column_at mid 0) in
    let counted = c.solve_rows.ensures.count in
    let first = c.solve_rows-at.ensures.count in
    let far = c.solve_rows.ensures.far in
    let enough : len ≤ c.solve_rows.result = omega (arith, far) in
    let below : c.args.x < length new = omega (arith, counted, first) in
    subst (λ n. IsColumn n (column_at new c.args.x)) (c.solve_rows-at.ensures.columns 0 (omega (arith, first)))
    (solved_column c.args.parity len c.solve_rows.result c.args.x (c.args.k ∷ []) (c.args.x ∷ []) new below c.solve_rows.ensures.columns enough c.solve_rows.ensures.solved (inl refl))

pub returns-clause-stays : goal.returns-clause-stays
returns-clause-stays c = λ i apart. c.solve_rows.ensures.stays i apart ∙ c.solve_rows-at.ensures.stays i apart
