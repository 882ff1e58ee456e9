use Rattle.std.proofs.Common.{◌+◌, ◌<◌, ap, arith, subst, sym}
use Rattle.draid_parity.specs.Columns.{StripeValue}
use Rattle.std.specs.Prelude.{All}
use Rattle.std.specs.List.Sorted.{IsStrictlyIncreasing}
use Rattle.draid_mend.specs.Missing.{missing_in}
use Rattle.draid_mend.proofs.Missed.{missing_ascends, missing_less}
use Rattle.draid_mend.proofs.solving.solve_kept.Goals as goal

pub solve_missing-requires-clause-ascending : goal.solve_missing-requires-clause-ascending
solve_missing-requires-clause-ascending c =
    let most = c.requires.most in
    let few = c.if-count-parity.true in
    subst IsStrictlyIncreasing (sym (c.list_missing-count.ensures.listed (omega (arith, most, few)))) (missing_ascends c.deref.result.now c.args.columns)

pub solve_missing-requires-clause-in_range : goal.solve_missing-requires-clause-in_range
solve_missing-requires-clause-in_range c =
    let most = c.requires.most in
    let few = c.if-count-parity.true in
    subst (All (λ i. i < c.args.kept.now.columns.parity + c.args.kept.now.columns.ndata)) (sym (c.list_missing-count.ensures.listed (omega (arith, most, few))))
    (subst (λ n. All (λ i. i < n) (missing_in c.deref.result.now c.args.columns)) c.requires.columns (missing_less c.deref.result.now c.args.columns))

pub returns-then-count-parity-clause-parity : goal.returns-then-count-parity-clause-parity
returns-then-count-parity-clause-parity c = ap (λ (s : StripeValue). s.parity) c.solve_missing.ensures.shape

pub returns-then-count-parity-clause-ndata : goal.returns-then-count-parity-clause-ndata
returns-then-count-parity-clause-ndata c = ap (λ (s : StripeValue). s.ndata) c.solve_missing.ensures.shape

pub returns-then-count-parity-clause-len : goal.returns-then-count-parity-clause-len
returns-then-count-parity-clause-len c = ap (λ (s : StripeValue). s.len) c.solve_missing.ensures.shape
