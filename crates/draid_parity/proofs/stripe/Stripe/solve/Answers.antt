use Rattle.std.proofs.Common.{◌≡◌, ◌∙◌, length, ap, sym, subst, arith}
use Rattle.draid_parity.specs.Columns.{IsSolution, StripeValue, column_at}
use Rattle.draid_parity.proofs.OneSolution.{one_solution}
use Rattle.draid_parity.proofs.StripeLemmas.{solution-from_codewords}
use Rattle.draid_parity.proofs.stripe.Stripe.solve.Goals as goal

pub returns-clause-only : goal.returns-clause-only
returns-clause-only c = λ other given.
    let missing = c.args.missing.now in
    let old = c.self.inside.columns.items in
    let new = c.solve_columns.new.columns.items in
    let P = λ (s : StripeValue). IsSolution missing s other in
    let solution = subst P (sym c.self.view_is) given in
    let s = c.self.invariant in
    let first : length (column_at old 0) ≡ c.self.inside.len = s.columns 0 (let some = s.some_parity in omega (arith, some)) in
    let parity : c.self.inside.parity ≡ c.args.self.now.parity = ap (λ (v : StripeValue). v.parity) c.self.view_is in
    let ndata : c.self.inside.ndata ≡ c.args.self.now.ndata = ap (λ (v : StripeValue). v.ndata) c.self.view_is in
    let count = s.count in
    let other_count = solution.stripe.count in
    one_solution c.self.inside.parity c.self.inside.len missing old new other
    (record {
      kind = s.parity_range;
      some = omega (arith, count);
      few = (let range = s.data_range in omega (arith, count, range));
      new_count = (let kept = c.solve_columns.ensures.count in omega (arith, kept));
      whole_count = omega (arith, count, other_count);
      new_columns = λ i below. c.solve_columns.ensures.columns i below ∙ first;
      whole_columns = λ i below. solution.stripe.columns i (omega (arith, below, other_count));
      new_bytes = c.solve_columns.ensures.bytes;
      whole_bytes = solution.bytes;
      ascending = c.requires.ascending;
      in_range = λ n below. (let range = c.requires.in_range n 0 below in omega (arith, range, parity, ndata, count));
      solves = c.solve_columns.ensures.solved;
      chosen = c.solve_columns.ensures.chosen;
      whole_solves = solution.solves;
    })

pub returns-clause-restores : goal.returns-clause-restores
returns-clause-restores c = λ whole given. returns-clause-only c whole (solution-from_codewords c.args.missing.now c.args.self.now whole given)
