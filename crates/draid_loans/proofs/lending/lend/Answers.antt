use Rattle.std.proofs.Common.{◌+◌, ◌∙◌, ap, sym, subst, MatchOption, Option}
use Rattle.draid_machine.specs.After.{capped}
use Rattle.draid_machine.specs.State.{Loan}
use Rattle.draid_world.specs.declared.world.Lent.{Lent}
use Rattle.draid_world.specs.World.{loan_of, site_layout, state_of}
use Rattle.draid_loans.specs.Lending.{IsLoan}
use Rattle.draid_loans.proofs.Loaned.{lend_made, step_loan}
use Rattle.draid_loans.proofs.lending.lend.Goals as goal

pub returns-in_default-clause-illegal : goal.returns-in_default-clause-illegal
returns-in_default-clause-illegal c = λ e new step.
    let l = site_layout c.args.site.now in
    let w = state_of c.args.world.now in
    let failed = c.args.failed.now in
    let none : (n : Loan) → IsLoan l w failed n → ⊥ =
    subst (λ (o : Option Lent). MatchOption o ((n : Loan) → IsLoan l w failed n → ⊥) (λ n. IsLoan l w failed (loan_of n))) c.in_default.is c.in_ok-loan.ensures in
    none step.n (step_loan l w failed new step)

pub returns-clause-legal : goal.returns-clause-legal
returns-clause-legal c = λ e.
    let l = site_layout c.args.site.now in
    let w = c.args.world.now in
    let failed = c.args.failed.now in
    let pass = c.in-Some-take.pass in
    let loan : IsLoan l (state_of w) failed (loan_of c.in-Some.loan) =
    subst (λ (o : Option Lent). MatchOption o ((n : Loan) → IsLoan l (state_of w) failed n → ⊥) (λ n. IsLoan l (state_of w) failed (loan_of n))) c.in-Some.is c.in_ok-loan.ensures in
    lend_made l w pass c.in-Some.loan failed c.capped.result (sym c.take.ensures.value ∙ c.in-Some-take.is) loan (c.capped.ensures ∙ ap (λ n. capped (pass.errors + n)) c.lend_errors.ensures)
