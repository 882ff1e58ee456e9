use Rattle.std.proofs.lemmas.Bool.{true≢false}
use Rattle.draid_passes.proofs.Endings.{pass_same}
use Rattle.draid_passes.specs.Left.{NothingLeft}
use Rattle.draid_machine.specs.State.{Pass}
use Rattle.draid_machine.proofs.Small.{none_some}
use Rattle.std.proofs.Common.{ap, option_map, refl, ◌∙◌, arith, subst, sym}
use Rattle.draid_world.specs.World.{pass_of, site_layout, state_of, held_in}
use Rattle.draid_loans.proofs.Loaned.{loan_made, no_loan}
use Rattle.draid_loans.proofs.lending.next_loan.Goals as goal

pub returns-in_default-lendable : goal.returns-in_default-lendable
returns-in_default-lendable c = λ n.
    no_loan (site_layout c.args.site.now) (state_of c.args.world.now) c.args.failed.now (pass_of c.in-Some.pass) c.in-Some-next_stripe.stripe n (ap (option_map pass_of) c.in-Some.is)
    c.in-Some-next_stripe.ensures.some c.in_default-lendable.ensures.none

pub returns : goal.returns
returns c =
    loan_made (site_layout c.args.site.now) (state_of c.args.world.now) c.args.failed.now (pass_of c.in-Some.pass) c.in-Some-next_stripe.stripe _ c.in-Some-lendable.key c.in-Some-lendable.held
    c.in_ok-columns.columns.read.items c.in_ok-columns.columns.chosen.items (ap (option_map pass_of) c.in-Some.is) c.if-not-pass.false c.in-Some-next_stripe.ensures.some c.in-Some-lendable.ensures.found
    c.in-Some-lendable.ensures.some c.in_ok-columns.ensures refl

pub returns-in_default : goal.returns-in_default
returns-in_default c = λ n loan. none_some _ loan.p (ap (option_map pass_of) c.in_default.is) loan.pass

pub returns-then-not-pass : goal.returns-then-not-pass
returns-then-not-pass c = λ n loan. true≢false (sym loan.running ∙ ap (λ (p : Pass). p.running) (pass_same c.args.world.now.tables.pass c.in-Some.pass loan.p c.in-Some.is loan.pass) ∙ c.if-not-pass.true)

pub returns-in_default-next_stripe : goal.returns-in_default-next_stripe
returns-in_default-next_stripe c = λ n loan.
    let nothing = subst (NothingLeft (held_in c.args.world.now.tables.held.entries)) (sym (pass_same c.args.world.now.tables.pass c.in-Some.pass loan.p c.in-Some.is loan.pass)) c.in_default-next_stripe.ensures.none in
    let less = nothing n.key loan.h n.stripe loan.next.found loan.next.lent loan.next.taken in
    let from = loan.next.from in
    omega (arith, less, from)
