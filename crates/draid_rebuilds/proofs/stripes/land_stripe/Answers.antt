use Rattle.std.proofs.Common.{◌≡◌, ◌+◌, ◌∙◌, nat_lt, sym, subst, true, false, Option, Some, None, arith}
use Rattle.std.proofs.lemmas.Bool.{lt-ltb, le-ltb}
use Rattle.draid_machine.specs.After.{unsourced}
use Rattle.draid_machine.specs.Step.{LandStripeStep}
use Rattle.draid_world.specs.declared.world.Lent.{Lent}
use Rattle.draid_world.specs.World.{loan_of, pass_of, site_layout, state_of}
use Rattle.draid_rebuilds.specs.Stripes.{mended_state}
use Rattle.draid_rebuilds.proofs.Landed.{land_mended, land_over, step_may}
use Rattle.draid_rebuilds.proofs.stripes.land_stripe.Goals as goal

pub returns-in_default-clause-illegal : goal.returns-in_default-clause-illegal
returns-in_default-clause-illegal c = λ e new step.
    c.in_default.ensures.none step.h (step_may (site_layout c.args.site.now) (state_of c.args.world.now) c.args.pass c.args.serial c.args.failed.now new step)

pub returns-then-unsourced-site-clause-legal : goal.returns-then-unsourced-site-clause-legal
returns-then-unsourced-site-clause-legal c = λ e.
    let l = site_layout c.args.site.now in
    let w = c.args.world.now in
    let found = c.in-Some-take.found in
    let loan = c.in-Some-take-2.loan in
    let many : nat_lt l.parity (unsourced l (loan_of loan)) ≡ true = lt-ltb _ _ (let k = c.unsourced.ensures in let m = c.if-unsourced-site.true in omega (arith, k, m)) in
    subst (λ (o : Option Lent). LandStripeStep l (state_of w) c.args.pass c.args.serial c.args.failed.now
    (state_of (record w { tables = record w.tables { pass = Some (record found { next = loan.stripe + 1; errors = c.capped.result }) }; loan = o }))) (sym c.take-2.ensures.after)
    (land_over l w c.args.pass c.args.serial found loan c.in-Some.held c.args.failed.now c.capped.result (sym c.take.ensures.value ∙ c.in-Some-take.is) (sym c.take-2.ensures.value ∙ c.in-Some-take-2.is)
    c.in-Some.ensures.some many c.capped.ensures)

pub returns-clause-legal : goal.returns-clause-legal
returns-clause-legal c = λ e.
    let l = site_layout c.args.site.now in
    let w = c.args.world.now in
    let found = c.in-Some-take.found in
    let loan = c.in-Some-take-2.loan in
    let failed = c.args.failed.now in
    let few : nat_lt l.parity (unsourced l (loan_of loan)) ≡ false = le-ltb _ _ (let k = c.unsourced.ensures in let m = c.if-unsourced-site.false in omega (arith, k, m)) in
    let segments : state_of c.mend_segments.new.world ≡ mended_state l (state_of (record w { tables = record w.tables { pass = None }; loan = None })) (pass_of found) (loan_of loan) c.in-Some.held failed =
    c.in_ok-mend_segments.ensures
    ∙ (λ i. mended_state l (state_of (record w { tables = record w.tables { pass = c.take.ensures.after i }; loan = c.take-2.ensures.after i })) (pass_of found) (loan_of loan) c.in-Some.held failed) in
    land_mended l w c.mend_segments.new.world c.args.pass c.args.serial found c.in_ok-pass_after.field-0 loan c.in-Some.held failed (sym c.take.ensures.value ∙ c.in-Some-take.is)
    (sym c.take-2.ensures.value ∙ c.in-Some-take-2.is) c.in-Some.ensures.some few segments c.in_ok-pass_after.ensures
