use Rattle.std.proofs.Common.{◌≡◌, ◌+◌, ◌∙◌, ap, sym, subst, Option, Some, None}
use Rattle.draid_machine.specs.Step.{LandBlockStep}
use Rattle.draid_world.specs.declared.world.Lent.{Lent}
use Rattle.draid_world.specs.World.{loan_of, site_layout, state_of}
use Rattle.draid_scrubs.specs.Scrubs.{healed_state}
use Rattle.draid_scrubs.proofs.Healed.{land_healed, land_unread, step_may}
use Rattle.draid_scrubs.proofs.scrubs.land_block.Goals as goal

pub returns-in_default-clause-illegal : goal.returns-in_default-clause-illegal
returns-in_default-clause-illegal c = λ e new step.
    c.in_default.ensures.none step.h
    (step_may (site_layout c.args.site.now) (state_of c.args.world.now) c.args.pass c.args.serial c.args.failed.now c.args.patched.now c.args.unreadable new step)

pub returns-then-unreadable-clause-legal : goal.returns-then-unreadable-clause-legal
returns-then-unreadable-clause-legal c = λ e.
    let l = site_layout c.args.site.now in
    let w = c.args.world.now in
    let found = c.in-Some-take.found in
    let held = c.in-Some.held in
    subst (λ (o : Option Lent). LandBlockStep l (state_of w) c.args.pass c.args.serial c.args.failed.now c.args.patched.now c.args.unreadable
    (state_of (record w { tables = record w.tables { pass = Some (record found { next = held.first + c.from.result; errors = c.capped.result }) }; loan = o }))) (sym c.take-2.ensures.after)
    (land_unread l w c.args.pass c.args.serial found c.in-Some-take-2.loan held c.args.failed.now c.args.patched.now c.args.unreadable c.is_whole-whole.result (held.first + c.from.result) c.capped.result
    (sym c.take.ensures.value ∙ c.in-Some-take.is) (sym c.take-2.ensures.value ∙ c.in-Some-take-2.is) c.in-Some.ensures.some c.if-unreadable.true c.is_whole-whole.ensures.yes c.is_whole-whole.ensures.no
    (ap (λ x. held.first + x) c.from.ensures) c.capped.ensures)

pub returns-clause-legal : goal.returns-clause-legal
returns-clause-legal c = λ e.
    let l = site_layout c.args.site.now in
    let w = c.args.world.now in
    let found = c.in-Some-take.found in
    let loan = c.in-Some-take-2.loan in
    let held = c.in-Some.held in
    let whole = c.is_whole-whole.result in
    let segments : state_of c.heal.new.world ≡ healed_state l (state_of (record w { tables = record w.tables { pass = None }; loan = None })) (loan_of loan) held c.args.patched.now whole =
    c.in_ok-heal.ensures
    ∙ (λ i. healed_state l (state_of (record w { tables = record w.tables { pass = c.take.ensures.after i }; loan = c.take-2.ensures.after i })) (loan_of loan) held c.args.patched.now whole) in
    land_healed l w c.heal.new.world c.args.pass c.args.serial found c.in_ok-pass_after.field-0 loan held c.args.failed.now c.args.patched.now c.args.unreadable whole (sym c.take.ensures.value ∙ c.in-Some-take.is)
    (sym c.take-2.ensures.value ∙ c.in-Some-take-2.is) c.in-Some.ensures.some c.if-unreadable.false c.is_whole-whole.ensures.yes c.is_whole-whole.ensures.no segments c.in_ok-pass_after.ensures
