use Rattle.draid_passes.proofs.ends.may_end.Goals.{then-not-pass-via-then-not-pass, then-not-pass-via-else-not-pass+then-is_some}
use Rattle.draid_passes.specs.Ends.{AllFlush}
use Rattle.draid_world.proofs.Maps.{some_mapped}
use Rattle.std.proofs.lemmas.Bool.{true≢false}
use Rattle.draid_machine.proofs.Small.{none_some}
use Rattle.std.proofs.Common.{◌∙◌, sym, subst, ap, option_map, is_some}
use Rattle.draid_machine.specs.State.{Pass}
use Rattle.draid_world.specs.World.{held_in, pass_of, loan_of, site_layout, state_of}
use Rattle.draid_passes.specs.Left.{NothingLeft}
use Rattle.draid_passes.proofs.Endings.{pass_same, some_left, mapped_none, nothing_left}
use Rattle.draid_passes.proofs.ends.may_end.Goals as goal

pub returns-then-is_some-2-clause-no : goal.returns-then-is_some-2-clause-no
returns-then-is_some-2-clause-no c = λ e may.
    let held = held_in c.args.world.now.tables.held.entries in
    let at = pass_same c.args.world.now.tables.pass c.in-Some.pass may.p c.in-Some.is may.pass in
    some_left held (pass_of c.in-Some.pass) c.next_stripe.result (sym c.is_some-2.ensures ∙ c.if-is_some-2.true) c.next_stripe.ensures.some
    (subst (λ (p : Pass). NothingLeft held p) at may.finished)

pub returns-in_default-clause-yes : goal.returns-in_default-clause-yes
returns-in_default-clause-yes c = λ e. absurd (true≢false (sym e))

pub returns-in_default-clause-no : goal.returns-in_default-clause-no
returns-in_default-clause-no c = λ e may. none_some _ may.p (ap (option_map pass_of) c.in_default.is) may.pass

pub returns-then-is_some-2-clause-yes : goal.returns-then-is_some-2-clause-yes
returns-then-is_some-2-clause-yes c = λ e. absurd (true≢false (sym e))

pub returns-then-not-pass-clause-yes : goal.returns-then-not-pass-clause-yes
returns-then-not-pass-clause-yes c = λ e. absurd (true≢false (sym e))

pub returns-then-not-pass-clause-no : goal.returns-then-not-pass-clause-no
returns-then-not-pass-clause-no c = λ e may.
    let at = pass_same c.args.world.now.tables.pass c.in-Some.pass may.p c.in-Some.is may.pass in
    elim c.then-not-pass.branch [
      | then-not-pass-via-then-not-pass w ↦ true≢false (sym may.running ∙ ap (λ (p : Pass). p.running) at ∙ w.if-not-pass.true)
      | then-not-pass-via-else-not-pass+then-is_some w ↦ true≢false (sym w.if-is_some.true ∙ w.is_some.ensures ∙ sym (some_mapped loan_of c.args.world.now.loan) ∙ ap is_some may.idle)
    ]

pub returns-clause-yes : goal.returns-clause-yes
returns-clause-yes c = λ e. record {
  p = pass_of c.in-Some.pass;
  pass = ap (option_map pass_of) c.in-Some.is;
  running = c.if-not-pass.false;
  finished = nothing_left c.next_stripe.result _ (sym c.is_some-2.ensures ∙ c.if-is_some-2.false) c.next_stripe.ensures.none;
  idle = mapped_none loan_of c.args.world.now.loan (sym c.is_some.ensures ∙ c.if-is_some.false);
  fail = c.are_flushed.ensures.yes e;
}

pub returns-clause-no : goal.returns-clause-no
returns-clause-no c = λ e may.
    c.are_flushed.ensures.no e
    (subst (λ (p : Pass). AllFlush (site_layout c.args.site.now) (state_of c.args.world.now) p c.args.failed.now) (pass_same c.args.world.now.tables.pass c.in-Some.pass may.p c.in-Some.is may.pass) may.fail)
