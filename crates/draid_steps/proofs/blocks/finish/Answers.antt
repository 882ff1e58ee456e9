use Rattle.std.proofs.Common.{◌∙◌, ap, sym}
use Rattle.std.proofs.lemmas.Bool.{true≢false}
use Rattle.draid_machine.proofs.Small.{none_some}
use Rattle.draid_machine.specs.declared.names.Stage.TheVariants.{Writing}
use Rattle.draid_world.specs.World.{site_layout, state_of}
use Rattle.draid_steps.proofs.Exits.{finish_gone, finish_live, one_ticket}
use Rattle.draid_steps.proofs.blocks.finish.Goals as goal

pub returns-in_default-clause-legal : goal.returns-in_default-clause-legal
returns-in_default-clause-legal c = λ e. absurd (true≢false (sym e))

pub returns-in_default-clause-illegal : goal.returns-in_default-clause-illegal
returns-in_default-clause-illegal c = λ e new step. none_some _ step.h (sym c.find.ensures ∙ c.in_default.is) step.found

pub returns-then-columns-site-clause-legal : goal.returns-then-columns-site-clause-legal
returns-then-columns-site-clause-legal c = λ e. absurd (true≢false (sym e))

pub returns-then-columns-site-clause-illegal : goal.returns-then-columns-site-clause-illegal
returns-then-columns-site-clause-illegal c = λ e new step.
    c.if-columns-site.true
    (one_ticket _ c.in-Some.held step.h c.in-Writing.columns c.in-Writing.missed (site_layout c.args.site.now).columns step.m (sym c.find.ensures ∙ c.in-Some.is) c.in-Writing.is step.found step.stage)

pub returns-then-missed-site-clause-legal : goal.returns-then-missed-site-clause-legal
returns-then-missed-site-clause-legal c = λ e. record {
  h = c.in-Some.held;
  m = c.in-Writing.missed;
  found = sym c.find.ensures ∙ c.in-Some.is;
  stage = c.in-Writing.is ∙ ap (λ n. Writing n c.in-Writing.missed) c.if-columns-site.false;
  made = c.drop_ticket.ensures ∙ finish_gone (site_layout c.args.site.now) (state_of c.args.world.now) c.args.key c.in-Some.held c.in-Writing.missed c.if-missed-site.true;
}

pub returns-then-missed-site-clause-illegal : goal.returns-then-missed-site-clause-illegal
returns-then-missed-site-clause-illegal c = λ e. absurd (true≢false e)

pub returns-clause-legal : goal.returns-clause-legal
returns-clause-legal c = λ e. record {
  h = c.in-Some.held;
  m = c.in-Writing.missed;
  found = sym c.find.ensures ∙ c.in-Some.is;
  stage = c.in-Writing.is ∙ ap (λ n. Writing n c.in-Writing.missed) c.if-columns-site.false;
  made = c.make_live.ensures ∙ finish_live (site_layout c.args.site.now) (state_of c.args.world.now) c.args.key c.in-Some.held c.in-Writing.missed c.if-missed-site.false;
}

pub returns-clause-illegal : goal.returns-clause-illegal
returns-clause-illegal c = λ e. absurd (true≢false e)
