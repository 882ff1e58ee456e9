use Rattle.std.proofs.Common.{◌≡◌, ◌∙◌, ℕ, refl, subst, sym, true}
use Rattle.std.proofs.lemmas.Bool.{true≢false}
use Rattle.draid_machine.proofs.Small.{none_some, some_same}
use Rattle.draid_machine.specs.Names.{has_number}
use Rattle.draid_machine.specs.declared.names.Held.{Held}
use Rattle.draid_machine.specs.declared.names.Stage.TheVariants.{Live}
use Rattle.draid_steps.specs.Reads.{IsRead}
use Rattle.draid_world.specs.World.{core_of, site_layout}
use Rattle.draid_steps.proofs.fetch.may_fetch.Goals as goal

pub returns-in_default-clause-legal : goal.returns-in_default-clause-legal
returns-in_default-clause-legal c = λ e. absurd (true≢false (sym e))

pub returns-in_default-clause-illegal : goal.returns-in_default-clause-illegal
returns-in_default-clause-illegal c = λ e new step. none_some _ step.h (sym c.find.ensures ∙ c.in_default.is) step.found

pub returns-then-not-is_live-clause-legal : goal.returns-then-not-is_live-clause-legal
returns-then-not-is_live-clause-legal c = λ e. absurd (true≢false (sym e))

pub returns-then-not-is_live-clause-illegal : goal.returns-then-not-is_live-clause-illegal
returns-then-not-is_live-clause-illegal c = λ e new step.
    c.is_live.ensures.no c.if-not-is_live.true (subst (λ (h : Held). h.stage ≡ Live) (some_same _ step.h c.in-Some.held step.found (sym c.find.ensures ∙ c.in-Some.is)) step.live)

pub returns-clause-legal : goal.returns-clause-legal
returns-clause-legal c = λ e. record {
  h = c.in-Some.held;
  found = sym c.find.ensures ∙ c.in-Some.is;
  live = c.is_live.ensures.yes c.if-not-is_live.false;
  fail = c.are_read.ensures.yes e;
  made = refl;
}

pub returns-clause-illegal : goal.returns-clause-illegal
returns-clause-illegal c = λ e new step.
    c.are_read.ensures.no e
    (subst (λ (h : Held). (leaf : ℕ) → has_number c.args.failed.now leaf ≡ true → IsRead (site_layout c.args.site.now) (core_of c.args.world.now.tables) h leaf)
    (some_same _ step.h c.in-Some.held step.found (sym c.find.ensures ∙ c.in-Some.is)) step.fail)
