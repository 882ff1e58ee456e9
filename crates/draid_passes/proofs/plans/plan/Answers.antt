use Rattle.std.proofs.Common.{subst, sym}
use Rattle.draid_machine.specs.Step.{PlanStep}
use Rattle.draid_world.specs.World.{site_layout, state_of}
use Rattle.draid_passes.proofs.plans.plan.Goals as goal

pub returns-in-Rebuild-clause-illegal : goal.returns-in-Rebuild-clause-illegal
returns-in-Rebuild-clause-illegal c = λ e new step.
    c.plan_rebuild.ensures.illegal e new (subst (λ kind. PlanStep (site_layout c.args.site.now) (state_of c.args.world.now) kind new) c.in-Rebuild.is step)

pub returns-in-Rebuild-clause-legal : goal.returns-in-Rebuild-clause-legal
returns-in-Rebuild-clause-legal c = λ e.
    subst (λ kind. PlanStep (site_layout c.args.site.now) (state_of c.args.world.now) kind (state_of c.plan_rebuild.new.world)) (sym c.in-Rebuild.is) (c.plan_rebuild.ensures.legal e)

pub returns-in-Heal-clause-legal : goal.returns-in-Heal-clause-legal
returns-in-Heal-clause-legal c = λ e.
    subst (λ kind. PlanStep (site_layout c.args.site.now) (state_of c.args.world.now) kind (state_of c.plan_heal.new.world)) (sym c.in-Heal.is) (c.plan_heal.ensures.legal e)

pub returns-in-Heal-clause-illegal : goal.returns-in-Heal-clause-illegal
returns-in-Heal-clause-illegal c = λ e. absurd (c.plan_heal.ensures.never e)
