use Rattle.std.proofs.Common.{◌∙◌, ap, sym, Some, None, option_copied}
use Rattle.draid_machine.specs.Arms.{logged}
use Rattle.draid_world.proofs.Maps.{arm_found}
use Rattle.draid_world.proofs.Logs.{no_runs, some_run}
use Rattle.draid_world.proofs.world.Tables.has_empty_log.Goals as goal

pub returns-in-Some-clause-yes : goal.returns-in-Some-clause-yes
returns-in-Some-clause-yes c = λ e g.
    ap (λ o. logged o g) (arm_found c.args.self.now.arms.entries c.args.name (Some c.in-Some.arm.now) (sym c.get.ensures.value ∙ ap option_copied c.in-Some.is))
    ∙ no_runs c.in-Some.arm.now.log c.runs.result.now c.runs.ensures.same (sym c.is_empty.ensures ∙ e) g

pub returns-in-Some-clause-no : goal.returns-in-Some-clause-no
returns-in-Some-clause-no c = λ e none.
    let at = arm_found c.args.self.now.arms.entries c.args.name (Some c.in-Some.arm.now) (sym c.get.ensures.value ∙ ap option_copied c.in-Some.is) in
    some_run c.in-Some.arm.now.log c.runs.result.now c.runs.ensures.maximal (sym c.is_empty.ensures ∙ e) (λ g. sym (ap (λ o. logged o g) at) ∙ none g)

pub returns-in-None-clause-yes : goal.returns-in-None-clause-yes
returns-in-None-clause-yes c = λ e g.
    ap (λ o. logged o g) (arm_found c.args.self.now.arms.entries c.args.name None (sym c.get.ensures.value ∙ ap option_copied c.in-None.is))
