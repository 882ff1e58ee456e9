use Rattle.std.proofs.Common.{◌∙◌, ap, sym, Some, None, option_copied}
use Rattle.draid_machine.specs.Arms.{logged}
use Rattle.draid_world.proofs.Maps.{arm_found}
use Rattle.draid_world.proofs.world.Tables.is_logged.Goals as goal

pub returns-in-Some : goal.returns-in-Some
returns-in-Some c =
    c.contains.ensures
    ∙ ap (λ o. logged o c.args.group) (sym (arm_found c.args.self.now.arms.entries c.args.name (Some c.in-Some.arm.now) (sym c.get.ensures.value ∙ ap option_copied c.in-Some.is)))

pub returns-in-None : goal.returns-in-None
returns-in-None c = ap (λ o. logged o c.args.group) (sym (arm_found c.args.self.now.arms.entries c.args.name None (sym c.get.ensures.value ∙ ap option_copied c.in-None.is)))
