use Rattle.std.proofs.Common.{◌∙◌, ap, sym, Some, None, option_copied}
use Rattle.draid_machine.specs.Arms.{online}
use Rattle.draid_machine.specs.declared.names.ArmName.TheVariants.{Leaf}
use Rattle.draid_world.proofs.Maps.{arm_found}
use Rattle.draid_images.proofs.seals.is_online.Goals as goal

pub returns-in-Some : goal.returns-in-Some
returns-in-Some c = ap online (sym (arm_found c.args.tables.now.arms.entries (Leaf c.args.leaf) (Some c.in-Some.arm.now) (sym c.get.ensures.value ∙ ap option_copied c.in-Some.is)))

pub returns-in-None : goal.returns-in-None
returns-in-None c = ap online (sym (arm_found c.args.tables.now.arms.entries (Leaf c.args.leaf) None (sym c.get.ensures.value ∙ ap option_copied c.in-None.is)))
