use Rattle.std.proofs.Common.{◌∙◌, ap, sym}
use Rattle.draid_names.specs.declared.arm.ArmKind.TheVariants as kind
use Rattle.draid_machine.specs.declared.names.ArmName.TheVariants.{Spare}
use Rattle.draid_changes.proofs.Called.{none_called}
use Rattle.draid_changes.proofs.detaching.find.Goals as goal

pub returns-in-Leaf-clause-none : goal.returns-in-Leaf-clause-none
returns-in-Leaf-clause-none c = none_called c.args.slots.now kind.Leaf c.in-Leaf.leaf c.args.arm c.find.result c.in-Leaf.is c.find.ensures.none

pub returns-in-Spare-clause-none : goal.returns-in-Spare-clause-none
returns-in-Spare-clause-none c =
    none_called c.args.slots.now kind.Spare c.from.result c.args.arm c.find-in-Spare.result (c.in-Spare.is ∙ ap Spare (sym c.from.ensures)) c.find-in-Spare.ensures.none
