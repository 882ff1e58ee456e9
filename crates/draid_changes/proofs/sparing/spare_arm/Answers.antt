use Rattle.std.proofs.Common.{ap}
use Rattle.draid_names.specs.declared.arm.ArmKind.TheVariants as kind
use Rattle.draid_disks.specs.Disks.{arm_called}
use Rattle.draid_changes.proofs.sparing.spare_arm.Goals as goal

pub returns : goal.returns
returns c = ap (λ n. arm_called kind.Spare n) c.from.ensures
