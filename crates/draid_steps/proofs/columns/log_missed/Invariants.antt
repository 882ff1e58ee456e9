use Rattle.std.proofs.Common.{◌≡◌, ◌&&◌, not, drop}
use Rattle.draid_machine.specs.After.{each_arm, log_if}
use Rattle.draid_machine.specs.Names.{has_name}
use Rattle.draid_machine.specs.declared.names.ArmName.{ArmName}
use Rattle.draid_world.specs.World.{arm_in}
use Rattle.draid_steps.proofs.columns.log_missed.Given as goal

abbrev pub invariant-loop-name : goal.invariant-loop-name
invariant-loop-name l = (n : ArmName) →
    each_arm (λ m. log_if (has_name (drop l.name-index l.names) m && not (has_name l.landed m)) l.group) (arm_in l.arms.entries) n
    ≡ each_arm (λ m. log_if (has_name l.names m && not (has_name l.landed m)) l.group) (arm_in l.fn.arms.entries) n
