use Rattle.std.proofs.Common.{◌≡◌, take}
use Rattle.draid_machine.specs.declared.names.ArmName.{ArmName}
use Rattle.draid_machine.specs.After.{map_arm, excise_if}
use Rattle.draid_machine.specs.Names.{has_name}
use Rattle.draid_world.specs.World.{arm_in}
use Rattle.draid_passes.proofs.logs.excise_logs.Given as goal

abbrev pub invariant-loop-name : goal.invariant-loop-name
invariant-loop-name l =
    (n : ArmName) → arm_in l.arms.entries n ≡ map_arm (excise_if (has_name (take l.name-index l.names) n) l.upto) (arm_in l.fn.arms.entries n)
