use Rattle.std.proofs.Common.{◌≡◌}
use Rattle.draid_machine.specs.declared.names.ArmName.{ArmName}
use Rattle.draid_world.specs.World.{arm_in}
use Rattle.draid_replay.specs.Creation.{leaf_below}
use Rattle.draid_replay.proofs.new.new_arms.Given as goal

abbrev pub invariant-loop-slot : goal.invariant-loop-slot
invariant-loop-slot l = (n : ArmName) → arm_in l.arms.entries n ≡ leaf_below l.slot n
