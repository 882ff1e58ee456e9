use Rattle.std.proofs.Common.{◌∙◌, ap}
use Rattle.draid_world.specs.World.{arm_in, arm_of}
use Rattle.draid_replay.proofs.Creation.{arms_step, none_below}
use Rattle.draid_replay.proofs.new.new_arms.Goals as goal

pub loop-slot-init : goal.loop-slot-init
loop-slot-init c = λ n. ap (λ es. arm_in es n) c.new-arms.ensures.empty ∙ none_below n

pub loop-slot-preserved : goal.loop-slot-preserved
loop-slot-preserved c =
    arms_step (arm_in c.loop-slot.arms.entries) (arm_in c.enter_arm.new.arms.entries) c.loop-slot.slot c.from.result (arm_of c.new_arm.result) c.from.ensures c.new_arm.ensures c.loop-slot.invariant
    c.in_ok-enter_arm.ensures
