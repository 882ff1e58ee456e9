use Rattle.std.proofs.Common.{◌∙◌, sym, Some, None}
use Rattle.draid_world.specs.World.{arm_in, arm_of}
use Rattle.draid_world.specs.declared.world.Arm.{Arm}
use Rattle.draid_world.proofs.Maps.{arm_found, arm_updated, on_ok}
use Rattle.draid_steps.proofs.Logs.{log_put, log_absent}
use Rattle.draid_steps.proofs.columns.log_arm.Goals as goal

pub returns-in_default : goal.returns-in_default
returns-in_default c =
    log_absent (arm_in c.args.arms.now.entries) (arm_in c.remove.new.self.entries) c.args.name c.args.group
    (arm_found c.args.arms.now.entries c.args.name None (sym c.remove.ensures.value ∙ c.in_default.is))
    (arm_updated c.args.arms.now.entries c.remove.new.self.entries c.args.name None c.remove.ensures.updates.0)

pub returns : goal.returns
returns c =
    let put : Arm = record c.in-Some.arm { log = c.dirty.new.self } in
    on_ok c.enter_arm.result (λ entered. log_put (arm_in c.args.arms.now.entries) (arm_in c.remove.new.self.entries) (arm_in c.enter_arm.new.arms.entries) c.args.name (arm_of c.in-Some.arm) (arm_of put) c.args.group
    (arm_found c.args.arms.now.entries c.args.name (Some c.in-Some.arm) (sym c.remove.ensures.value ∙ c.in-Some.is))
    (arm_updated c.args.arms.now.entries c.remove.new.self.entries c.args.name None c.remove.ensures.updates.0)
    entered
    (λ i. record (arm_of c.in-Some.arm) { log = λ x. c.in_ok-dirty.ensures.ok x i })) c.enter_arm.ensures
