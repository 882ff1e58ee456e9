use Rattle.std.proofs.Common.{Some}
use Rattle.draid_world.proofs.Maps.{arm_updated}
use Rattle.draid_world.proofs.arms.enter_arm.Goals as goal

pub returns-in-Ok : goal.returns-in-Ok
returns-in-Ok c = arm_updated c.args.arms.now.entries c.insert.new.self.entries c.args.name (Some c.args.arm) c.in-Ok.ensures.updates.0
