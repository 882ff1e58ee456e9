use Rattle.std.proofs.Common.{rules, ◌≡◌, ◌∙◌, true, false}
use Rattle.draid_machine.specs.Names.{has_name}
use Rattle.draid_world.specs.World.{arm_in}
use Rattle.draid_world.proofs.Maps.{on_ok}
use Rattle.draid_steps.proofs.Logs.{log_away, log_there}
use Rattle.draid_steps.proofs.columns.log_unless.Goals as goal

pub returns-then-is_among : goal.returns-then-is_among
returns-then-is_among c =
    let there : has_name c.args.landed.now c.args.name ≡ true = search rules in
    λ n. log_there c.args.landed.now c.args.name n c.args.group (arm_in c.args.arms.now.entries n) there

pub returns : goal.returns
returns c =
    let away : has_name c.args.landed.now c.args.name ≡ false = search rules in
    on_ok c.log_arm.result (λ is n. is n ∙ log_away c.args.landed.now c.args.name n c.args.group (arm_in c.args.arms.now.entries n) away) c.log_arm.ensures
