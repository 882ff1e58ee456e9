use Rattle.draid_images.specs.Copies.{put_some_arm}
use Rattle.draid_world.specs.World.{arm_in}
use Rattle.std.proofs.Common.{◌∙◌, ap}
use Rattle.draid_steps.proofs.Kept.{arms_apart}
use Rattle.draid_images.proofs.Copied.{arms_start, arms_end, arms_step}
use Rattle.draid_images.proofs.copies.copy_arms.Goals as goal

pub loop-name-init : goal.loop-name-init
loop-name-init c =
    arms_start c.args.copying c.args.table.now.entries c.into_iter-name-iterator.result c.new-copy.result.entries (c.into_iter-name-iterator.ensures.into_iter_gives ∙ c.iter-name-items.ensures.rest)
    (arms_apart c.args.table.now.entries c.iter-name-items.ensures.ordered) c.new-copy.ensures.empty

pub loop-name-preserved : goal.loop-name-preserved
loop-name-preserved c =
    arms_step c.args.copying c.args.table.now.entries c.loop-name.name-iterator c.next.new.self (arm_in c.loop-name.copy.entries) (arm_in c.put_arm.new.table.entries) c.in-Some.name.now c.in-Some.arm.now c.in-Some.ensures.steps
    c.loop-name.invariant (λ j. c.in_ok-put_arm.ensures j ∙ ap (λ o. put_some_arm (arm_in c.loop-name.copy.entries) c.in-Some.name.now o j) c.in_ok-arm.ensures)

pub returns : goal.returns
returns c = arms_end c.args.copying c.args.table.now.entries c.loop-name.name-iterator (arm_in c.loop-name.copy.entries) c.loop-name.invariant c.in-None.ensures.steps.0
