use Rattle.draid_images.specs.Copies.{put_some}
use Rattle.draid_world.specs.World.{held_in}
use Rattle.std.proofs.Common.{◌∙◌, ap}
use Rattle.draid_steps.proofs.Entries.{ordered_apart}
use Rattle.draid_images.proofs.Copied.{copied_start, copied_end, copied_step}
use Rattle.draid_images.proofs.copies.copy_held.Goals as goal

pub loop-key-init : goal.loop-key-init
loop-key-init c =
    copied_start c.args.copying c.args.table.now.entries c.into_iter-key-iterator.result c.new-copy.result.entries (c.into_iter-key-iterator.ensures.into_iter_gives ∙ c.iter-key-items.ensures.rest)
    (ordered_apart c.args.table.now.entries c.iter-key-items.ensures.ordered) c.new-copy.ensures.empty

pub loop-key-preserved : goal.loop-key-preserved
loop-key-preserved c =
    copied_step c.args.copying c.args.table.now.entries c.loop-key.key-iterator c.next.new.self (held_in c.loop-key.copy.entries) (held_in c.put_held.new.table.entries) c.in-Some.key.now c.in-Some.held.now c.in-Some.ensures.steps
    c.loop-key.invariant (λ j. c.in_ok-put_held.ensures j ∙ ap (λ o. put_some (held_in c.loop-key.copy.entries) c.in-Some.key.now o j) c.copy_of.ensures)

pub returns : goal.returns
returns c = copied_end c.args.copying c.args.table.now.entries c.loop-key.key-iterator (held_in c.loop-key.copy.entries) c.loop-key.invariant c.in-None.ensures.steps.0
