use Rattle.std.proofs.Common.{◌∙◌}
use Rattle.draid_world.specs.World.{names_at}
use Rattle.draid_world.proofs.Maps.{on_ok}
use Rattle.draid_arms.proofs.Orders.{order_pushed}
use Rattle.draid_arms.proofs.slots.join.Goals as goal

pub returns : goal.returns
returns c =
    on_ok c.push_arm.result
    (λ is k. is k ∙ order_pushed (names_at c.widen.new.order.items) (names_at c.args.order.now.items) c.args.slot c.args.name (c.in_ok-widen.ensures.same) k)
    c.push_arm.ensures
