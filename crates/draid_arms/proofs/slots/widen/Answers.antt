use Rattle.std.proofs.Common.{◌∙◌, ap}
use Rattle.draid_world.specs.World.{names_at}
use Rattle.draid_arms.proofs.Orders.{names_empty, longer}
use Rattle.draid_arms.proofs.slots.widen.Goals as goal

pub loop-number-preserved : goal.loop-number-preserved
loop-number-preserved c =
    let is = c.in_ok-push.ensures.items in (
      longer c.loop-number._number c.loop-number.order.items c.new.result c.push.new.self.items is c.loop-number.invariant.0,
      (λ k. ap (λ vs. names_at vs k) is ∙ names_empty c.loop-number.order.items c.new.result c.new.ensures.items k ∙ c.loop-number.invariant.1 k),
    )
