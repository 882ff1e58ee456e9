use Rattle.draid_block.proofs.Order.{order_only}
use Rattle.draid_block.proofs.laws.sets_are_in_order.Goals as goal

pub returns-clause-only : goal.returns-clause-only
returns-clause-only c = order_only
