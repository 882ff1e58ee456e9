use Rattle.std.proofs.Common.{sym, rules}
use Rattle.draid_world.proofs.Maps.{names_here, names_past}
use Rattle.draid_world.proofs.arms.names_of.Goals as goal

pub returns-then-slot-order : goal.returns-then-slot-order
returns-then-slot-order c = sym (names_here c.args.order.now c.args.slot c.index-order-slot.result c.deref.result.now (search rules) c.index-order-slot.is c.deref.ensures.value)

pub returns-else-slot-order : goal.returns-else-slot-order
returns-else-slot-order c = sym (names_past c.args.order.now c.args.slot (search rules))
