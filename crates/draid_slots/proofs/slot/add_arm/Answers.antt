use Rattle.std.proofs.Common.{arith}
use Rattle.draid_slots.proofs.slot.add_arm.Goals as goal

pub push_reserved-requires : goal.push_reserved-requires
push_reserved-requires c = omega arith

pub push_reserved-requires-2 : goal.push_reserved-requires-2
push_reserved-requires-2 c = omega arith
