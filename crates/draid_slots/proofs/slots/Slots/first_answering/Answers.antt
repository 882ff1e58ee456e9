use Rattle.std.proofs.Common.{arith}
use Rattle.draid_slots.proofs.slots.Slots.first_answering.Goals as goal

pub arms-requires : goal.arms-requires
arms-requires c = c.requires.slot

pub overflow_cast-arm-end : goal.overflow_cast-arm-end
overflow_cast-arm-end c = omega arith

pub answers-requires-clause-slice : goal.answers-requires-clause-slice
answers-requires-clause-slice c = c.requires.slice
