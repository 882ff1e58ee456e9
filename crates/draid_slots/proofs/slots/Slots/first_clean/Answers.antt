use Rattle.std.proofs.Common.{length, ap, arith}
use Rattle.draid_slots.proofs.slots.Slots.first_clean.Goals as goal

pub answers-requires : goal.answers-requires
answers-requires c = let less = c.loop-arm-test.true in record { there = omega (arith, less, ap length c.arms.ensures.arms); slice = c.requires.slice }

pub arms-requires : goal.arms-requires
arms-requires c = c.requires.slot

pub overflow_cast-arm-end : goal.overflow_cast-arm-end
overflow_cast-arm-end c = omega arith
