use Rattle.std.proofs.Common.{arith}
use Rattle.draid_slots.proofs.slots.Slots.is_idle.Goals as goal

pub overflow_cast-spare : goal.overflow_cast-spare
overflow_cast-spare c = omega arith
