use Rattle.std.proofs.Common.{arith}
use Rattle.draid_slots.proofs.slot.least_count.Goals as goal

pub offset_bounds-logs-other : goal.offset_bounds-logs-other
offset_bounds-logs-other c = omega arith

pub bounds-logs-other : goal.bounds-logs-other
bounds-logs-other c = omega arith
