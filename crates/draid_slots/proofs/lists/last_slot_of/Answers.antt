use Rattle.std.proofs.Common.{arith}
use Rattle.draid_slots.proofs.lists.last_slot_of.Goals as goal

pub offset_bounds-detached-gone-index : goal.offset_bounds-detached-gone-index
offset_bounds-detached-gone-index c = omega arith
