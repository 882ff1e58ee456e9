use Rattle.std.proofs.Common.{arith}
use Rattle.draid_slots.proofs.slot.remove_arm.Goals as goal

pub remove-requires : goal.remove-requires
remove-requires c = omega arith

pub remove-requires-2 : goal.remove-requires-2
remove-requires-2 c = omega arith
