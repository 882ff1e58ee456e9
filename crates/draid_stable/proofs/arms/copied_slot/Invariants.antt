use Rattle.std.proofs.Common.{◌≡◌, length}
use Rattle.draid_stable.specs.Sealing.{AllAt, CopiesArm}
use Rattle.draid_stable.proofs.arms.copied_slot.Given as goal

abbrev pub invariant-loop-arm : goal.invariant-loop-arm
invariant-loop-arm l = (length l.list.items ≡ l.arm) × AllAt (CopiesArm l.slots l.slot) l.list.items
