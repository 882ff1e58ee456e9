use Rattle.std.proofs.Common.{◌≡◌, length}
use Rattle.std.specs.declared.alloc.Global.{Global}
use Rattle.std.specs.declared.vec.Vec.{Vec}
use Rattle.draid_names.specs.declared.arm.Arm.{Arm}
use Rattle.draid_ranges.specs.Numbers.{Numbers}
use Rattle.draid_stable.specs.Sealing.{AllAt, CopiesSlot}
use Rattle.draid_stable.proofs.arms.copied_slots.Given as goal

abbrev pub invariant-loop-slot : goal.invariant-loop-slot
invariant-loop-slot l = (length l.lists.items ≡ l.slot) × AllAt (λ slot (list : Vec (Arm × Numbers) Global). CopiesSlot l.slots slot list.items) l.lists.items
