use Rattle.draid_stable.proofs.Cut.{UpTo}
use Rattle.draid_stable.proofs.opening.cut_slot.Given as goal

abbrev pub invariant-loop-arm : goal.invariant-loop-arm
invariant-loop-arm l = UpTo l.initial.list.items l.list.items l.group l.arm
