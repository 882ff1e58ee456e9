use Rattle.draid_stable.proofs.Cut.{SlotsUpTo}
use Rattle.draid_stable.proofs.opening.cut_slots.Given as goal

abbrev pub invariant-loop-slot : goal.invariant-loop-slot
invariant-loop-slot l = SlotsUpTo l.initial.lists.items l.lists.items l.group l.slot
