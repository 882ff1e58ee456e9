use Rattle.draid_stable.proofs.Marked.{SlotsUpTo}
use Rattle.draid_stable.proofs.marks.mark_slots.Given as goal

abbrev pub invariant-loop-slot : goal.invariant-loop-slot
invariant-loop-slot l = SlotsUpTo l.initial.lists.items l.lists.items l.marks l.group l.slot
