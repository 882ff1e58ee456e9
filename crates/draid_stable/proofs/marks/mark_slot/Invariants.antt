use Rattle.draid_stable.proofs.Marked.{UpTo}
use Rattle.draid_stable.proofs.marks.mark_slot.Given as goal

abbrev pub invariant-loop-arm : goal.invariant-loop-arm
invariant-loop-arm l = UpTo l.initial.list.items l.list.items l.marks l.group l.arm
