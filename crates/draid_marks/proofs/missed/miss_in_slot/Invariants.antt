use Rattle.draid_marks.specs.Missed.{Misses, is_marked_below}
use Rattle.draid_marks.proofs.missed.miss_in_slot.Given as goal

abbrev pub invariant-loop-arm : goal.invariant-loop-arm
invariant-loop-arm l = Misses l.initial.slots l.slots (is_marked_below l.marks l.slot l.arm) l.group
