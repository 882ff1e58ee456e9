use Rattle.draid_marks.specs.Missed.{Misses}
use Rattle.draid_marks.proofs.Missing.{is_marked_to}
use Rattle.draid_marks.proofs.missed.miss_all.Given as goal

abbrev pub invariant-loop-slot : goal.invariant-loop-slot
invariant-loop-slot l = Misses l.initial.slots l.slots (is_marked_to l.initial.slots l.marks l.slot) l.group
