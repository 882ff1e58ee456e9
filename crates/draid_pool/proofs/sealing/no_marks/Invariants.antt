use Rattle.std.proofs.Common.{◌≡◌, length}
use Rattle.draid_pool.proofs.sealing.no_marks.Given as goal

abbrev pub invariant-loop-slot : goal.invariant-loop-slot
invariant-loop-slot l = length l.marks.items ≡ l._slot
