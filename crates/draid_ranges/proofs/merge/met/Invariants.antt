use Rattle.std.proofs.Common.{◌+◌, ◌-◌, length}
use Rattle.draid_ranges.specs.Merges.{IsMet}
use Rattle.draid_ranges.proofs.merge.met.Given as goal

abbrev pub invariant-loop-i : goal.invariant-loop-i
invariant-loop-i l = IsMet l.left l.right l.runs.items l.i l.j

abbrev pub decreases-loop-i : goal.decreases-loop-i
decreases-loop-i l = length l.left + length l.right - (l.i + l.j)
