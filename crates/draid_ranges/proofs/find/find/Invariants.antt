use Rattle.std.proofs.Common.{◌-◌}
use Rattle.draid_ranges.proofs.Halves.{IsHalved}
use Rattle.draid_ranges.proofs.find.find.Given as goal

abbrev pub invariant-loop-low : goal.invariant-loop-low
invariant-loop-low g l = IsHalved l.runs l.x l.low l.high l.fn.steps l.steps

abbrev pub decreases-loop-low : goal.decreases-loop-low
decreases-loop-low g l = l.high - l.low
