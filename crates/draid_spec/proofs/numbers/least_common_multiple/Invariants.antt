use Rattle.std.proofs.Common.{◌*◌, ◌-◌}
use Rattle.draid_spec.proofs.Multiples.{IsNotAbove}
use Rattle.draid_spec.proofs.numbers.least_common_multiple.Given as goal

abbrev pub invariant-loop-multiple : goal.invariant-loop-multiple
invariant-loop-multiple l = IsNotAbove l.a l.b l.multiple

abbrev pub decreases-loop-multiple : goal.decreases-loop-multiple
decreases-loop-multiple l = l.a * l.b - l.multiple
