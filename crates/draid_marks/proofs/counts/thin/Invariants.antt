use Rattle.std.proofs.Common.{◌≤◌, ◌-◌}
use Rattle.draid_names.specs.declared.numbers.TheConstants.{NUMBERS}
use Rattle.draid_marks.specs.Counting.{CountsBelow, IsThinIn}
use Rattle.draid_marks.proofs.counts.thin.Given as goal

abbrev pub decreases-loop-entry : goal.decreases-loop-entry
decreases-loop-entry l = NUMBERS - l.stripe

abbrev pub invariant-loop-entry : goal.invariant-loop-entry
invariant-loop-entry l = record {
  counts : CountsBelow l.entries (IsThinIn l.slots l.group) l.stripe l.thin;
  few : l.thin ≤ l.stripe;
  low : l.stripe ≤ NUMBERS;
}
