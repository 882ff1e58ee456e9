use Rattle.std.proofs.Common.{◌≤◌, ◌-◌, ◌^◌}
use Rattle.draid_names.specs.declared.numbers.TheConstants.{NUMBERS}
use Rattle.draid_marks.specs.Counting.{CountsBelow, IsOpenUpto}
use Rattle.draid_marks.proofs.counts.tickets_upto.Given as goal

abbrev pub decreases-loop-entry : goal.decreases-loop-entry
decreases-loop-entry l = NUMBERS - l.stripe

abbrev pub invariant-loop-entry : goal.invariant-loop-entry
invariant-loop-entry l = record {
  counts : CountsBelow l.entries (IsOpenUpto l.group) l.stripe l.tickets;
  few : l.tickets ≤ l.stripe;
  low : l.stripe ≤ 2 ^ 28;
}
