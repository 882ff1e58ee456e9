use Rattle.std.proofs.Common.{◌≤◌, ◌-◌}
use Rattle.draid_names.specs.declared.numbers.TheConstants.{NUMBERS}
use Rattle.draid_spec.specs.Geometry.{metaslab_stripes}
use Rattle.draid_shard.proofs.Counted.{CountsBelow, IsTicket}
use Rattle.draid_shard.proofs.shard.Shard.tickets.Given as goal

abbrev pub decreases-loop-entry : goal.decreases-loop-entry
decreases-loop-entry g l = NUMBERS - l.stripe

abbrev pub invariant-loop-entry : goal.invariant-loop-entry
invariant-loop-entry g l = record {
  counts : CountsBelow l.self.entries IsTicket l.stripe l.tickets;
  few : l.tickets ≤ l.stripe;
  low : l.stripe ≤ metaslab_stripes l.self.geometry;
}
