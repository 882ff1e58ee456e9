use Rattle.std.proofs.Common.{◌≤◌, ◌-◌}
use Rattle.draid_names.specs.declared.numbers.TheConstants.{NUMBERS}
use Rattle.draid_shard.specs.Looks.{NoBlockBetween}
use Rattle.draid_shard.proofs.shard.Shard.block_from.Given as goal

abbrev pub decreases-loop-entry : goal.decreases-loop-entry
decreases-loop-entry g l = NUMBERS - l.stripe

abbrev pub invariant-loop-entry : goal.invariant-loop-entry
invariant-loop-entry g l = record {
  none : NoBlockBetween l.self.entries l.upto l.from l.stripe;
  behind : l.from ≤ l.stripe;
}
