use Rattle.std.proofs.Common.{◌-◌}
use Rattle.draid_names.specs.declared.numbers.TheConstants.{NUMBERS}
use Rattle.draid_shard.proofs.Listing.{ListsBelow}
use Rattle.draid_shard.proofs.shard.Shard.live.Given as goal

abbrev pub decreases-loop-entry : goal.decreases-loop-entry
decreases-loop-entry g l = NUMBERS - l.stripe

abbrev pub invariant-loop-entry : goal.invariant-loop-entry
invariant-loop-entry g l = ListsBelow l.self.entries l.stripe l.listed.items
