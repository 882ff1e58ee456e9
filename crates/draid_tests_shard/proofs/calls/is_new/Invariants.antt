use Rattle.std.proofs.Common.{◌-◌}
use Rattle.draid_names.specs.declared.numbers.TheConstants.{NUMBERS}
use Rattle.draid_tests_shard.proofs.Runs.{NoneBelow}
use Rattle.draid_tests_shard.proofs.calls.is_new.Given as goal

abbrev pub decreases-loop-entry : goal.decreases-loop-entry
decreases-loop-entry l = NUMBERS - l.stripe

abbrev pub invariant-loop-entry : goal.invariant-loop-entry
invariant-loop-entry l = NoneBelow l.entries l.seq l.stripe
