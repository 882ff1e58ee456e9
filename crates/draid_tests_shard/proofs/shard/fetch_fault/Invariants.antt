use Rattle.draid_shard.specs.Fits.{Valid}
use Rattle.draid_tests_shard.proofs.shard.fetch_fault.Given as goal

abbrev pub invariant-loop : goal.invariant-loop
invariant-loop g l = Valid g.R.Rack l.shard
