use Rattle.draid_shard.specs.Fits.{Valid}
use Rattle.draid_tests_shard.proofs.calls.call_all.Given as goal

abbrev pub invariant-loop-at : goal.invariant-loop-at
invariant-loop-at g l = Valid g.R.Rack l.shard
