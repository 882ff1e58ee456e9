use Rattle.draid_shard.specs.Fits.{Valid}
use Rattle.draid_tests_shard.proofs.disks.goes.Given as goal

abbrev pub invariant-loop-step : goal.invariant-loop-step
invariant-loop-step g l = Valid g.R.Rack l.shard
