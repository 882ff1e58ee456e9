use Rattle.draid_tests_shard.proofs.Runs.{one_more}
use Rattle.draid_tests_shard.proofs.stored.are_small.Goals as goal

pub loop-at-preserved : goal.loop-at-preserved
loop-at-preserved c = one_more c.args.events.now c.loop-at.at c.index-events-at.result c.loop-at-test.true c.index-events-at.is (c.is_small.ensures c.if-not-is_small.false) c.loop-at.invariant
