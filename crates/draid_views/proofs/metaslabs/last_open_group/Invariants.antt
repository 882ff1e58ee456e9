use Rattle.draid_views.proofs.Stripes.{GreatestUpto}
use Rattle.draid_views.proofs.metaslabs.last_open_group.Given as goal

abbrev pub invariant-loop-shard : goal.invariant-loop-shard
invariant-loop-shard g l = GreatestUpto l.shards l.shard-index l.group
