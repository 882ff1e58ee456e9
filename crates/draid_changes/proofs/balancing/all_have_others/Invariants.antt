use Rattle.draid_changes.specs.Balancing.{HasOthers}
use Rattle.draid_changes.proofs.HasThem.{Below}
use Rattle.draid_changes.proofs.balancing.all_have_others.Given as goal

abbrev pub invariant-loop-shard : goal.invariant-loop-shard
invariant-loop-shard g l = Below (λ shard. HasOthers shard.slots l.slot) l.shards l.shard-index
