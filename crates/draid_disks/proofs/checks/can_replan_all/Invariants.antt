use Rattle.draid_disks.specs.Replanning.{MayReplan}
use Rattle.draid_disks.proofs.Checked.{Below}
use Rattle.draid_disks.proofs.checks.can_replan_all.Given as goal

abbrev pub invariant-loop-shard : goal.invariant-loop-shard
invariant-loop-shard g l = Below l.shards (λ shard. MayReplan shard.pass shard.last_pass shard.open_group) l.shard-index
