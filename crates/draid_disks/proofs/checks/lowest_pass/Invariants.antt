use Rattle.std.proofs.Common.{◌≡◌, None}
use Rattle.draid_disks.proofs.Checked.{Below}
use Rattle.draid_disks.proofs.checks.lowest_pass.Given as goal

abbrev pub invariant-loop-shard : goal.invariant-loop-shard
invariant-loop-shard g l = Below l.shards (λ shard. shard.pass ≡ None) l.shard-index
