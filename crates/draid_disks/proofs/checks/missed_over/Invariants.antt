use Rattle.draid_disks.proofs.Checked.{SumsUpto}
use Rattle.draid_disks.proofs.checks.missed_over.Given as goal

abbrev pub invariant-loop-shard : goal.invariant-loop-shard
invariant-loop-shard g l = SumsUpto l.shards l.at l.shard-index l.missed
