use Rattle.std.proofs.Common.{◌≤◌, length}
use Rattle.std.specs.Prelude.{nat_eq}
use Rattle.std.specs.HashMap.{get}
use Rattle.draid_rewinds.proofs.NewestBorn.{FindingBorn}
use Rattle.draid_rewinds.proofs.tables.newest_born.Given as goal

-- the metaslabs so far were looked through
abbrev pub invariant-loop-shard : goal.invariant-loop-shard
invariant-loop-shard g l = record {
  finding : FindingBorn l.shards l.group l.shard-index (get nat_eq l.newest);
  bound : l.shard-index ≤ length l.shards;
}
