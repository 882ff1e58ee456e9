use Rattle.std.proofs.Common.{◌≤◌, length}
use Rattle.std.specs.Prelude.{nat_eq}
use Rattle.std.specs.HashMap.{get}
use Rattle.draid_found.specs.Together.{noted_in}
use Rattle.draid_found.proofs.NewestBeside.{FindingBeside}
use Rattle.draid_found.proofs.beside.newest_beside.Given as goal

-- the metaslabs so far were looked through
abbrev pub invariant-loop-shard : goal.invariant-loop-shard
invariant-loop-shard g l = record {
  finding : FindingBeside g.R.Rack l.shards (noted_in l.keys) l.shard-index (get nat_eq l.newest);
  bound : l.shard-index ≤ length l.shards;
}
