use Rattle.std.proofs.Common.{◌≤◌, length}
use Rattle.std.specs.Prelude.{nat_eq}
use Rattle.std.specs.HashMap.{get}
use Rattle.draid_found.specs.Together.{noted_in}
use Rattle.draid_found.proofs.Listing.{ListingSo}
use Rattle.draid_found.proofs.older.older_blocks.Given as goal

-- the metaslabs so far were looked through
abbrev pub invariant-loop-shard : goal.invariant-loop-shard
invariant-loop-shard g l = record {
  listing : ListingSo l.shards (get nat_eq l.newest) l.upto l.drops l.shard-index l.list.items (noted_in l.keys);
  bound : l.shard-index ≤ length l.shards;
}
