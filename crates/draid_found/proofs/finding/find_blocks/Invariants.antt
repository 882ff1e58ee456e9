use Rattle.std.proofs.Common.{◌≤◌, length}
use Rattle.std.specs.Prelude.{nat_eq}
use Rattle.std.specs.HashMap.{get}
use Rattle.draid_found.specs.Together.{AreTogether, noted_in}
use Rattle.draid_found.proofs.Noted.{Finding}
use Rattle.draid_found.proofs.Together.{NotesEarlier}
use Rattle.draid_found.proofs.finding.find_blocks.Given as goal

-- the metaslabs so far were looked through
abbrev pub invariant-loop-shard : goal.invariant-loop-shard
invariant-loop-shard g l = record {
  finding : Finding g.R.Rack l.shards l.shard-index (get nat_eq l.found.newest) l.found.seq;
  keys : NotesEarlier l.shards l.shard-index (noted_in l.found.keys);
  together : AreTogether l.shards l.shard-index;
  bound : l.shard-index ≤ length l.shards;
}
