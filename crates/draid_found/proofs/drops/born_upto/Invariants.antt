use Rattle.std.proofs.Common.{◌≤◌, length}
use Rattle.draid_found.specs.Together.{noted_in}
use Rattle.draid_found.proofs.Born.{NotesSoFar}
use Rattle.draid_found.proofs.drops.born_upto.Given as goal

-- the metaslabs so far were looked through
abbrev pub invariant-loop-shard : goal.invariant-loop-shard
invariant-loop-shard g l = record {
  noted : NotesSoFar l.shards l.upto l.shard-index (noted_in l.keys);
  bound : l.shard-index ≤ length l.shards;
}
