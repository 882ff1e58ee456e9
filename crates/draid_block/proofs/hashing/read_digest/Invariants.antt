use Rattle.std.proofs.Common.{◌≡◌}
use Rattle.draid_block.specs.Blocks.{cut_of}
use Rattle.draid_block.specs.Search.{IsFront}
use Rattle.draid_block.specs.Solving.{read_of}
use Rattle.draid_block.proofs.hashing.read_digest.Given as goal

abbrev pub invariant-loop-i : goal.invariant-loop-i
invariant-loop-i l = record {
  has : IsFront (cut_of l.geometry) l.len (read_of l.columns) l.front;
  count : l.front.count ≡ l.i;
}
