use Rattle.std.proofs.Common.{◌≡◌}
use Rattle.draid_block.specs.Blocks.{cut_of}
use Rattle.draid_block.specs.Search.{IsFront}
use Rattle.draid_block.proofs.front.Front.take_before.Given as goal

abbrev pub invariant-loop-i : goal.invariant-loop-i
invariant-loop-i l = record {
  has : IsFront (cut_of l.geometry) l.len l.stripe.columns l.self;
  count : l.self.count ≡ l.i;
}
