use Rattle.std.proofs.Common.{◌≡◌, drop}
use Rattle.std.specs.Prelude.{Contains}
use Rattle.draid_block.specs.Blocks.{cut_of}
use Rattle.draid_block.specs.Search.{IsFront, IsHeld}
use Rattle.draid_block.specs.Solving.{read_of}
use Rattle.draid_block.proofs.search.try_set.Given as goal

abbrev pub invariant-loop-i : goal.invariant-loop-i
invariant-loop-i l = record {
  held : IsHeld (cut_of l.search.geometry.now) l.search.fetched.now.pointer.len l.search.fetched.now.columns.items (λ k. Contains (drop l.i-index l.set) k) l.attempts.stripe;
  has : IsFront (cut_of l.search.geometry.now) l.search.fetched.now.pointer.len (read_of l.search.fetched.now.columns.items) l.attempts.front;
  tried : l.attempts.tried ≡ l.fn.attempts.tried;
}
