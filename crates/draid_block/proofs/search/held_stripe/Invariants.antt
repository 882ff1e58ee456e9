use Rattle.std.proofs.Common.{◌≤◌}
use Rattle.draid_block.specs.Blocks.{cut_of}
use Rattle.draid_block.specs.Search.{IsHeld}
use Rattle.draid_block.proofs.search.held_stripe.Given as goal

abbrev pub invariant-loop-i : goal.invariant-loop-i
invariant-loop-i l = IsHeld (cut_of l.geometry) l.fetched.pointer.len l.fetched.columns.items (λ k. l.i ≤ k) l.stripe
