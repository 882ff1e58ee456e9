use Rattle.std.proofs.Common.{◌≡◌, ◌+◌, length, take}
use Rattle.draid_block.specs.Blocks.{cut_of, sectors_upto}
use Rattle.draid_block.proofs.hashing.stripe_bytes.Given as goal

abbrev pub invariant-loop-i : goal.invariant-loop-i
invariant-loop-i l = record {
  holds : l.bytes.items ≡ take l.len (sectors_upto (cut_of l.geometry) l.len l.stripe.columns l.i);
  left : l.left + length l.bytes.items ≡ l.len;
}
