use Rattle.std.proofs.Common.{◌≡◌, ℕ, true, false, length, take}
use Rattle.draid_area.specs.Cells.{byte_at, covers}
use Rattle.draid_area.proofs.cells.keep_spans.Given as goal

abbrev pub invariant-loop-k : goal.invariant-loop-k
invariant-loop-k l = record {
  long : length l.flushed.items ≡ length l.fn.flushed.items;
  done : (i : ℕ) → covers (take l.k l.spans) i ≡ true → byte_at l.flushed.items i ≡ byte_at l.bytes i;
  other : (i : ℕ) → covers l.spans i ≡ false → byte_at l.flushed.items i ≡ byte_at l.bytes i;
}
