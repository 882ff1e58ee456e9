use Rattle.std.proofs.Common.{◌≡◌, ℕ, true, false, length, take}
use Rattle.draid_area.specs.Cells.{LeavesByte, byte_at, covers}
use Rattle.draid_area.proofs.cells.leave_spans.Given as goal

abbrev pub invariant-loop-k : goal.invariant-loop-k
invariant-loop-k l = record {
  long : length l.flushed.items ≡ length l.fn.flushed.items;
  done : (i : ℕ) → covers (take l.k l.spans) i ≡ true → LeavesByte l.rule (byte_at l.fn.flushed.items i) (byte_at l.bytes i) (byte_at l.flushed.items i);
  other : (i : ℕ) → covers (take l.k l.spans) i ≡ false → byte_at l.flushed.items i ≡ byte_at l.fn.flushed.items i;
}
