use Rattle.std.proofs.Common.{◌≡◌, ◌&&◌, ℕ, nat_le, nat_lt, length, slice_index_or, if◌then◌else◌}
use Rattle.draid_area.proofs.cells.mark.Given as goal

abbrev pub invariant-loop-i : goal.invariant-loop-i
invariant-loop-i g l = record {
  long : length l.cells.items ≡ length l.fn.cells.items;
  cells : (k : ℕ) (d : _) → slice_index_or l.cells.items k d ≡ (if nat_le l.start k && nat_lt k l.i then l.value else slice_index_or l.fn.cells.items k d);
}
