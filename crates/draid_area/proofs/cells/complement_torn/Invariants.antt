use Rattle.std.proofs.Common.{◌≡◌, ◌-◌, ◌&&◌, ℕ, nat_lt, length, if◌then◌else◌}
use Rattle.draid_area.specs.Cells.{byte_at, is_torn}
use Rattle.draid_area.proofs.cells.complement_torn.Given as goal

abbrev pub invariant-loop-i : goal.invariant-loop-i
invariant-loop-i l = record {
  long : length l.flushed.items ≡ length l.fn.flushed.items;
  bytes : (k : ℕ) → byte_at l.flushed.items k ≡ (if nat_lt k l.i && is_torn l.torn k then 255 - byte_at l.bytes k else byte_at l.fn.flushed.items k);
}
