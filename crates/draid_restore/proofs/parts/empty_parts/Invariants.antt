use Rattle.std.specs.Prelude.{◌≡◌, ◌<◌, ℕ, Some, length, slice_get}
use Rattle.draid_machine.specs.declared.event.Patched.{Patched}
use Rattle.draid_shard.specs.Loans.{IsRowRoom}
use Rattle.draid_restore.proofs.parts.empty_parts.Given as goal

abbrev pub invariant-loop-i : goal.invariant-loop-i
invariant-loop-i l = record {
  each : (k : ℕ) (part : Patched) → k < l.i → slice_get l.parts.items k ≡ Some part → IsRowRoom l.rows part;
  many : length l.parts.items ≡ l.i-end;
}
