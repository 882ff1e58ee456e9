use Rattle.std.proofs.Common.{◌≡◌, ℕ, ◌<◌, length}
use Rattle.std.specs.Prelude.{Contains, slice_index}
use Rattle.draid_parity.specs.Columns.{column_at, AreColumns, HasSum}
use Rattle.draid_parity.proofs.solve.solve_columns.Given as goal

abbrev pub invariant-loop-k : goal.invariant-loop-k
invariant-loop-k l = record {
  count : length l.columns.items ≡ length l.initial.columns.items;
  columns : AreColumns (length (column_at l.fn.columns.items 0)) l.columns.items;
  stays : (i : ℕ) → (Contains l.unencoded i → ⊥) → column_at l.columns.items i ≡ column_at l.initial.columns.items i;
  kept : (k : ℕ) → (Contains l.unencoded k → ⊥) → HasSum l.parity l.initial.columns.items k → HasSum l.parity l.columns.items k;
  encoded : (n : ℕ) → n < l.k-index → HasSum l.parity l.columns.items (slice_index l.unencoded n);
}
