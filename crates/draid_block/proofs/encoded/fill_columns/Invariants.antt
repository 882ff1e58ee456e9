use Rattle.std.proofs.Common.{◌≡◌, ℕ, ◌+◌, ◌*◌, ◌<◌, ◌≤◌, length, drop, replicate}
use Rattle.draid_parity.specs.Columns.{column_at}
use Rattle.draid_block.specs.Columns.{data_column, sectors_before}
use Rattle.draid_block.specs.Blocks.{cut_of, column_len}
use Rattle.draid_block.proofs.encoded.fill_columns.Given as goal

abbrev pub invariant-loop-i : goal.invariant-loop-i
invariant-loop-i l = record {
  parity : l.stripe.parity ≡ l.geometry.spec.parity;
  ndata : l.stripe.ndata ≡ l.geometry.spec.ndata;
  long : l.stripe.len ≡ column_len (cut_of l.geometry) (length l.bytes);
  count : l.geometry.spec.parity + l.geometry.spec.ndata ≤ length l.stripe.columns;
  rest : l.rest ≡ drop (sectors_before (cut_of l.geometry) (length l.bytes) l.i * l.geometry.props.sector) l.bytes;
  written : (k : ℕ) → k < l.i → column_at l.stripe.columns (l.geometry.spec.parity + k) ≡ data_column (cut_of l.geometry) l.bytes k;
  zero : (k : ℕ) → l.i ≤ k → k < l.geometry.spec.ndata → column_at l.stripe.columns (l.geometry.spec.parity + k) ≡ replicate (column_len (cut_of l.geometry) (length l.bytes)) 0;
}
