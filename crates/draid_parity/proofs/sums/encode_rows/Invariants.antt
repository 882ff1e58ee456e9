use Rattle.std.proofs.Common.{◌≡◌, ◌≢◌, ℕ, ◌-◌, ◌≤◌, [], ◌∷◌, length}
use Rattle.draid_parity.specs.Columns.{AreColumns, column_at}
use Rattle.draid_parity.specs.Rows.{IsSolvedBefore}
use Rattle.draid_parity.proofs.sums.encode_rows.Given as goal

abbrev pub invariant-rows : goal.invariant-rows
invariant-rows g l =
    let old = l.fn.columns.items in
    record {
      stays : (i : ℕ) → i ≢ l.k → column_at l.columns.items i ≡ column_at old i;
      count : length l.columns.items ≡ length old;
      columns : AreColumns (length (column_at old 0)) l.columns.items;
      len : l.len ≡ length (column_at old 0);
      inside : l.at ≤ length (column_at old 0);
      solved : IsSolvedBefore l.parity l.at (l.k ∷ []) (l.k ∷ []) l.columns.items;
    }

abbrev pub decreases-rows : goal.decreases-rows
decreases-rows g l = l.len - l.at
