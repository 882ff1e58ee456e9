use Rattle.std.proofs.Common.{◌≡◌, ◌≢◌, ℕ, ◌-◌, ◌≤◌, [], ◌∷◌, length}
use Rattle.draid_parity.specs.Columns.{AreColumns, column_at}
use Rattle.draid_parity.specs.Rows.{IsSolvedBefore}
use Rattle.draid_parity.proofs.triple.solve_rows.Given as goal

abbrev pub invariant-rows : goal.invariant-rows
invariant-rows g l =
    let old = l.fn.columns.items in
    record {
      stays : (i : ℕ) → i ≢ l.x → i ≢ l.y → i ≢ l.z → column_at l.columns.items i ≡ column_at old i;
      count : length l.columns.items ≡ length old;
      columns : AreColumns (length (column_at old 0)) l.columns.items;
      len : l.len ≡ length (column_at old 0);
      inside : l.at ≤ length (column_at old 0);
      solved : IsSolvedBefore 3 l.at (0 ∷ 1 ∷ 2 ∷ []) (l.x ∷ l.y ∷ l.z ∷ []) l.columns.items;
    }

abbrev pub decreases-rows : goal.decreases-rows
decreases-rows g l = l.len - l.at
