use Rattle.std.proofs.Common.{◌≡◌, ◌≤◌, ℕ, Option}
use Rattle.draid_columns.specs.Columns.{WritesRows}
use Rattle.draid_rack.specs.Rack.{OnBothTold}
use Rattle.draid_columns.proofs.rows.write_rows.Given as goal

abbrev pub invariant-loop-row : goal.invariant-loop-row
invariant-loop-row g l = let rack = g.R.Rack in record {
  shape : rack.shape l.rack ≡ rack.shape l.initial.rack;
  later : (who : Option ℕ) → rack.faults l.initial.rack who ≤ rack.faults l.rack who;
  told : OnBothTold (rack.told l.initial.rack) (rack.told l.rack) (WritesRows l.rows l.column l.row l.row);
}
