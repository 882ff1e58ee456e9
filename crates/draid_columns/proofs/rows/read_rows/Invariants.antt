use Rattle.std.proofs.Common.{◌≡◌, ◌≤◌, ◌*◌, ℕ, Option, length}
use Rattle.draid_rack.specs.Rack.{OnTold}
use Rattle.draid_columns.specs.Columns.{RowsStand}
use Rattle.draid_columns.proofs.rows.read_rows.Given as goal

abbrev pub invariant-loop-row : goal.invariant-loop-row
invariant-loop-row g l = let rack = g.R.Rack in record {
  shape : rack.shape l.rack ≡ rack.shape l.initial.rack;
  told : rack.told l.rack ≡ rack.told l.initial.rack;
  later : (who : Option ℕ) → rack.faults l.initial.rack who ≤ rack.faults l.rack who;
  long : length l.into ≡ l.rows.count * l.rows.size;
  stand : OnTold (rack.told l.initial.rack) (λ x. RowsStand l.rows x.reads l.into l.row);
}
