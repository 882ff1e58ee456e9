use Rattle.std.proofs.Common.{◌+◌, ◌∙◌, arith, subst, Option}
use Rattle.draid_rack.specs.Rack.{Reads, Told}
use Rattle.draid_columns.proofs.Reading.{ReadsRow, row_long, row_stands}
use Rattle.draid_columns.proofs.rows.read_rows.Goals as goal

reads_row : (g : _) (c : goal.In_ok-read g) → ReadsRow c.args.rows (g.R.Rack.told c.args.rack.now) c.loop-row.row c.loop-row.into c.read.new.into
reads_row g c = record {
  long = c.loop-row.invariant.long;
  below = c.loop-row-test.true;
  whole = c.read.ensures.whole;
  before = c.loop-row.invariant.stand;
  read = subst (λ (t : Option Told). Reads t c.args.rows.leaf (c.args.rows.first + c.loop-row.row) c.read.new.into) c.loop-row.invariant.told c.in_ok-read.ensures.read;
}

pub loop-row-preserved : goal.loop-row-preserved
loop-row-preserved g c = record {
  shape = c.read.ensures.shape ∙ c.loop-row.invariant.shape;
  told = c.read.ensures.told ∙ c.loop-row.invariant.told;
  later = λ who. let a = c.loop-row.invariant.later who in let b = c.read.ensures.cause.later who in omega (arith, a, b);
  long = row_long c.args.rows (g.R.Rack.told c.args.rack.now) c.loop-row.row c.loop-row.into c.read.new.into (reads_row g c);
  stand = row_stands c.args.rows (g.R.Rack.told c.args.rack.now) c.loop-row.row c.loop-row.into c.read.new.into (reads_row g c);
}
