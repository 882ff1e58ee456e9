use Rattle.std.proofs.Common.{◌*◌, ◌∙◌, arith, refl}
use Rattle.draid_columns.proofs.Written.{on_err, part_is, told_tried, told_written}
use Rattle.draid_columns.proofs.rows.write_rows.Goals as goal

pub returns-in_err-write-clause-err : goal.returns-in_err-write-clause-err
returns-in_err-write-clause-err g c = let t = c.in_err-write.ensures.told in
    on_err c.from_residual.result (
      c.loop-row.row,
      c.loop-row-test.true,
      rw t.told (told_tried c.args.rows c.args.column.now c.loop-row.row t.stands (g.R.Rack.told c.args.rack.now) (g.R.Rack.told c.loop-row.rack) c.loop-row.invariant.told),
    )

pub loop-row-preserved : goal.loop-row-preserved
loop-row-preserved g c = let t = c.in_ok-write.ensures.told in record {
  shape = c.write.ensures.shape ∙ c.loop-row.invariant.shape;
  later = λ who. let a = c.loop-row.invariant.later who in let b = c.write.ensures.cause.later who in omega (arith, a, b);
  told = rw t.told (told_written c.args.rows c.args.column.now c.loop-row.row t.stands (g.R.Rack.told c.args.rack.now) (g.R.Rack.told c.loop-row.rack) c.loop-row.invariant.told
      (part_is c.args.rows c.args.column.now t.stands (c.loop-row.row * c.args.rows.size) c.loop-row.row refl t.whole));
}
