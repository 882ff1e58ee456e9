use Rattle.std.proofs.Common.{length, arith, Some, refl, sym, subst}
use Rattle.draid_names.specs.Faults.{Rose}
use Rattle.draid_blocks.proofs.Landings.{counts_done, counts_failed, counts_silent}
use Rattle.draid_columns.specs.Columns.{RowsStand}
use Rattle.draid_columns.specs.declared.rows.Rows.{Rows}
use Rattle.draid_rack.specs.Rack.{OnTold}
use Rattle.draid_shard.proofs.Holders.{rows_long, read_there, leaf_is, rows_there}
use Rattle.draid_blocks.proofs.fetching.read_column.Goals as goal

pub read_rows-requires-clause-there : goal.read_rows-requires-clause-there
read_rows-requires-clause-there g c =
    rows_there _ c.args.slots.now c.args.rows c.in-Some.read.arm c.place-leaf.result.leaf c.on.result c.on.ensures c.requires.fits
    (leaf_is c.args.slots.now c.args.rows c.in-Some.read.arm c.place-leaf.result.leaf _ (sym c.requires.fits.slice_is) c.place-leaf.ensures.leaf)

pub returns-in-Ok-clause-reads : goal.returns-in-Ok-clause-reads
returns-in-Ok-clause-reads g c = (
  c.place-leaf.result.leaf,
  record {
    read = c.in-Some.read;
    is = c.in-Some.ensures.read;
    on = leaf_is c.args.slots.now c.args.rows c.in-Some.read.arm c.place-leaf.result.leaf _ (sym c.requires.fits.slice_is) c.place-leaf.ensures.leaf;
  },
  subst (λ (on : Rows). OnTold (g.R.Rack.told c.args.rack.now) (λ x. RowsStand on x.reads c.read_rows.new.into c.args.rows.count)) c.on.ensures
      (subst (λ (on : Rows). OnTold (g.R.Rack.told c.args.rack.now) (λ x. RowsStand c.on.result x.reads c.read_rows.new.into on.count)) c.on.ensures c.in-Ok.ensures.read),
)

pub reading_arm-requires : goal.reading_arm-requires
reading_arm-requires g c = record { slot = c.requires.fits.slot_below; slice = c.requires.fits.slice_below }

pub returns-in_default : goal.returns-in_default
returns-in_default g c = record { reads = c.in_default.ensures.none; whole = refl; told = refl; shape = refl; counts = counts_silent (g.R.Rack.faults c.args.rack.now) }

pub returns-in-Err-clause-reads : goal.returns-in-Err-clause-reads
returns-in-Err-clause-reads g c = record {
  read = c.in-Some.read;
  is = c.in-Some.ensures.read;
  on = leaf_is c.args.slots.now c.args.rows c.in-Some.read.arm c.place-leaf.result.leaf _ (sym c.requires.fits.slice_is) c.place-leaf.ensures.leaf;
}

pub returns-in-Ok-clause-counts : goal.returns-in-Ok-clause-counts
returns-in-Ok-clause-counts g c = counts_done (g.R.Rack.faults c.args.rack.now) (g.R.Rack.faults c.read_rows.new.rack) c.read_rows.ensures.cause.later

pub returns-in-Err-clause-counts : goal.returns-in-Err-clause-counts
returns-in-Err-clause-counts g c =
    let before = g.R.Rack.faults c.args.rack.now in
    let now = g.R.Rack.faults c.read_rows.new.rack in
    counts_failed c.place-leaf.result.leaf before now c.in-Err.ensures.cause.later (subst (λ (on : Rows). Rose (before (Some on.leaf)) (now (Some on.leaf))) c.on.ensures c.in-Err.ensures.cause.cause)

pub place-leaf-requires-clause-sector : goal.place-leaf-requires-clause-sector
place-leaf-requires-clause-sector g c = let some = c.requires.fits.some in let inside = c.requires.fits.inside in omega (arith, some, inside)

pub read_rows-requires-clause-long : goal.read_rows-requires-clause-long
read_rows-requires-clause-long g c = rows_long c.args.rows c.place-leaf.result.leaf c.on.result (length c.args.into.now) c.on.ensures c.requires.long

pub returns-in-Ok-clause-whole : goal.returns-in-Ok-clause-whole
returns-in-Ok-clause-whole g c = c.read_rows.ensures.whole

pub returns-in-Ok-clause-told : goal.returns-in-Ok-clause-told
returns-in-Ok-clause-told g c = c.read_rows.ensures.told

pub returns-in-Ok-clause-shape : goal.returns-in-Ok-clause-shape
returns-in-Ok-clause-shape g c = c.read_rows.ensures.shape

pub returns-in-Err-clause-whole : goal.returns-in-Err-clause-whole
returns-in-Err-clause-whole g c = c.read_rows.ensures.whole

pub returns-in-Err-clause-told : goal.returns-in-Err-clause-told
returns-in-Err-clause-told g c = c.read_rows.ensures.told

pub returns-in-Err-clause-shape : goal.returns-in-Err-clause-shape
returns-in-Err-clause-shape g c = c.read_rows.ensures.shape

pub place-leaf-requires-clause-there : goal.place-leaf-requires-clause-there
place-leaf-requires-clause-there g c = read_there c.args.slots.now c.args.rows.slot c.args.rows.slice c.args.rows.birth c.in-Some.read c.in-Some.ensures.read
