use Rattle.draid_shard.proofs.Holders.{rows_long, leaf_is, rows_there}
use Rattle.draid_blocks.proofs.putting.write_to.Goals as goal
use Rattle.std.proofs.Common.{length, arith, ◌∙◌, Some, refl, subst, sym}
use Rattle.draid_names.specs.Faults.{Rose}
use Rattle.draid_rack.specs.Moments.{LeavesTold}
use Rattle.draid_columns.specs.Columns.{WritesRows, in_rows}
use Rattle.draid_rack.specs.Rack.{OnBothTold}
use Rattle.draid_columns.specs.declared.rows.Rows.{Rows}
use Rattle.draid_blocks.proofs.Landings.{counts_done, counts_failed, counts_silent}

pub write_rows-requires-clause-there : goal.write_rows-requires-clause-there
write_rows-requires-clause-there g c =
    rows_there _ c.args.slots.now c.args.rows c.args.arm c.place-leaf.result.leaf c.on.result c.on.ensures c.requires.fits
    (leaf_is c.args.slots.now c.args.rows c.args.arm c.place-leaf.result.leaf _ (sym c.requires.fits.slice_is) c.place-leaf.ensures.leaf)

pub returns-then-not-answers : goal.returns-then-not-answers
returns-then-not-answers g c = record { lands = (sym c.answers.ensures ∙ c.if-not-answers.true, refl); counts = counts_silent (g.R.Rack.faults c.args.rack.now); shape = refl }

pub returns-in-Ok-clause-lands : goal.returns-in-Ok-clause-lands
returns-in-Ok-clause-lands g c = (
  sym c.answers.ensures ∙ c.if-not-answers.false,
  c.place-leaf.result.leaf,
  leaf_is c.args.slots.now c.args.rows c.args.arm c.place-leaf.result.leaf _ (sym c.requires.fits.slice_is) c.place-leaf.ensures.leaf,
  subst (λ (on : Rows). OnBothTold (g.R.Rack.told c.args.rack.now) (g.R.Rack.told c.write_rows.new.rack) (WritesRows on c.args.column.now on.count on.count)) c.on.ensures c.in-Ok.ensures.ok,
)

pub returns-in-Err-clause-lands : goal.returns-in-Err-clause-lands
returns-in-Err-clause-lands g c = (
  sym c.answers.ensures ∙ c.if-not-answers.false,
  leaf_is c.args.slots.now c.args.rows c.args.arm c.place-leaf.result.leaf _ (sym c.requires.fits.slice_is) c.place-leaf.ensures.leaf,
  subst (λ (on : Rows). LeavesTold (in_rows on) (g.R.Rack.told c.args.rack.now) (g.R.Rack.told c.write_rows.new.rack)) c.on.ensures c.in-Err.ensures.leaves,
)

pub returns-in-Ok-clause-counts : goal.returns-in-Ok-clause-counts
returns-in-Ok-clause-counts g c = counts_done (g.R.Rack.faults c.args.rack.now) (g.R.Rack.faults c.write_rows.new.rack) c.write_rows.ensures.cause.later

pub returns-in-Err-clause-counts : goal.returns-in-Err-clause-counts
returns-in-Err-clause-counts g c =
    let before = g.R.Rack.faults c.args.rack.now in
    let now = g.R.Rack.faults c.write_rows.new.rack in
    counts_failed c.place-leaf.result.leaf before now c.in-Err.ensures.cause.later (subst (λ (on : Rows). Rose (before (Some on.leaf)) (now (Some on.leaf))) c.on.ensures c.in-Err.ensures.cause.cause)

pub answers-requires-clause-there : goal.answers-requires-clause-there
answers-requires-clause-there g c = c.requires.there

pub answers-requires-clause-slice : goal.answers-requires-clause-slice
answers-requires-clause-slice g c = c.requires.fits.slice_below

pub place-leaf-requires-clause-there : goal.place-leaf-requires-clause-there
place-leaf-requires-clause-there g c = c.requires.there

pub place-leaf-requires-clause-sector : goal.place-leaf-requires-clause-sector
place-leaf-requires-clause-sector g c = let some = c.requires.fits.some in let inside = c.requires.fits.inside in omega (arith, some, inside)

pub write_rows-requires-clause-long : goal.write_rows-requires-clause-long
write_rows-requires-clause-long g c = rows_long c.args.rows c.place-leaf.result.leaf c.on.result (length c.args.column.now) c.on.ensures c.requires.long

pub returns-in-Ok-clause-shape : goal.returns-in-Ok-clause-shape
returns-in-Ok-clause-shape g c = c.write_rows.ensures.shape

pub returns-in-Err-clause-shape : goal.returns-in-Err-clause-shape
returns-in-Err-clause-shape g c = c.write_rows.ensures.shape
