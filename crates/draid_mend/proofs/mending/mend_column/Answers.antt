use Rattle.std.proofs.Common.{length, arith, sym}
use Rattle.draid_shard.proofs.Holders.{leaf_is}
use Rattle.draid_mend.proofs.Mends.{sector_fits}
use Rattle.draid_mend.proofs.mending.mend_column.Goals as goal

pub mend-requires : goal.mend-requires
mend-requires g c = record {
  place = sector_fits (g.R.Rack.shape c.args.rack.now) c.args.slots.now c.args.rows c.args.arm c.place-leaf.result.leaf (length c.args.column.now) c.requires.fits
      (leaf_is c.args.slots.now c.args.rows c.args.arm c.place-leaf.result.leaf _ (sym c.requires.fits.slice_is) c.place-leaf.ensures.leaf) c.requires.long;
}

pub place-leaf-requires-clause-sector : goal.place-leaf-requires-clause-sector
place-leaf-requires-clause-sector g c = let some = c.requires.fits.some in let inside = c.requires.fits.inside in omega (arith, some, inside)
