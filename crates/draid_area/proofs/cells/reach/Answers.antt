use Rattle.draid_area.proofs.Clocks.{reach_kept, reach_long, reach_same}
use Rattle.draid_area.proofs.cells.reach.Goals as goal

pub returns : goal.returns
returns g c = record {
  same = reach_same _ _ _ _ _ c.grow.ensures.ok c.grow.ensures.err;
  long = reach_long _ _ _ _ _ c.grow.ensures.ok;
  kept = reach_kept _ _ _ _ _ c.grow.ensures.ok c.grow.ensures.err;
}
