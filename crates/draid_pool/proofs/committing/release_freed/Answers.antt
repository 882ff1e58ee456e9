use Rattle.std.proofs.Common.{◌∙◌, arith}
use Rattle.draid_pool.proofs.Releasing.{more_goes, none_below, still_fitting}
use Rattle.draid_pool.proofs.committing.release_freed.Goals as goal

pub loop-entry-preserved : goal.loop-entry-preserved
loop-entry-preserved c =
    let i = c.loop-entry.invariant in
    let e = c.release_if_freed.ensures in
    let at = c.in-Some.ensures in
    record {
      fits = still_fitting c.loop-entry.space c.release_if_freed.new.space c.loop-entry.entries c.release_if_freed.new.entries i.fits e.tables;
      tables = λ geometry open_group t. e.tables geometry open_group (i.tables geometry open_group t);
      drops = more_goes c.args.group c.args.entries.now c.loop-entry.entries c.release_if_freed.new.entries i.drops e.drops;
      below = none_below c.args.group c.loop-entry.entries c.release_if_freed.new.entries c.loop-entry.stripe c.in-Some.entry.pointer.first e.drops i.below at.first e.here;
      low = (let low = at.low in omega (arith, low));
      disabled = e.disabled ∙ i.disabled;
    }
