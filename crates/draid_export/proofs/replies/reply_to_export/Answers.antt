use Rattle.std.proofs.Common.{◌∙◌, Err, ap, arith, refl}
use Rattle.draid_pool.specs.Shelves.{on_shelf}
use Rattle.draid_export.proofs.Replied.{exported, exported_group, refused}
use Rattle.draid_export.proofs.replies.reply_to_export.Goals as goal

pub returns-in-Ok : goal.returns-in-Ok
returns-in-Ok g c = record {
  whole = tt;
  same = tt;
  later = tt;
  cause = tt;
  fits = (c.in-Ok.group, refl);
  names = λ group same. (let grows = c.in-Ok.ensures.grows in let is = c.in-Ok.ensures.names in let named = exported_group c.in-Ok.group group same in omega (arith, grows, is, named));
  refused = tt;
  step = λ x is.
      exported g.H.R.Rack g.H.A.Area c.sync_for_export.new.pool x c.sync_for_export.result (c.sync_for_export.ensures.carries x is) c.in-Ok.group c.in-Ok.is (on_shelf g.H.Shelf c.args.shelf.now) (on_shelf g.H.Shelf c.close.new.shelf)
      c.close.ensures.back;
  alone = tt;
  faults = c.close.ensures.faults;
}

pub returns-in-Err : goal.returns-in-Err
returns-in-Err g c = record {
  whole = c.sync_for_export.ensures.whole;
  same = c.sync_for_export.ensures.same;
  later = c.sync_for_export.ensures.later;
  cause = λ failed. c.sync_for_export.ensures.cause (c.in-Err.is ∙ ap Err (c.refusal.ensures.failed failed));
  fits = tt;
  names = tt;
  refused = (c.in-Err.why, c.refusal.ensures.refusal);
  step = λ x is. refused g.H.R.Rack g.H.A.Area c.sync_for_export.new.pool x c.sync_for_export.result (c.sync_for_export.ensures.carries x is) c.in-Err.why c.in-Err.is c.refusal.result c.refusal.ensures.refusal;
  alone = refl;
  faults = refl;
}
