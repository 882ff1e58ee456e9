use Rattle.std.proofs.Common.{◌∙◌, Err, subst, sym}
use Rattle.draid_pool.specs.Shelves.{on_shelf}
use Rattle.draid_run.specs.Importing.{ImportIs}
use Rattle.draid_run.proofs.Exits.{same_later}
use Rattle.draid_run.proofs.Importings.{already_open, import_came, none_open}
use Rattle.draid_run.proofs.Makings.{shut}
use Rattle.draid_run.proofs.opening.import.Goals as goal

pub returns-then-is_some : goal.returns-then-is_some
returns-then-is_some g c = record {
  answer = λ entry x desk. already_open g.H.R.Rack g.H.A.Area entry (on_shelf g.H.Shelf c.args.shelf.now) c.args.pool.now x (sym c.is_some.ensures ∙ c.if-is_some.true) desk;
  later = same_later (g.H.Shelf.faults c.args.shelf.now);
}

pub returns-in-Ok : goal.returns-in-Ok
returns-in-Ok g c = record {
  answer = λ entry x desk.
      import_came g.H.R.Rack g.H.A.Area entry (on_shelf g.H.Shelf c.args.shelf.now) x (shut g.H.R.Rack g.H.A.Area c.args.pool.now x (sym c.is_some.ensures ∙ c.if-is_some.false) desk.stands) desk.shelf
      (on_shelf g.H.Shelf c.reply_to_import.new.shelf) c.reply_to_import.new.pool _ c.in-Ok.ensures.says;
  later = c.reply_to_import.ensures.later;
}

pub returns-in-Err : goal.returns-in-Err
returns-in-Err g c = record {
  answer = λ entry x desk.
      subst (λ s. ImportIs g.H.R.Rack g.H.A.Area entry (on_shelf g.H.Shelf c.args.shelf.now) x (on_shelf g.H.Shelf c.reply_to_import.new.shelf) c.reply_to_import.new.pool (Err s)) (sym c.import_stop.ensures)
      (import_came g.H.R.Rack g.H.A.Area entry (on_shelf g.H.Shelf c.args.shelf.now) x (shut g.H.R.Rack g.H.A.Area c.args.pool.now x (sym c.is_some.ensures ∙ c.if-is_some.false) desk.stands) desk.shelf
      (on_shelf g.H.Shelf c.reply_to_import.new.shelf) c.reply_to_import.new.pool _ c.in-Err.ensures.says);
  later = c.reply_to_import.ensures.later;
}

pub reply_to_import-requires-clause-closed : goal.reply_to_import-requires-clause-closed
reply_to_import-requires-clause-closed g c κs within = none_open c.args.pool.now (sym c.is_some.ensures ∙ c.if-is_some.false)
