use Rattle.std.proofs.Common.{Some, Ok, Err, inl, inr, refl}
use Rattle.draid_pool.specs.Shelves.{on_shelf}
use Rattle.draid_import.proofs.Replied.{later_same, says_by}
use Rattle.draid_import.proofs.replies.reply_to_import.Goals as goal

pub close-requires-clause-whole : goal.close-requires-clause-whole
close-requires-clause-whole g c κs within = c.in-Ok.ensures.whole

pub returns-in-Ok-opened : goal.returns-in-Ok-opened
returns-in-Ok-opened g c = record {
  says = says_by g.H.R.Rack g.H.A.Area (on_shelf g.H.Shelf c.args.shelf.now) (on_shelf g.H.Shelf c.import.new.shelf) (on_shelf g.H.Shelf c.import.new.shelf) (Some c.in-Ok.open) c.import.result (Ok c.in-Ok.open) _ c.in-Ok.is
      (let e = c.import.ensures in
      record { whole = e.whole; none = e.none; read = e.read; empty = e.empty; faulty = e.faulty; check = e.check; imports = e.import; tells = e.tells; cause = e.cause; made = e.made })
      (inl (refl, refl, c.in-Ok-opened.reply, refl, c.in-Ok-opened.ensures));
  later = c.import.ensures.later;
}

pub returns-in-Err-opened : goal.returns-in-Err-opened
returns-in-Err-opened g c = record {
  says = says_by g.H.R.Rack g.H.A.Area (on_shelf g.H.Shelf c.args.shelf.now) (on_shelf g.H.Shelf c.import.new.shelf) (on_shelf g.H.Shelf c.close.new.shelf) c.args.pool.now c.import.result (Ok c.in-Ok.open) _ c.in-Ok.is
      (let e = c.import.ensures in
      record { whole = e.whole; none = e.none; read = e.read; empty = e.empty; faulty = e.faulty; check = e.check; imports = e.import; tells = e.tells; cause = e.cause; made = e.made })
      (inr (c.requires.closed, refl, record { back = c.close.ensures.back; tells = g.met.H.Shelf.steady c.import.new.shelf c.close.new.shelf }));
  later = later_same _ _ _ c.import.ensures.later c.close.ensures.faults;
}

pub returns-in-Err : goal.returns-in-Err
returns-in-Err g c = record {
  says = says_by g.H.R.Rack g.H.A.Area (on_shelf g.H.Shelf c.args.shelf.now) (on_shelf g.H.Shelf c.import.new.shelf) (on_shelf g.H.Shelf c.import.new.shelf) c.args.pool.now c.import.result (Err c.in-Err.fault) _ c.in-Err.is
      (let e = c.import.ensures in
      record { whole = e.whole; none = e.none; read = e.read; empty = e.empty; faulty = e.faulty; check = e.check; imports = e.import; tells = e.tells; cause = e.cause; made = e.made })
      (c.requires.closed, refl, c.unopened.ensures);
  later = c.import.ensures.later;
}
