use Rattle.std.proofs.Common.{◌∙◌, subst, sym}
use Rattle.draid_pool.specs.Shelves.{on_shelf}
use Rattle.draid_run.specs.Closing.{CrashDid}
use Rattle.draid_run.proofs.Closings.{crashed}
use Rattle.draid_run.proofs.Steps.{is_whole}
use Rattle.draid_run.proofs.closing.crash.Goals as goal

pub reply_to_crash-requires-clause-whole : goal.reply_to_crash-requires-clause-whole
reply_to_crash-requires-clause-whole g c κs within = is_whole g.H.R.Rack g.H.A.Area c.args.pool.now c.in-Some.open (sym c.take.ensures.value ∙ c.in-Some.is) c.requires.desk

pub returns-in-Some-clause-did : goal.returns-in-Some-clause-did
returns-in-Some-clause-did g c entry x desk =
    subst (λ r. CrashDid g.H.R.Rack g.H.A.Area entry x r (on_shelf g.H.Shelf c.reply_to_crash.new.shelf) c.take.new.self) (sym c.reply_to_crash.ensures.is)
    (crashed g.H.R.Rack g.H.A.Area entry (on_shelf g.H.Shelf c.args.shelf.now) (on_shelf g.H.Shelf c.reply_to_crash.new.shelf) c.args.pool.now c.in-Some.open c.in-Some.open (sym c.take.ensures.value ∙ c.in-Some.is)
    c.reply_to_crash.ensures.firm c.reply_to_crash.ensures.back (g.met.H.Shelf.steady c.args.shelf.now c.reply_to_crash.new.shelf) c.take.new.self c.take.ensures.after x desk)
