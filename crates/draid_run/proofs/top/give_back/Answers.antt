use Rattle.std.proofs.Common.{refl}
use Rattle.draid_pool.specs.Shelves.{on_shelf}
use Rattle.draid_run.proofs.GivenBack.{leaves_open, leaves_shut, not_some}
use Rattle.draid_run.proofs.Steps.{is_whole}
use Rattle.draid_run.proofs.top.give_back.Goals as goal

pub returns-in-Some-clause-leaves : goal.returns-in-Some-clause-leaves
returns-in-Some-clause-leaves g c entry =
    leaves_open g.H.R.Rack g.H.A.Area entry (on_shelf g.H.Shelf c.args.shelf.now) (on_shelf g.H.Shelf c.close.new.shelf) c.args.pool c.in-Some.pool c.in-Some.is c.close.ensures.back (g.met.H.Shelf.steady c.args.shelf.now c.close.new.shelf) c.close.ensures.failed
    c.close.ensures.racks

pub close-requires-clause-whole : goal.close-requires-clause-whole
close-requires-clause-whole g c κs within = is_whole g.H.R.Rack g.H.A.Area c.args.pool c.in-Some.pool c.in-Some.is c.requires.desk

pub returns-in_default-clause-leaves : goal.returns-in_default-clause-leaves
returns-in_default-clause-leaves g c entry =
    leaves_shut g.H.R.Rack g.H.A.Area entry (on_shelf g.H.Shelf c.args.shelf.now) (on_shelf g.H.Shelf c.args.shelf.now) c.args.pool (not_some c.args.pool c.in_default.not-Some) refl
