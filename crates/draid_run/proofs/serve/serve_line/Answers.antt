use Rattle.std.proofs.Common.{subst, sym}
use Rattle.std.specs.Fn.{FnReturnsAt}
use Rattle.draid_agent.specs.Policy.{PolicyReturns}
use Rattle.draid_pool.specs.Shelves.{on_shelf}
use Rattle.draid_clashes.specs.Lanes.{lanes_in}
use Rattle.draid_run.specs.Sections.{IsReading, place_in, place_next}
use Rattle.draid_session.specs.Choices.{choices_with}
use Rattle.draid_run.specs.Serve.{LineIs, done_of}
use Rattle.draid_run.proofs.Within.{lanes_plain, line_with}
use Rattle.draid_run.proofs.serve.serve_line.Goals as goal

pub returns-in-Some-clause-line : goal.returns-in-Some-clause-line
returns-in-Some-clause-line g c entry x desk =
    subst (λ s. LineIs g.H.R.Rack g.H.A.Area (choices_with (FnReturnsAt g.F.Fn c.args.chooser.now) (PolicyReturns g.P.Fn c.args.policy.now)) c.args.journal.now.entries c.args.journal.now.entries (place_in s) c.args.number c.args.text.now entry (on_shelf g.H.Shelf c.args.shelf.now) c.args.pool.now x (on_shelf g.H.Shelf c.args.shelf.now) c.serve_inside.new.pool (g.K.Sink.held c.args.sink.now) (g.K.Sink.held c.serve_inside.new.sink) (place_next c.serve_inside.result) (done_of c.serve_inside.result)) (sym c.in-Some.is)
    (line_with (FnReturnsAt g.F.Fn c.args.chooser.now) (PolicyReturns g.P.Fn c.args.policy.now) g.H.R.Rack g.H.A.Area c.args.journal.now.entries c.args.journal.now.entries (lanes_in c.in-Some.lanes.items) (lanes_plain (lanes_in c.in-Some.lanes.items) (subst IsReading c.in-Some.is c.requires.reading).each) c.args.number c.args.text.now entry
    (on_shelf g.H.Shelf c.args.shelf.now) c.args.pool.now x (on_shelf g.H.Shelf c.args.shelf.now) c.serve_inside.new.pool (g.K.Sink.held c.args.sink.now) (g.K.Sink.held c.serve_inside.new.sink) (place_next c.serve_inside.result) (done_of c.serve_inside.result)
    (c.serve_inside.ensures.line c.args.journal.now.entries entry (on_shelf g.H.Shelf c.args.shelf.now) x desk))
