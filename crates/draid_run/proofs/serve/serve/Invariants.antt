use Rattle.std.proofs.Common.{◌≡◌, ◌≤◌, ◌+◌, None}
use Rattle.std.specs.Io.KnownBytes.{prepend_known}
use Rattle.std.specs.Fn.{FnReturnsAt}
use Rattle.draid_agent.specs.Policy.{PolicyReturns}
use Rattle.draid_session.specs.Choices.{choices_with}
use Rattle.draid_lines.specs.Lines.{most_lines}
use Rattle.draid_run.specs.Sections.{IsReading, place_in}
use Rattle.draid_run.specs.Serve.{Serving}
use Rattle.draid_session.specs.Session.{Desk}
use Rattle.draid_pool.specs.Shelves.{on_shelf}
use Rattle.draid_run.specs.Shelves.{HoldsDesk}
use Rattle.draid_run.proofs.serve.serve.Given as goal

-- the lines so far were answered, and as many were given
abbrev pub invariant-lines : goal.invariant-lines
invariant-lines g l = let source = g.S.Source in let sink = g.K.Sink in record {
  serving : (first : Desk) → HoldsDesk first (on_shelf g.H.Shelf l.initial.shelf) (on_shelf g.H.Shelf l.initial.shelf)
      → Serving g.H.R.Rack g.H.A.Area (choices_with (FnReturnsAt g.F.Fn l.fn.chooser) (PolicyReturns g.P.Fn l.fn.policy)) (place_in l.section) l.journal.entries first (source.left l.initial.source) (prepend_known l.lines.held (source.left l.source)) (sink.held l.initial.sink) (sink.held l.sink)
      (on_shelf g.H.Shelf l.initial.shelf) (on_shelf g.H.Shelf l.shelf) l.pool l.lines.given;
  reading : IsReading l.section;
  fault : l.lines.fault ≡ None;
  given : l.lines.given + 1 ≡ l.number;
  few : l.lines.given ≤ most_lines;
  source_later : source.faults l.initial.source ≤ source.faults l.source;
  sink_later : sink.faults l.initial.sink ≤ sink.faults l.sink;
  shelf_later : g.H.Shelf.faults l.initial.shelf ≤ g.H.Shelf.faults l.shelf;
}
