use Rattle.std.proofs.Common.{◌≤◌, take}
use Rattle.std.specs.Io.KnownBytes.{Appends}
use Rattle.draid_session.specs.Sections.{to_lane}
use Rattle.draid_print.specs.Printing.{texts_of}
use Rattle.draid_print.proofs.printing.print_lane.Given as goal

-- the replies so far were printed
abbrev pub invariant-loop-k : goal.invariant-loop-k
invariant-loop-k g l = let sink = g.K.Sink in record {
  printed : Appends (sink.held l.initial.sink) (sink.held l.sink) (texts_of (to_lane l.lane (take l.k l.replies)));
  later : sink.faults l.initial.sink ≤ sink.faults l.sink;
}
