use Rattle.std.proofs.Common.{◌≤◌, take}
use Rattle.std.specs.Io.KnownBytes.{Appends}
use Rattle.draid_session.specs.Sections.{to_lanes}
use Rattle.draid_print.specs.Printing.{texts_of}
use Rattle.draid_print.specs.Printing.{replies_in}
use Rattle.draid_print.proofs.printing.print_lanes.Given as goal

-- the replies to the lanes so far were printed
abbrev pub invariant-loop-k : goal.invariant-loop-k
invariant-loop-k g l = let sink = g.K.Sink in record {
  printed : Appends (sink.held l.initial.sink) (sink.held l.sink) (texts_of (to_lanes 0 (replies_in (take l.k l.ran))));
  later : sink.faults l.initial.sink ≤ sink.faults l.sink;
}
