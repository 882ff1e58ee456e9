use Rattle.std.proofs.Common.{slice_index, string_bytes}
use Rattle.draid_gen.specs.Workload.{AddsLines, each, fill}
use Rattle.draid_gen.proofs.parts.add_fills.Given as goal

abbrev pub invariant-loop-lane : goal.invariant-loop-lane
invariant-loop-lane l = AddsLines (string_bytes l.initial.script) (each l.lane (λ lane. fill l.number lane (slice_index l.words lane))) (string_bytes l.script)
