use Rattle.std.proofs.Common.{◌*◌, string_bytes}
use Rattle.draid_gen.specs.Workload.{AddsLines, each, read}
use Rattle.draid_gen.proofs.parts.add_reads.Given as goal

abbrev pub invariant-loop-tens : goal.invariant-loop-tens
invariant-loop-tens l = AddsLines (string_bytes l.initial.script) (each l.tens (λ tens. read (10 * tens))) (string_bytes l.script)
