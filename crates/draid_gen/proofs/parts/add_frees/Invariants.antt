use Rattle.std.proofs.Common.{◌+◌, slice_index, string_bytes}
use Rattle.draid_gen.specs.Workload.{AddsLines, each, free}
use Rattle.draid_gen.proofs.parts.add_frees.Given as goal

abbrev pub invariant-loop-word : goal.invariant-loop-word
invariant-loop-word l = AddsLines (string_bytes l.initial.script) (each l.word (λ i. free (slice_index l.words (4 + i)))) (string_bytes l.script)
