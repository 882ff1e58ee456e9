use Rattle.std.proofs.Common.{◌*◌, string_bytes}
use Rattle.draid_gen.specs.Workload.{AddsLines, each, sum}
use Rattle.draid_gen.proofs.parts.add_sums.Given as goal

abbrev pub invariant-loop-hundreds : goal.invariant-loop-hundreds
invariant-loop-hundreds l = AddsLines (string_bytes l.initial.script) (each l.hundreds (λ hundreds. sum (100 * hundreds))) (string_bytes l.script)
