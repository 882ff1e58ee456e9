use Rattle.std.proofs.Common.{◌≡◌, ◌+◌, ℕ, arith, slice_index, string_bytes, subst}
use Rattle.draid_gen.specs.Workload.{AddsLines, each, free}
use Rattle.draid_gen.proofs.parts.add_frees.Goals as goal

pub returns : goal.returns
returns c =
    let end : c.loop-word.word ≡ 16 = omega (arith, c.loop-word-test.false, c.loop-word.auto.word-end) in
    subst (λ (n : ℕ). AddsLines (string_bytes c.args.script.now) (each n (λ i. free (slice_index c.args.words.now (4 + i)))) (string_bytes c.loop-word.script)) end c.loop-word.invariant
