use Rattle.std.proofs.Common.{◌∙◌, ap, ℕ, List, length}
use Rattle.rand_core.specs.Stream.{Stream, fill_bytes}
use Rattle.rand_core.specs.Steps.{stream_of, steps_u64_low}
use Rattle.rand_xoshiro.specs.Xoroshiro128.{plus_plus}
use Rattle.draid_session.specs.Making.{content_of}
use Rattle.draid_works.proofs.filling.draw.Goals as goal

pub returns-clause-bytes : goal.returns-clause-bytes
unfolding content_of fill_bytes stream_of
returns-clause-bytes c =
    let first : List ℕ × Stream → List ℕ = λ p. p.0 in
    let bytes : List ℕ → List ℕ = λ s. (fill_bytes (length c.args.into.now) (stream_of (steps_u64_low plus_plus) s)).0 in
    ap first c.fill_bytes.ensures ∙ ap bytes c.seed_from_u64-rng.ensures
