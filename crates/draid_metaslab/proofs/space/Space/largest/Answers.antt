use Rattle.std.proofs.Common.{ℕ, Bool, subst}
use Rattle.draid_metaslab.specs.Spaces.{Stripes, is_free}
use Rattle.draid_metaslab.specs.Spots.{IsLargest}
use Rattle.draid_metaslab.proofs.Views.{of_set}
use Rattle.draid_metaslab.proofs.space.Space.largest.Goals as goal

pub returns : goal.returns
returns c =
    let T : (ℕ → Bool) → Type 0 = λ t. IsLargest t c.self.inside.height c.in-Err.largest in
    let S : Stripes → Type 0 = λ s. IsLargest (is_free s) s.height c.in-Err.largest in
    subst S c.self.view_is (of_set T c.runs.result.now c.self.inside.free c.runs.ensures.maximal.members c.in-Err.ensures.none)
