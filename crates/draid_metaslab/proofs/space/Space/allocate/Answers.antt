use Rattle.std.proofs.Common.{ℕ, Bool, subst}
use Rattle.draid_metaslab.specs.Spaces.{Stripes, is_free}
use Rattle.draid_metaslab.specs.Spots.{IsLargest, IsLowest}
use Rattle.draid_metaslab.proofs.Views.{of_set}
use Rattle.draid_metaslab.proofs.space.Space.allocate.Goals as goal

pub returns-in-Err-clause-refused : goal.returns-in-Err-clause-refused
returns-in-Err-clause-refused c =
    let T : (ℕ → Bool) → Type 0 = λ t. IsLargest t c.self.inside.height c.in-Err.largest in
    let S : Stripes → Type 0 = λ s. IsLargest (is_free s) s.height c.in-Err.largest in
    (subst S c.self.view_is (of_set T c.runs.result.now c.self.inside.free c.runs.ensures.maximal.members c.in-Err.ensures.none), c.in-Err.ensures.short)

pub returns-clause-lowest : goal.returns-clause-lowest
returns-clause-lowest c =
    let T : (ℕ → Bool) → Type 0 = λ t. IsLowest t c.self.inside.height c.args.stripes c.in-Ok.first in
    let S : Stripes → Type 0 = λ s. IsLowest (is_free s) s.height c.args.stripes c.in-Ok.first in
    subst S c.self.view_is (of_set T c.runs.result.now c.self.inside.free c.runs.ensures.maximal.members c.in-Ok.ensures.found)
