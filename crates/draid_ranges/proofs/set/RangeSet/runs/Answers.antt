use Rattle.std.proofs.Common.{◌-◌, List, refl, subst, sym}
use Rattle.draid_ranges.specs.declared.run.Run.{Run}
use Rattle.draid_ranges.specs.Numbers.{AreRuns, Numbers}
use Rattle.draid_ranges.proofs.Maximal.{all_maximal}
use Rattle.draid_ranges.proofs.set.RangeSet.runs.Goals as goal

pub returns-clause-maximal : goal.returns-clause-maximal
returns-clause-maximal c =
    let S : Numbers → Type 0 = λ s. AreRuns s c.as_slice.result.now in
    let R : List Run → Type 0 = λ xs. AreRuns (record { runs = c.self.inside.runs.items; room = c.self.inside.runs.cap - c.self.inside.runs.len }) xs in
    subst S c.self.view_is (subst R (sym c.as_slice.ensures.value) (record { members = λ x. refl; apart = c.self.invariant; maximal = all_maximal c.self.inside.runs.items c.self.invariant }))
