use Rattle.std.proofs.Common.{refl}
use Rattle.draid_segments.proofs.Backing.{steady_by}
use Rattle.draid_segments.proofs.Beginning.{flushed_backed}
use Rattle.draid_segments.specs.Acts.{nowhere}
use Rattle.draid_segments.proofs.laws.flushes_keep_segments.Goals as goal

pub returns-clause-backed : goal.returns-clause-backed
returns-clause-backed c = flushed_backed

pub returns-clause-steady : goal.returns-clause-steady
returns-clause-steady c = λ l img doubt x y d. steady_by l img doubt nowhere x y d.only (λ s h k. refl)
