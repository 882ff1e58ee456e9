use Rattle.std.proofs.Common.{false}
use Rattle.std.specs.Prelude.{IsTrue}
use Rattle.draid_changes.proofs.holding.is_arm.Goals as goal

pub returns-in-None-clause-arm : goal.returns-in-None-clause-arm
returns-in-None-clause-arm g c = (λ is. absurd (let both : IsTrue false = is in cc), λ leaf. absurd (c.in-None.ensures.none leaf.0 leaf.1))
