use Rattle.draid_uber.proofs.Layouts.{next_ranges}
use Rattle.draid_uber.proofs.uber.Uber.next.Goals as goal

pub returns-clause-ranges : goal.returns-clause-ranges
returns-clause-ranges g c = next_ranges _ _ _ _ _ c.requires.valid.held c.requires.next
