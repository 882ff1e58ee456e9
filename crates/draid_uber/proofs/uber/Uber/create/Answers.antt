use Rattle.std.proofs.Common.{refl}
use Rattle.draid_uber.proofs.uber.Uber.create.Goals as goal

pub returns-clause-areas : goal.returns-clause-areas
returns-clause-areas g c = refl

pub returns-clause-none : goal.returns-clause-none
returns-clause-none g c = refl

pub returns-clause-layout : goal.returns-clause-layout
returns-clause-layout g c = refl

pub returns-clause-version : goal.returns-clause-version
returns-clause-version g c = refl

pub returns-clause-leaf : goal.returns-clause-leaf
returns-clause-leaf g c = c.from.ensures
