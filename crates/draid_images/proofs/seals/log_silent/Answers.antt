use Rattle.std.proofs.Common.{refl}
use Rattle.draid_images.proofs.seals.log_silent.Goals as goal

pub returns-clause-rest : goal.returns-clause-rest
returns-clause-rest c = refl

pub returns-then-not-wrote-clause-rest : goal.returns-then-not-wrote-clause-rest
returns-then-not-wrote-clause-rest c = refl
