use Rattle.draid_disks.proofs.Refused.{comes_unrefused, goes_unrefused}
use Rattle.draid_disks.proofs.laws.refusals_have_causes.Goals as goal

pub returns-clause-attach : goal.returns-clause-attach
returns-clause-attach g c = λ shard slot arm fault may again is. comes_unrefused shard slot arm fault may again is

pub returns-clause-detach : goal.returns-clause-detach
returns-clause-detach g c = λ slots at fault may is. goes_unrefused slots at fault may is
