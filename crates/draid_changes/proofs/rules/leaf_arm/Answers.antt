use Rattle.std.proofs.Common.{refl}
use Rattle.draid_changes.proofs.rules.leaf_arm.Goals as goal

pub returns : goal.returns
returns c = refl
