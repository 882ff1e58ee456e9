use Rattle.draid_stable.proofs.Armed.{slots_ranged}
use Rattle.draid_stable.proofs.laws.told_arms_are_in_range.Goals as goal

pub returns : goal.returns
returns c = λ limits table slots sound fit tells logs. slots_ranged limits table sound fit slots tells logs
