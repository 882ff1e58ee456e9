use Rattle.draid_machine.proofs.Settled.{every_fresh}
use Rattle.draid_machine.proofs.laws.fresh_arms_miss_the_first_group.Goals as goal

pub returns : goal.returns
returns c layout state name arm lay reached = (every_fresh layout lay state reached).core name arm
