use Rattle.draid_machine.proofs.Freshness.{step_fresh}
use Rattle.draid_machine.proofs.laws.arms_stay_fresh.Goals as goal

pub returns : goal.returns
returns c layout state new event lay step = step_fresh layout lay state new event step
