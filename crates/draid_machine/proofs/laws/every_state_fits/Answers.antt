use Rattle.draid_machine.proofs.Fitted.{every_fit}
use Rattle.draid_machine.proofs.laws.every_state_fits.Goals as goal

pub returns : goal.returns
returns c = every_fit
