use Rattle.draid_machine.proofs.Others.{others_stay}
use Rattle.draid_machine.proofs.laws.events_leave_other_objects.Goals as goal

pub returns : goal.returns
returns c = others_stay
