use Rattle.draid_machine.proofs.Lent.{every_loan}
use Rattle.draid_machine.proofs.laws.loans_read_what_is_there.Goals as goal

pub returns : goal.returns
returns c = every_loan
