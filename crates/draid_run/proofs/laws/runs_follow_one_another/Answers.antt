use Rattle.draid_run.proofs.Next.{desk_found, tells_found}
use Rattle.draid_run.proofs.laws.runs_follow_one_another.Goals as goal

pub returns : goal.returns
returns g c words status input old new entry now found first crash it is = (desk_found crash it.last entry now found is it.shelf, tells_found crash entry now found is it.tells)
