use Rattle.draid_mend.proofs.Chained.{loan_is_right}
use Rattle.draid_mend.proofs.laws.solved_loans_stand.Goals as goal

pub returns : goal.returns
returns g c = loan_is_right g.R.Rack
