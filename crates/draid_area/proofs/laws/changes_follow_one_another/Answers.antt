use Rattle.draid_area.proofs.Moments.{told_more, told_on}
use Rattle.draid_area.proofs.laws.changes_follow_one_another.Goals as goal

pub returns : goal.returns
returns c = record { one = told_on; more = told_more }
