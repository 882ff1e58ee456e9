use Rattle.draid_section.proofs.Counted.{areas_come_back}
use Rattle.draid_section.proofs.laws.areas_come_back_later.Goals as goal

pub returns : goal.returns
returns g c pool lists jobs new done d = areas_come_back g.R.Rack g.A.Area g.J.LaneJob.relates pool lists jobs new done d
