use Rattle.draid_section.proofs.Counted.{failed_stays}
use Rattle.draid_section.proofs.laws.failed_areas_stay_counted.Goals as goal

pub returns : goal.returns
returns g c pool lists jobs new done d i end end_is tells = failed_stays g.R.Rack g.A.Area g.J.LaneJob.relates pool lists jobs new done d i end end_is tells
