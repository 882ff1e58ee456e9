use Rattle.draid_session.proofs.LanesCalm.{lanes_present, section_reached}
use Rattle.draid_session.proofs.lanes.lanes_leave_logs_once_present.Goals as goal

pub returns : goal.returns
returns g c commands replies old new it reached =
    let choices = g.D.Decides.choices c.args.decider.now in (lanes_present old choices commands replies new it reached, section_reached old choices commands replies new it reached)
