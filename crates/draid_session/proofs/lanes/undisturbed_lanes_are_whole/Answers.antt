use Rattle.draid_session.proofs.LanesCalm.{section_tells, section_well}
use Rattle.draid_session.proofs.lanes.undisturbed_lanes_are_whole.Goals as goal

pub returns-clause-errors : goal.returns-clause-errors
returns-clause-errors g c commands replies old new it none calm = section_tells old (g.D.Decides.choices c.args.decider.now) commands replies new it none calm

pub returns-clause-targets : goal.returns-clause-targets
returns-clause-targets g c commands replies old new it none calm = section_well old (g.D.Decides.choices c.args.decider.now) commands replies new it none calm
