use Rattle.std.proofs.Common.{ap}
use Rattle.draid_session.specs.Places.{Inside}
use Rattle.draid_run.proofs.Within.{opens_lanes}
use Rattle.draid_run.proofs.serve.open_section.Goals as goal

pub returns-in-Ok : goal.returns-in-Ok
returns-in-Ok c = record { opened = ap Inside c.in-Ok.ensures; reading = opens_lanes c.in-Ok.lanes.items c.args.count c.requires.some c.requires.few c.in-Ok.ensures; refused = tt }
