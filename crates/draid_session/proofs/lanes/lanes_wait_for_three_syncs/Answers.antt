use Rattle.draid_session.specs.Lanes.{Lane}
use Rattle.draid_session.proofs.Waiting.{lane_waits}
use Rattle.draid_session.proofs.lanes.lanes_wait_for_three_syncs.Goals as goal
use Rattle.std.proofs.Common.{map}

pub returns : goal.returns
returns g c commands replies old new i m holds end it reached below readies =
    lane_waits old new (map (λ (lane : Lane old (g.D.Decides.choices c.args.decider.now)). lane.holds) it.lanes) i m holds end reached below it.together readies
