use Rattle.draid_works.proofs.Whole.{lane_goes}
use Rattle.draid_works.proofs.lanes.read_in_lane.Goals as goal

pub returns-clause-whole : goal.returns-clause-whole
returns-clause-whole g c =
    let e = c.read_object.ensures in
    lane_goes g.R.Rack g.A.Area c.args.lane.now c.read_object.new.metaslabs c.requires.whole e.locks e.owns c.args.lane.now.own e.fits e.stay e.whole

pub returns-clause-step : goal.returns-clause-step
returns-clause-step g c x layout knows = c.read_object.ensures.step x layout knows
