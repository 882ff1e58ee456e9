use Rattle.draid_works.proofs.Whole.{lane_goes}
use Rattle.draid_works.proofs.lanes.sum_in_lane.Goals as goal

pub returns-clause-whole : goal.returns-clause-whole
returns-clause-whole g c =
    let e = c.sum_objects.ensures in
    lane_goes g.R.Rack g.A.Area c.args.lane.now c.sum_objects.new.metaslabs c.requires.whole e.locks e.owns c.args.lane.now.own e.fits e.stay e.whole

pub returns-clause-step : goal.returns-clause-step
returns-clause-step g c x layout knows = c.sum_objects.ensures.step x layout knows
