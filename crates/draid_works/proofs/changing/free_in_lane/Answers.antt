use Rattle.draid_works.proofs.Whole.{lane_goes}
use Rattle.draid_works.proofs.changing.free_in_lane.Goals as goal

pub returns-clause-whole : goal.returns-clause-whole
returns-clause-whole g c =
    let e = c.free_through.ensures in
    lane_goes g.R.Rack g.A.Area c.args.lane.now c.free_through.new.metaslabs c.requires.whole e.locks e.owns c.free_through.new.own e.fits e.stay e.whole

pub returns-clause-step : goal.returns-clause-step
returns-clause-step g c x loose knows = c.free_through.ensures.step x loose knows
