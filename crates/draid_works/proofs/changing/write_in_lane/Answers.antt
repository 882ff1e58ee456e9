use Rattle.draid_works.proofs.Whole.{lane_goes, lane_many}
use Rattle.draid_works.proofs.changing.write_in_lane.Goals as goal

pub write_through-requires-clause-many : goal.write_through-requires-clause-many
write_through-requires-clause-many g c = lane_many g.R.Rack g.A.Area c.args.lane.now c.requires.whole

pub returns-clause-whole : goal.returns-clause-whole
returns-clause-whole g c =
    let e = c.write_through.ensures in
    lane_goes g.R.Rack g.A.Area c.args.lane.now c.write_through.new.metaslabs c.requires.whole e.locks e.owns c.write_through.new.own e.fits e.stay e.whole

pub returns-clause-step : goal.returns-clause-step
returns-clause-step g c x layout none knows = c.write_through.ensures.step x layout none knows
