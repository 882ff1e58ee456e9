use Rattle.std.proofs.Common.{refl, sym}
use Rattle.draid_lanes.proofs.jobs.run_lane.Goals as goal

pub returns-in-Some : goal.returns-in-Some
returns-in-Some g c = record {
  lane = c.in-Some.lane;
  next = c.run-lane.result;
  was = sym c.in-Some.ensures.value;
  is = refl;
  related = c.run-lane.ensures.related;
}
