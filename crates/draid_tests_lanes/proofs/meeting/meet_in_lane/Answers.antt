use Rattle.std.proofs.Common.{refl}
use Rattle.draid_lanes.specs.Lanes.{table_of}
use Rattle.draid_works.proofs.Whole.{lane_goes, lane_many}
use Rattle.draid_tests_lanes.proofs.meeting.meet_in_lane.Goals as goal

pub meet_in-op-requires-clause-many : goal.meet_in-op-requires-clause-many
meet_in-op-requires-clause-many g c = lane_many g.R.Rack g.A.Area c.args.lane c.requires.whole

pub returns : goal.returns
returns g c =
    let lane = c.args.lane in
    let e = c.meet_in-op.ensures in
    record {
      leaves = record {
        whole = lane_goes g.R.Rack g.A.Area lane c.meet_in-op.new.metaslabs c.requires.whole e.locks e.owns lane.own e.fits e.stay (e.whole (table_of lane) lane.own.seq lane.own.floor c.requires.whole.whole);
        same = record { turns = e.locks; owns = e.owns; uber = refl; geometry = refl };
        numbers = refl;
      };
    }
