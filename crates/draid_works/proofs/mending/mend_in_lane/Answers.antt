use Rattle.std.proofs.Common.{◌∙◌, ℕ, Bool, ap, sym, subst, length}
use Rattle.draid_pool.specs.Threads.{IsWholeBy}
use Rattle.draid_lanes.specs.Governing.{lane_last}
use Rattle.draid_lanes.specs.Lanes.{table_of}
use Rattle.draid_lanes.specs.Knowing.{KnowsLater}
use Rattle.draid_works.proofs.MendStays.{mended_knows}
use Rattle.draid_works.proofs.MendFails.{lane_mend_fails}
use Rattle.draid_works.proofs.mending.mend_in_lane.Goals as goal

pub mend_locked-metaslabs-requires : goal.mend_locked-metaslabs-requires
mend_locked-metaslabs-requires g c =
    let is = c.requires.whole in
    record { own = is.uber; may = record { geometry_is = c.requires.geometry; passes = c.requires.passes; many = is.many; layout = is.layout }; lane = is.lane_is; first = is.first; turns = is.same }

pub returns-clause-whole : goal.returns-clause-whole
returns-clause-whole g c =
    let is = c.requires.whole in
    let lane = c.args.lane in
    let e = c.mend_locked-metaslabs.ensures in
    record {
      lane_is = e.lane;
      uber = e.own ∙ is.uber;
      same = is.same ∙ sym e.turns;
      first = is.first;
      many = ap length e.turns ∙ is.many;
      layout = e.layout lane.geometry is.layout;
      whole = subst (λ (f : ℕ → Bool). IsWholeBy g.R.Rack f (lane_last c.mend_locked-metaslabs.result.0) (table_of lane) lane.own.seq lane.own.floor) (sym e.owns) (e.whole (table_of lane) lane.own.seq lane.own.floor is.whole);
    }

pub returns-clause-knows : goal.returns-clause-knows
returns-clause-knows g c x knows =
    let is = c.requires.whole in
    let lane = c.args.lane in
    let did = c.mend_locked-metaslabs in
    subst (λ (f : ℕ → Bool). KnowsLater g.R.Rack g.A.Area f (lane_last did.result.0) (table_of lane) lane.own.seq lane.own.floor x) (sym did.ensures.owns)
    (mended_knows g.R.Rack g.A.Area lane.geometry c.args.kind c.args.limit lane.uber.now lane.metaslabs did.result.0 did.result.1 lane.pass did.new.pass is.lane_is is.same is.first did.ensures.mends did.ensures.turns (table_of lane) lane.own.seq lane.own.floor x knows)

pub returns-clause-cause : goal.returns-clause-cause
returns-clause-cause g c is =
    let lane = c.args.lane in
    let did = c.mend_locked-metaslabs in
    lane_mend_fails g.R.Rack g.A.Area lane.geometry c.args.kind c.args.limit lane.uber.now lane.metaslabs did.result.0 did.result.1 lane.pass did.new.pass did.ensures.mends is
