use Rattle.std.proofs.Common.{sym, ap, subst, arith, length, refl}
use Rattle.draid_lanes.specs.Governing.{IsMet}
use Rattle.draid_lanes.specs.Meeting.{EachParts}
use Rattle.draid_lanes.specs.Ubers.{IsLane}
use Rattle.draid_lanes.proofs.SyncUnder.{layout_through, may_part, met_governor, met_is, parted_lane, parted_last, parted_same, parted_uber, whole_through}
use Rattle.draid_lanes.proofs.governing.govern_under.Goals as goal

pub govern-requires : goal.govern-requires
govern-requires g c =
    let turns = c.args.metaslabs.now.turns.now in
    let lanes = c.args.metaslabs.now.passes.items in
    let met = c.meet_all.new.passes.items in
    let may = c.requires.may in
    record {
      governor = met_governor g.R.Rack g.A.Area turns lanes met c.args.uber.now c.args.groups.now may.lane_is c.requires.uber c.meet_all.ensures.met c.args.count may.all;
      needs = may.needed (record c.args.metaslabs.now { passes = c.meet_all.new.passes }) refl (met_is g.R.Rack g.A.Area turns lanes met c.args.uber.now c.args.groups.now may.lane_is c.requires.uber c.meet_all.ensures.met);
    }

pub part_all-requires : goal.part_all-requires
part_all-requires g c =
    let turns = c.args.metaslabs.now.turns.now in
    let lanes = c.args.metaslabs.now.passes.items in
    let met = c.meet_all.new.passes.items in
    let may = c.requires.may in
    let e = c.govern.ensures in
    let now = c.govern.new.metaslabs in
    let lane = subst (λ ls. IsLane g.R.Rack ls lanes) (sym e.turns) may.lane_is in
    let was = subst (λ ls. IsMet g.R.Rack g.A.Area ls lanes met) (sym e.turns) (met_is g.R.Rack g.A.Area turns lanes met c.args.uber.now c.args.groups.now may.lane_is c.requires.uber c.meet_all.ensures.met) in
    let many = ap length e.turns in
    let room = c.requires.uber.room in
    let one = c.meet_all.ensures.room in
    record {
      fits = e.governor.fits;
      may = may_part g.R.Rack g.A.Area now.turns.now lanes met now.passes.items lane was e.owns c.govern.new.uber c.args.count e.governor;
      none = c.meet_all.ensures.none;
      room = omega (arith, many, room, one);
    }

pub returns : goal.returns
returns g c =
    let turns = c.args.metaslabs.now.turns.now in
    let lanes = c.args.metaslabs.now.passes.items in
    let met = c.meet_all.new.passes.items in
    let may = c.requires.may in
    let e = c.govern.ensures in
    let now = c.govern.new.metaslabs in
    let new = c.part_all.new.passes.items in
    let parts = c.part_all.ensures.parted in
    let met_so = met_is g.R.Rack g.A.Area turns lanes met c.args.uber.now c.args.groups.now may.lane_is c.requires.uber c.meet_all.ensures.met in
    let lane = subst (λ ls. IsLane g.R.Rack ls lanes) (sym e.turns) may.lane_is in
    let was = subst (λ ls. IsMet g.R.Rack g.A.Area ls lanes met) (sym e.turns) met_so in
    let many = ap length e.turns in
    let room = c.requires.uber.room in
    let one = c.meet_all.ensures.room in
    let two = c.part_all.ensures.room in
    let left = parted_last g.R.Rack g.A.Area now.turns.now lanes met now.passes.items lane was e.owns c.govern.new.uber c.args.count e.governor new c.part_all.new.groups parts in
    record {
      turns = e.turns;
      owns = parted_same g.R.Rack g.A.Area now.turns.now lanes met now.passes.items lane was e.owns c.govern.new.uber c.args.count e.governor new c.part_all.new.groups parts;
      lane = parted_lane g.R.Rack g.A.Area now.turns.now lanes met now.passes.items lane was e.owns c.govern.new.uber c.args.count e.governor new c.part_all.new.groups parts;
      uber = parted_uber g.R.Rack g.A.Area now.turns.now lanes met now.passes.items lane was e.owns c.govern.new.uber c.args.count e.governor new c.part_all.new.groups parts (omega (arith, many, room, one, two));
      later = e.later;
      point = e.point;
      layout = layout_through g.R.Rack g.A.Area turns lanes met may.lane_is met_so _ _ left e.layout;
      whole = whole_through g.R.Rack g.A.Area turns lanes met may.lane_is met_so _ _ left e.keeps;
      governed = record {
        met = record c.args.metaslabs.now { passes = c.meet_all.new.passes };
        after = now;
        same = (refl, e.turns);
        meets = c.meet_all.ensures.met;
        related = e.related;
        parts = subst (λ ls. EachParts ls now.passes.items new c.part_all.new.groups.items) e.turns parts;
      };
    }
