use Rattle.std.proofs.Common.{◌≡◌, ◌∙◌}
use Rattle.draid_lanes.specs.Ubers.{IsUberOf}
use Rattle.draid_lanes.proofs.SyncUnder.{stood_keeps}
use Rattle.draid_lanes.proofs.governing.govern_in_lane.Goals as goal

pub call-requires : goal.call-requires
call-requires g c =
    let locks = c.args.metaslabs.turns.now in
    record {
      own = c.requires.own;
      ready = λ log u stood follows.
          (let z = stood_keeps _ (λ v. (v.turns.now ≡ locks) × IsUberOf g.R.Rack g.A.Area v.turns.now v.uber v.groups) c.args.uber.now.first log u
          (λ a past was step. (step.same ∙ was.0, step.is)) (c.requires.turns, c.requires.first) stood in
          (c.requires.may, z.0, z.1));
      keeps = λ x y after can did. did.step;
      number = λ n is. absurd (cc);
    }

pub returns : goal.returns
returns g c =
    let d = c.call.ensures in
    let r = d.related in
    let q = r.governed in
    record {
      turns = r.turns;
      owns = r.owns;
      lane = r.lane;
      layout = r.layout;
      whole = r.whole;
      own = d.table;
      governed = record {
        log = d.log;
        value = d.value;
        left = d.left;
        stood = d.stood;
        follows = d.follows;
        related = record { met = q.met; after = q.after; same = q.same; meets = q.meets; related = q.related; parts = q.parts; turns = r.step.same };
        number = λ n is. absurd (cc);
        seen = d.seen;
        own = d.own;
        numbers = d.numbers;
        table = d.table;
      };
    }
