use Rattle.std.proofs.Common.{None, refl}
use Rattle.draid_works.specs.declared.mending.MendWork.{MendWork}
use Rattle.draid_works.proofs.Mended.{has_answer, mended_in, mended_within, met_mend}
use Rattle.draid_works.proofs.mending.mend_locked.Goals as goal

pub govern_in_lane-metaslabs-requires : goal.govern_in_lane-metaslabs-requires
govern_in_lane-metaslabs-requires g c = record {
  own = c.requires.own;
  may = record { all = refl; lane_is = c.requires.lane; needed = λ met same is. met_mend g.R.Rack g.A.Area c.args.geometry c.args.metaslabs met same is c.requires.may };
  first = c.requires.first;
  turns = c.requires.turns;
}

pub unwrap-requires : goal.unwrap-requires
unwrap-requires g c =
    let did = c.govern_in_lane-metaslabs in
    has_answer g.R.Rack g.A.Area c.args.uber.now c.args.metaslabs did.result.0 (record { geometry = c.args.geometry; kind = c.args.kind; limit = c.args.limit; out = None }) did.result.1 c.args.pass.now did.new.pass did.ensures.governed

pub returns : goal.returns
returns g c =
    let did = c.govern_in_lane-metaslabs in
    let e = did.ensures in
    let work : MendWork = record { geometry = c.args.geometry; kind = c.args.kind; limit = c.args.limit; out = None } in
    record {
      turns = e.turns;
      owns = e.owns;
      lane = e.lane;
      layout = e.layout;
      whole = e.whole;
      own = e.own;
      within = mended_within g.R.Rack g.A.Area c.args.uber.now c.args.metaslabs did.result.0 work did.result.1 c.args.pass.now did.new.pass e.governed c.unwrap.result c.unwrap.ensures;
      mends = mended_in g.R.Rack g.A.Area c.args.uber.now c.args.metaslabs did.result.0 work did.result.1 c.args.pass.now did.new.pass e.governed c.unwrap.result c.unwrap.ensures;
    }
