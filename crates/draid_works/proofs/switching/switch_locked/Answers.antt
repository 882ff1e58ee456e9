use Rattle.std.proofs.Common.{None}
use Rattle.draid_works.specs.declared.switching.SwitchWork.{SwitchWork}
use Rattle.draid_works.proofs.Switched.{has_answer, leaf_behind, switched_in}
use Rattle.draid_works.proofs.switching.switch_locked.Goals as goal

pub govern_in_lane-metaslabs-requires : goal.govern_in_lane-metaslabs-requires
govern_in_lane-metaslabs-requires g c = record {
  own = c.requires.own;
  may = record { all = c.requires.count; lane_is = c.requires.lane; needed = λ met same is. tt };
  first = c.requires.first;
  turns = c.requires.turns;
}

pub unwrap-requires : goal.unwrap-requires
unwrap-requires g c =
    let did = c.govern_in_lane-metaslabs in
    has_answer g.R.Rack g.A.Area c.args.uber.now c.args.metaslabs did.result.0 (record { leaf = c.args.leaf; offline = c.args.offline; out = None }) did.result.1 c.args.pass.now did.new.pass did.ensures.governed

pub returns : goal.returns
returns g c =
    let did = c.govern_in_lane-metaslabs in
    let e = did.ensures in
    let work : SwitchWork = record { leaf = c.args.leaf; offline = c.args.offline; out = None } in
    record {
      turns = e.turns;
      owns = e.owns;
      lane = e.lane;
      layout = e.layout;
      whole = e.whole;
      own = e.own;
      leaf = leaf_behind g.R.Rack g.A.Area c.args.uber.now c.args.metaslabs did.result.0 work did.result.1 c.args.pass.now did.new.pass e.governed c.unwrap.result c.unwrap.ensures c.args.count c.requires.count e.turns;
      switches = switched_in g.R.Rack g.A.Area c.args.uber.now c.args.metaslabs did.result.0 work did.result.1 c.args.pass.now did.new.pass e.governed c.unwrap.result c.unwrap.ensures;
    }
