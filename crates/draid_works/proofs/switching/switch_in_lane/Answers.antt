use Rattle.std.proofs.Common.{◌∙◌, ℕ, Bool, ap, refl, sym, subst, length}
use Rattle.draid_spec.specs.declared.layout.Geometry.{Geometry}
use Rattle.draid_pool.specs.Threads.{IsWholeBy}
use Rattle.draid_changes.specs.Switching.{LeafIsIn}
use Rattle.draid_lanes.specs.Governing.{lane_last}
use Rattle.draid_lanes.specs.Lanes.{table_of}
use Rattle.draid_lanes.specs.Knowing.{KnowsLater}
use Rattle.draid_works.proofs.SwitchStays.{switched_knows}
use Rattle.draid_works.proofs.SwitchFails.{lane_switch_fails}
use Rattle.draid_works.proofs.SwitchTold.{switch_told}
use Rattle.draid_works.proofs.switching.switch_in_lane.Goals as goal

pub returns-clause-whole : goal.returns-clause-whole
returns-clause-whole g c =
    let is = c.requires.whole in
    let lane = c.args.lane in
    let e = c.switch_locked-metaslabs.ensures in
    record {
      lane_is = e.lane;
      uber = e.own ∙ is.uber;
      same = is.same ∙ sym e.turns;
      first = is.first;
      many = ap length e.turns ∙ is.many;
      layout = e.layout lane.geometry is.layout;
      whole = subst (λ (f : ℕ → Bool). IsWholeBy g.R.Rack f (lane_last c.switch_locked-metaslabs.result.0) (table_of lane) lane.own.seq lane.own.floor) (sym e.owns) (e.whole (table_of lane) lane.own.seq lane.own.floor is.whole);
    }

pub returns-clause-leaf : goal.returns-clause-leaf
returns-clause-leaf g c =
    let did = c.switch_locked-metaslabs in
    subst (λ (count : ℕ). LeafIsIn count c.args.leaf c.args.offline did.result.1 (lane_last did.result.0)) c.requires.whole.many did.ensures.leaf

pub returns-clause-knows : goal.returns-clause-knows
returns-clause-knows g c x knows =
    let is = c.requires.whole in
    let lane = c.args.lane in
    let did = c.switch_locked-metaslabs in
    subst (λ (f : ℕ → Bool). KnowsLater g.R.Rack g.A.Area f (lane_last did.result.0) (table_of lane) lane.own.seq lane.own.floor x) (sym did.ensures.owns)
    (switched_knows g.R.Rack g.A.Area c.args.leaf c.args.offline lane.uber.now lane.metaslabs did.result.0 did.result.1 lane.pass did.new.pass is.lane_is is.same is.first did.ensures.switches did.ensures.turns (table_of lane) lane.own.seq lane.own.floor x knows)

pub returns-clause-cause : goal.returns-clause-cause
returns-clause-cause g c is =
    let lane = c.args.lane in
    let did = c.switch_locked-metaslabs in
    lane_switch_fails g.R.Rack g.A.Area c.args.leaf c.args.offline lane.uber.now lane.metaslabs did.result.0 did.result.1 lane.pass did.new.pass did.ensures.switches is

pub returns-clause-told : goal.returns-clause-told
returns-clause-told g c x same many =
    let is = c.requires.whole in
    let lane = c.args.lane in
    let did = c.switch_locked-metaslabs in
    switch_told g.R.Rack g.A.Area x c.args.leaf c.args.offline lane (record lane { metaslabs = did.result.0; pass = did.new.pass }) did.result.1 is.lane_is is.same is.first did.ensures.switches did.ensures.lane did.ensures.turns refl
    (is.many ∙ ap (λ (q : Geometry). q.props.metaslabs) (sym same)) many
    (λ y knows.
    subst (λ (f : ℕ → Bool). KnowsLater g.R.Rack g.A.Area f (lane_last did.result.0) (table_of lane) lane.own.seq lane.own.floor y) (sym did.ensures.owns)
    (switched_knows g.R.Rack g.A.Area c.args.leaf c.args.offline lane.uber.now lane.metaslabs did.result.0 did.result.1 lane.pass did.new.pass is.lane_is is.same is.first did.ensures.switches did.ensures.turns (table_of lane) lane.own.seq lane.own.floor y knows))
