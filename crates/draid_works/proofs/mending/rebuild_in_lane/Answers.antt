use Rattle.std.proofs.Common.{◌∙◌, ap, sym, subst}
use Rattle.draid_spec.specs.Geometry.{IsGeometry}
use Rattle.draid_spec.specs.declared.layout.Geometry.{Geometry}
use Rattle.draid_names.specs.declared.pass_kind.PassKind.TheVariants.{Rebuild}
use Rattle.draid_lanes.specs.Traces.{SawBytes}
use Rattle.draid_works.specs.Mended.{MendedIn}
use Rattle.draid_works.proofs.MendTold.{rebuild_told}
use Rattle.draid_works.proofs.mending.rebuild_in_lane.Goals as goal

pub returns-clause-told : goal.returns-clause-told
returns-clause-told g c x same many =
    let is = c.requires.whole in
    let lane = c.args.lane in
    let did = c.mend_in_lane in
    let e = did.ensures in
    rebuild_told g.R.Rack g.A.Area x c.args.limit lane did.result.0 did.result.1 is.lane_is is.same is.first e.whole.lane_is e.same.turns e.same.uber c.requires.passes (is.many ∙ ap (λ (q : Geometry). q.props.metaslabs) (sym same)) many
    (subst IsGeometry (sym same) c.requires.geometry) e.knows
    (subst (λ (q : Geometry). MendedIn g.R.Rack g.A.Area q Rebuild c.args.limit lane.uber.now lane.metaslabs did.result.0.metaslabs did.result.1 lane.pass did.result.0.pass) (sym same) e.mends) (SawBytes g.R.Rack g.A.Area x did.result.0)
