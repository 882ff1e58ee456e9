use Rattle.std.proofs.Common.{◌≡◌, ◌<◌, List, Some, ap, refl, subst}
use Rattle.std.specs.Prelude.{slice_get}
use Rattle.draid_spec.specs.declared.layout.Geometry.{Geometry}
use Rattle.draid_session.specs.State.{Metaslab, State}
use Rattle.draid_session.proofs.AgentWhole.{agent_makes, slot_whole}
use Rattle.draid_session.proofs.Visited.{layout_stays}
use Rattle.draid_session.proofs.laws.agents_make_slots_whole.Goals as goal

pub returns : goal.returns
returns g c least parity entries errors x z it reached none e spare m y there came inside at =
    let does = it.does.2.repairs in
    let same = layout_stays it.holds x it.mid it.follows in
    let made = it.made in
    slot_whole e.slot spare y.world
    (agent_makes x.geometry x.perms (g.D.Decides.choices c.args.decider.now).spare m
    (subst (λ (q : Geometry). m < q.props.metaslabs) same.0 (subst (λ (s : State). m < s.geometry.props.metaslabs) made inside)) e spare came least it.does.2.number errors.rebuild errors.scrub entries.items there.0 there.1 there.2 it.holds does.0 x it.mid refl refl does.2 does.3.1 none it.follows reached y
    (subst (λ (ys : List Metaslab). slice_get ys m ≡ Some y) (ap (λ (s : State). s.metaslabs) made) at))
