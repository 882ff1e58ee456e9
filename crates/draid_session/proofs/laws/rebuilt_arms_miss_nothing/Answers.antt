use Rattle.std.proofs.Common.{◌∙◌, Some, ap, refl, sym, subst}
use Rattle.draid_machine.proofs.Small.{some_injective}
use Rattle.std.specs.Prelude.{◌≡◌, List, slice_get}
use Rattle.draid_session.specs.Bearing.{IsWanted}
use Rattle.draid_session.specs.State.{Metaslab, State}
use Rattle.draid_session.proofs.Visited.{rebuild_good}
use Rattle.draid_session.proofs.laws.rebuilt_arms_miss_nothing.Goals as goal

pub returns : goal.returns
returns g c limit from stripes m name x z y u it reached idle inside there behind wanted =
    let does = it.does in
    (rebuild_good x.geometry x.perms m name limit it.holds does.1.0 x it.mid does.1.1 does.1.4 it.follows refl refl reached inside
    (λ k at. record {
      pass = idle m k at;
      wanted = subst (λ (o : Metaslab). IsWanted o.world.core name) (some_injective y k (sym there ∙ at)) wanted;
    }) u (subst (λ (ys : List Metaslab). slice_get ys m ≡ Some u) (ap (λ (s : State). s.metaslabs) it.made) behind)).empty
