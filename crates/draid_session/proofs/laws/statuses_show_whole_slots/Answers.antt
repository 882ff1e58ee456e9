use Rattle.std.proofs.Common.{[], ap}
use Rattle.draid_session.specs.State.{State}
use Rattle.draid_session.proofs.Bearing.{same_whole}
use Rattle.draid_session.proofs.Shown.{shown_whole}
use Rattle.draid_session.proofs.laws.statuses_show_whole_slots.Goals as goal

pub returns : goal.returns
returns g c form text slots x z it steady shown =
    same_whole slots [] it.mid z (ap (λ (s : State). s.geometry) it.made) (ap (λ (s : State). s.perms) it.made) (ap (λ (s : State). s.metaslabs) it.made)
    (shown_whole slots x it.mid steady x.store form text.items it.holds it.does.1 it.follows shown)
