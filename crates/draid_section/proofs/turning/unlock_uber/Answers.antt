use Rattle.std.proofs.Common.{◌≡◌, ◌∙◌, refl, subst}
use Rattle.draid_lanes.specs.Ubers.{IsUberOf}
use Rattle.draid_lanes.proofs.SyncUnder.{stood_keeps}
use Rattle.draid_section.proofs.turning.unlock_uber.Goals as goal

pub returns : goal.returns
returns g c =
    let value = c.close_each-uber.result in
    let first = c.args.turn.first in
    let closes = c.close_each-uber.ensures in
    let kept = stood_keeps _ (λ u. (u.turns.now ≡ first.turns.now) × IsUberOf g.R.Rack g.A.Area u.turns.now u.uber u.groups) first closes.log value (λ a past was step. (step.same ∙ was.0, step.is)) (refl, c.requires.uber) closes.stood in
    record {
      value = value;
      uber_is = refl;
      groups_are = refl;
      same = kept.0;
      closes = closes;
      is = subst (λ ls. IsUberOf g.R.Rack g.A.Area ls value.uber value.groups) kept.0 kept.1;
    }
