use Rattle.std.proofs.Common.{subst}
use Rattle.draid_record.specs.Checks.{told_check}
use Rattle.draid_uber.specs.Points.{KeepsCheck}
use Rattle.draid_uber.specs.Slots.{group_of}
use Rattle.draid_uber.proofs.Pointing.{kept_positive, kept_spelled}
use Rattle.draid_uber.proofs.uber.Uber.keep_check.Goals as goal

pub returns-clause-valid : goal.returns-clause-valid
returns-clause-valid g c =
    let v = c.requires.valid in
    let group = group_of c.args.self.now.kept in
    let keeps = subst (λ n. KeepsCheck n (told_check c.args.check.now) c.in_ok-self.field-0) c.committed-group.ensures c.in_ok-self.ensures.keeps in
    record { held = v.held; long = v.long; spelled = kept_spelled group (told_check c.args.check.now) c.in_ok-self.field-0 c.requires.range keeps; positive = kept_positive group (told_check c.args.check.now) c.in_ok-self.field-0 keeps }
