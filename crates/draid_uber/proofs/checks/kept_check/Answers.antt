use Rattle.std.proofs.Common.{◌∙◌, ◌++◌, ap}
use Rattle.std.specs.Prelude.{map}
use Rattle.draid_record.specs.Checks.{told_check}
use Rattle.draid_uber.specs.Points.{dropped_in}
use Rattle.draid_uber.proofs.Pointing.{check_kept}
use Rattle.draid_uber.proofs.checks.kept_check.Goals as goal

pub returns-clause-keeps : goal.returns-clause-keeps
returns-clause-keeps c =
    let mapped = map (dropped_in c.args.group) in
    let d = c.drop_all.ensures in
    check_kept c.args.group (told_check c.args.check.now) c.drop_all.new.point c.requires.range c.if-check-eq0.false (d.group ∙ c.in_ok-point.ensures.group)
    (d.drops ∙ (ap (λ ds. ds ++ mapped c.deref.result.now) c.in_ok-point.ensures.drops ∙ ap mapped c.deref.ensures.value))
