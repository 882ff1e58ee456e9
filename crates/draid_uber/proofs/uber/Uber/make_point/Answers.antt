use Rattle.std.proofs.Common.{arith}
use Rattle.draid_uber.proofs.Pointing.{made_positive, made_spelled, made_told}
use Rattle.draid_uber.proofs.uber.Uber.make_point.Goals as goal

pub returns-clause-valid : goal.returns-clause-valid
returns-clause-valid g c =
    let v = c.requires.valid in
    let behind = c.requires.next.behind in
    record {
      held = v.held;
      long = v.long;
      spelled = λ group low small. made_spelled c.args.point c.args.group c.requires.made c.requires.new group (omega (arith, behind, low)) small;
      positive = made_positive c.args.point c.args.group c.requires.made (omega (arith, behind));
    }

pub returns-clause-told : goal.returns-clause-told
returns-clause-told g c = made_told c.args.point c.args.group c.requires.made c.requires.new
