use Rattle.std.proofs.Common.{◌∙◌, sym}
use Rattle.draid_uber.proofs.Pointing.{dropped_spelled}
use Rattle.draid_uber.proofs.uber.Uber.drop_block.Goals as goal

pub returns-clause-valid : goal.returns-clause-valid
returns-clause-valid g c =
    let v = c.requires.valid in
    let old = c.args.self.now.point in
    record {
      held = v.held;
      long = v.long;
      spelled = λ group low small. dropped_spelled old c.drop_block.new.self c.args.object c.args.seq c.args.group c.drop_block.ensures c.ranges.object.fits c.ranges.seq.fits c.requires.few c.requires.other v.positive group (v.spelled group low small);
      positive = λ own is. v.positive own (sym c.drop_block.ensures.group_is ∙ is);
    }
