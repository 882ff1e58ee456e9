use Rattle.std.proofs.Common.{◌+◌, Some, sym, subst}
use Rattle.draid_disks.specs.Checks.{LeastUpto}
use Rattle.draid_disks.proofs.Checked.{least_more, least_skip}
use Rattle.draid_disks.proofs.checks.least_with.Goals as goal

pub returns-then-other-at : goal.returns-then-other-at
returns-then-other-at g c = least_skip c.args.shards.now c.args.at c.args.other c.args.least c.if-other-at.true

pub returns : goal.returns
returns g c = λ was.
    subst (λ n. LeastUpto c.args.shards.now c.args.at (c.args.other + 1) (Some n)) (sym c.lesser.ensures)
    (least_more c.args.shards.now c.args.at c.args.other c.missed_over.result c.args.least c.if-other-at.false c.missed_over.ensures.sum c.missed_over.ensures.none was)
