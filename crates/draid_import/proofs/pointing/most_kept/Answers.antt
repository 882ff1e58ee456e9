use Rattle.std.proofs.Common.{arith}
use Rattle.draid_import.proofs.PointDrops.{few_sum}
use Rattle.draid_import.proofs.pointing.most_kept.Goals as goal

pub returns : goal.returns
returns c = few_sum c.args.named c.args.older c.args.objects c.saturating_add-more.result c.saturating_add-more.ensures (omega (arith, c.if-saturating_add-gt-MOST_DROPS.false))
