use Rattle.draid_shard.proofs.Births.{greatest_more, is_greatest}
use Rattle.draid_shard.proofs.shard.Shard.greatest_birth.Goals as goal

pub loop-entry-preserved : goal.loop-entry-preserved
loop-entry-preserved g c =
    let e = c.in-Some.ensures in
    greatest_more c.args.self.now.entries c.loop-entry.stripe c.loop-entry.birth c.max-birth.result c.in-Some.entry c.loop-entry.invariant e.there e.first c.max-birth.ensures

pub returns : goal.returns
returns g c = is_greatest c.args.self.now c.loop-entry.stripe c.loop-entry.birth c.loop-entry.invariant c.in_default.ensures.none
