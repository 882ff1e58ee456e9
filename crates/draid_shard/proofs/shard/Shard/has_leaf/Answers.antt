use Rattle.std.proofs.Common.{◌∙◌, inr, sym}
use Rattle.draid_shard.proofs.Leaves.{leaves_on}
use Rattle.draid_shard.proofs.shard.Shard.has_leaf.Goals as goal

pub returns-else-is_some : goal.returns-else-is_some
returns-else-is_some g c = (
  λ leaves. inr (sym c.leaving.ensures ∙ leaves),
  λ is. c.leaving.ensures ∙ leaves_on c.args.self.now.slots c.args.leaf c.find.result (sym c.is_some.ensures ∙ c.if-is_some.false) c.find.ensures.none is,
)
