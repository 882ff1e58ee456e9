use Rattle.std.proofs.Common.{◌∙◌}
use Rattle.draid_shard.proofs.Missing.{number_any}
use Rattle.draid_shard.proofs.losing.has_failed.Goals as goal

pub returns : goal.returns
returns c = c.is_among.ensures ∙ number_any c.args.failed.now c.args.leaf
