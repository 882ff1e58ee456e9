use Rattle.std.proofs.Common.{◌∙◌}
use Rattle.draid_world.proofs.Keeping.{kept_lookup}
use Rattle.draid_world.proofs.tables.kept_for.Goals as goal

pub returns : goal.returns
returns c = c.copied.ensures ∙ c.get.ensures.value ∙ kept_lookup c.args.kept.now.entries c.args.segment
