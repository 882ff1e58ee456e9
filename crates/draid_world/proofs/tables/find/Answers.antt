use Rattle.std.proofs.Common.{◌∙◌}
use Rattle.draid_world.proofs.Maps.{held_lookup}
use Rattle.draid_world.proofs.tables.find.Goals as goal

pub returns : goal.returns
returns c = c.copied.ensures ∙ c.get.ensures.value ∙ held_lookup c.args.held.now.entries c.args.key
