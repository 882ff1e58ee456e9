use Rattle.std.proofs.Common.{◌∙◌, sym, ap, is_some}
use Rattle.draid_world.specs.World.{arm_of}
use Rattle.draid_world.proofs.Maps.{arm_lookup, some_mapped}
use Rattle.draid_world.proofs.world.Tables.is_known.Goals as goal

pub returns : goal.returns
returns c = c.contains_key.ensures ∙ sym (some_mapped arm_of _) ∙ ap is_some (arm_lookup c.args.self.now.arms.entries c.args.name)
