use Rattle.std.proofs.Common.{◌∙◌}
use Rattle.draid_world.proofs.Segments.{segments_at}
use Rattle.draid_world.proofs.sets.has.Goals as goal

pub returns : goal.returns
returns c = c.contains.ensures ∙ segments_at c.args.set.now.keys c.args.segment
