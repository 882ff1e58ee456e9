use Rattle.draid_world.proofs.Segments.{segment_removed}
use Rattle.draid_world.proofs.sets.drop.Goals as goal

pub returns : goal.returns
returns c = segment_removed c.args.set.now.keys c.remove.new.self.keys c.args.segment c.remove.ensures.updates.0
