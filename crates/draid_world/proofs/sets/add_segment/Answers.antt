use Rattle.draid_world.proofs.Segments.{segment_added, segment_first}
use Rattle.draid_world.proofs.sets.add_segment.Goals as goal

pub returns : goal.returns
returns c = segment_first c.args.set.now.keys c.insert.new.self.keys c.args.segment (segment_added c.args.set.now.keys c.insert.new.self.keys c.args.segment c.in_ok-insert.ensures.updates.0)
