use Rattle.std.proofs.Common.{None}
use Rattle.draid_world.proofs.Maps.{held_updated}
use Rattle.draid_world.proofs.tables.forget.Goals as goal

pub returns : goal.returns
returns c = held_updated c.args.held.now.entries c.remove.new.self.entries c.args.key None c.remove.ensures.updates.0
