use Rattle.std.proofs.Common.{Some}
use Rattle.draid_world.proofs.Maps.{held_updated}
use Rattle.draid_world.proofs.tables.enter.Goals as goal

pub returns : goal.returns
returns c = held_updated c.args.held.now.entries c.insert.new.self.entries c.args.key (Some c.args.value) c.in_ok-insert.ensures.updates.0
