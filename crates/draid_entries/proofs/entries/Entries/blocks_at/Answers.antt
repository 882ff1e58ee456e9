use Rattle.draid_entries.proofs.Staying.{ok_lists}
use Rattle.draid_entries.proofs.entries.Entries.blocks_at.Goals as goal

pub returns : goal.returns
returns c = ok_lists c.args.self.now c.args.group c.staying.result c.staying.ensures.are c.staying.ensures.ordered c.staying.ensures.found
