use Rattle.std.proofs.Common.{rules}
use Rattle.draid_area.proofs.Clocks.{told_flushes}
use Rattle.draid_area.proofs.memory.MemoryAreaArea.flush.Goals as goal

pub returns-clause-ok : goal.returns-clause-ok
returns-clause-ok c = told_flushes c.args.self.now.bytes.items c.args.self.now.firm _ c.args.self.now.unflushed.items _ c.args.self.now.torn.items _ _ c.args.self.now.clock _ (search rules) (search rules) c.calm.ensures.none c.later-self.ensures
