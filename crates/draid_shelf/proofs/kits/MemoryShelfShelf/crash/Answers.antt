use Rattle.std.proofs.Common.{rules}
use Rattle.draid_shelf.proofs.Holdings.{crashed_check_counts, crashed_counts, crashed_held, crashed_shapes}
use Rattle.draid_shelf.proofs.kits.MemoryShelfShelf.crash.Goals as goal

pub returns-clause-told : goal.returns-clause-told
returns-clause-told c = crashed_held c.args.self.now.rule c.args.self.now.devices _ (search rules) (search rules) (search rules) c.crash_all.ensures

pub returns-clause-leaves : goal.returns-clause-leaves
returns-clause-leaves c = crashed_shapes c.args.self.now.rule c.args.self.now.devices c.crash_all.new.devices c.crash_all.ensures

pub returns-clause-counts : goal.returns-clause-counts
returns-clause-counts c = crashed_counts c.args.self.now.rule c.args.self.now.devices c.crash_all.new.devices c.crash_all.ensures

pub returns-clause-check_counts : goal.returns-clause-check_counts
returns-clause-check_counts c = crashed_check_counts c.args.self.now.rule c.args.self.now.devices c.crash_all.new.devices c.crash_all.ensures
