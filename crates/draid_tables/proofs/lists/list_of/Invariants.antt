use Rattle.std.proofs.Common.{take}
use Rattle.draid_tables.specs.Lists.{ListsNumbers, commands_of}
use Rattle.draid_tables.proofs.lists.list_of.Given as goal

abbrev pub invariant-loop-line : goal.invariant-loop-line
invariant-loop-line l = ListsNumbers l.fn.lane (commands_of (take l.line-index l.lines)) l.list.items
