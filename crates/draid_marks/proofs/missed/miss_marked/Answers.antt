use Rattle.std.proofs.Common.{sym, subst}
use Rattle.draid_marks.specs.Missed.{MarksTable}
use Rattle.draid_marks.proofs.Missing.{table_none}
use Rattle.draid_marks.proofs.missed.miss_marked.Goals as goal

pub returns-else-wrote : goal.returns-else-wrote
returns-else-wrote c = subst (λ wrote. MarksTable c.args.slots.now c.args.slots.now c.args.marks.now wrote c.args.group) (sym c.if-wrote.false) (table_none c.args.slots.now c.args.marks.now c.args.group)
