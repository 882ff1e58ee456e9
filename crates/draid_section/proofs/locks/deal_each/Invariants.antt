use Rattle.draid_section.proofs.Splitting.{Dealing}
use Rattle.draid_section.proofs.locks.deal_each.Given as goal

abbrev pub invariant-loop-i : goal.invariant-loop-i
invariant-loop-i g l = Dealing l.turns l.numbers l.i l.lanes.items l.firsts.items
