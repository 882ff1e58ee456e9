use Rattle.draid_tables.proofs.Owning.{TakesFirst}
use Rattle.draid_tables.proofs.owns.take_each.Given as goal

abbrev pub invariant-loop-i : goal.invariant-loop-i
invariant-loop-i l = TakesFirst l.numbers l.owns l.fn.own l.i l.own
