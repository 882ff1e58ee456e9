use Rattle.std.proofs.Common.{◌≡◌, ◌≤◌, is_none}
use Rattle.draid_machine.specs.Names.{count_below}
use Rattle.draid_world.specs.World.{name_at}
use Rattle.draid_rebuilds.proofs.landings.unsourced.Given as goal

abbrev pub invariant-loop-column : goal.invariant-loop-column
invariant-loop-column l = record {
  sum : l.count ≡ count_below l.column (λ c. is_none (name_at l.loan.chosen.items c));
  bound : l.count ≤ l.column;
}
