use Rattle.std.proofs.Common.{◌≤◌, length, vec_capacity}
use Rattle.draid_tables.proofs.Owning.{DealsFirst}
use Rattle.draid_tables.proofs.owns.deal_owns.Given as goal

abbrev pub invariant-loop-i : goal.invariant-loop-i
invariant-loop-i l = record {
  deals : DealsFirst l.own l.numbers l.i l.owns.items;
  room : length l.numbers ≤ vec_capacity l.owns;
}
