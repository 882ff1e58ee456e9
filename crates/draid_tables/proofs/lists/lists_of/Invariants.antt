use Rattle.std.proofs.Common.{◌≤◌, length, vec_capacity}
use Rattle.draid_tables.proofs.Listing.{ListsFirst}
use Rattle.draid_tables.proofs.lists.lists_of.Given as goal

abbrev pub invariant-loop-lane : goal.invariant-loop-lane
invariant-loop-lane l = record {
  lists : ListsFirst l.lanes l.lane l.lists.items;
  room : length l.lanes ≤ vec_capacity l.lists;
}
