use Rattle.std.proofs.Common.{◌≤◌, vec_capacity}
use Rattle.draid_section.specs.Opening.{AreRooms}
use Rattle.draid_section.proofs.locks.rooms.Given as goal

abbrev pub invariant-loop : goal.invariant-loop
invariant-loop g l = AreRooms {R = g.row.R.Denot} {A = g.row.A.Denot} l.counter l.metaslabs l.lanes.items × (l.lists ≤ vec_capacity l.lanes)
