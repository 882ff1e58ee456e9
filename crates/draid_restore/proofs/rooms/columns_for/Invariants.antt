use Rattle.std.specs.Prelude.{◌≤◌, vec_capacity}
use Rattle.draid_restore.specs.Rooms.{HasColumns}
use Rattle.draid_restore.proofs.rooms.columns_for.Given as goal

abbrev pub invariant-loop-column : goal.invariant-loop-column
invariant-loop-column l = record {
  each : HasColumns l.spots l.bytes l.column l.listed.items;
  room : l.columns ≤ vec_capacity l.listed;
}
