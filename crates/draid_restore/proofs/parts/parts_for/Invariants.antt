use Rattle.std.specs.Prelude.{◌≤◌, length}
use Rattle.draid_shard.specs.Loans.{AreRooms}
use Rattle.draid_restore.proofs.parts.parts_for.Given as goal

abbrev pub invariant-loop-arm : goal.invariant-loop-arm
invariant-loop-arm l = record {
  many : l._arm ≤ length l.parts.items;
  rooms : AreRooms l.rows l.parts.items;
}
