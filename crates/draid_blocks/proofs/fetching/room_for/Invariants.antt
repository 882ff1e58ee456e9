use Rattle.std.proofs.Common.{◌≡◌, ◌≤◌, length}
use Rattle.std.specs.Prelude.{vec_capacity}
use Rattle.draid_blocks.specs.Reads.{AreWhole}
use Rattle.draid_blocks.proofs.fetching.room_for.Given as goal

abbrev pub invariant-loop-column : goal.invariant-loop-column
invariant-loop-column l = record {
  count : length l.columns.items ≡ l._column;
  whole : AreWhole l.columns.items l.bytes;
  room : l.count ≤ vec_capacity l.columns;
}
