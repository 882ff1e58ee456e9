use Rattle.std.specs.Prelude.{◌≡◌, length}
use Rattle.draid_shard.specs.States.{part_of}
use Rattle.draid_shard.specs.Losing.{AreMissed}
use Rattle.draid_shard.proofs.losing.missed_marks.Given as goal

abbrev pub invariant-loop-column : goal.invariant-loop-column
invariant-loop-column g l = record {
  count : length l.marks ≡ 64;
  each : AreMissed (part_of l.shard) l.shard.slots l.pointer l.failed l.column l.marks;
}
