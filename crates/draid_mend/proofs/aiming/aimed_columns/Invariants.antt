use Rattle.std.specs.Prelude.{◌≡◌, length}
use Rattle.draid_shard.specs.States.{part_of}
use Rattle.draid_mend.specs.Aiming.{AreAimed}
use Rattle.draid_mend.proofs.aiming.aimed_columns.Given as goal

abbrev pub invariant-loop-i : goal.invariant-loop-i
invariant-loop-i g l = record {
  long : length l.marks ≡ 64;
  aimed : AreAimed (part_of l.shard) l.pointer.first l.targets l.i l.marks;
}
