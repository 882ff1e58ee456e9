use Rattle.std.proofs.Common.{◌≡◌, length}
use Rattle.draid_disks.specs.Renewing.{moved_below}
use Rattle.draid_disks.proofs.Marked.{MarksBelow}
use Rattle.draid_disks.proofs.marking.marks_in.Given as goal

abbrev pub invariant-loop-arm : goal.invariant-loop-arm
invariant-loop-arm l = record {
  count : length l.marks ≡ 3;
  below : MarksBelow l.arms (moved_below l.moved l.spares) l.arm l.marks;
}
