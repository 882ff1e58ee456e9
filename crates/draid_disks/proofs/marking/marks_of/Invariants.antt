use Rattle.std.proofs.Common.{◌≡◌, length}
use Rattle.draid_disks.proofs.Marked.{SlotsBelow}
use Rattle.draid_disks.proofs.marking.marks_of.Given as goal

abbrev pub invariant-loop-slot : goal.invariant-loop-slot
invariant-loop-slot l = record {
  count : length l.marks ≡ 64;
  below : SlotsBelow l.slots l.moved l.slot l.marks;
}
