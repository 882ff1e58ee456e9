use Rattle.std.proofs.Common.{◌≡◌, ◌<◌, ℕ, length}
use Rattle.draid_slots.specs.Marks.{is_marked}
use Rattle.draid_slots.specs.Table.{arm_at}
use Rattle.draid_marks.specs.Silent.{lies_silent}
use Rattle.draid_marks.proofs.silent.mark_silent.Given as goal

abbrev pub invariant-loop-slot : goal.invariant-loop-slot
invariant-loop-slot l = record {
  count : length l.marks.items ≡ l.slots.geometry.spec.children;
  below : (slot arm : ℕ) → slot < l.slot → is_marked l.marks.items slot arm ≡ lies_silent l.slots l.failed (record { slot = slot; arm = arm }) (arm_at l.slots (record { slot = slot; arm = arm }));
}
