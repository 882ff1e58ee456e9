use Rattle.std.proofs.Common.{◌≡◌, ◌<◌, ◌≤◌, ℕ, false, length}
use Rattle.draid_slots.specs.Marks.{is_marked}
use Rattle.draid_slots.specs.Table.{arm_at}
use Rattle.draid_marks.specs.Silent.{lies_silent}
use Rattle.draid_marks.proofs.silent.silent_marks.Given as goal

abbrev pub invariant-loop-slot : goal.invariant-loop-slot
invariant-loop-slot l = record {
  count : length l.marks ≡ 64;
  below : (slot arm : ℕ) → slot < l.slot → is_marked l.marks slot arm ≡ lies_silent l.slots l.failed (record { slot = slot; arm = arm }) (arm_at l.slots (record { slot = slot; arm = arm }));
  above : (slot arm : ℕ) → l.slot ≤ slot → is_marked l.marks slot arm ≡ false;
}
