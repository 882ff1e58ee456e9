use Rattle.std.proofs.Common.{◌≡◌, ◌≤◌, ◌<◌, ℕ, false, length, slice_index_or}
use Rattle.draid_slots.specs.Table.{arm_at}
use Rattle.draid_marks.specs.Silent.{lies_silent}
use Rattle.draid_marks.proofs.silent.silent_arms.Given as goal

abbrev pub invariant-loop-arm : goal.invariant-loop-arm
invariant-loop-arm l = record {
  count : length l.marks ≡ 3;
  below : (arm : ℕ) → arm < l.arm → slice_index_or l.marks arm false ≡ lies_silent l.slots l.failed (record { slot = l.slot; arm = arm }) (arm_at l.slots (record { slot = l.slot; arm = arm }));
  above : (arm : ℕ) → l.arm ≤ arm → slice_index_or l.marks arm false ≡ false;
}
