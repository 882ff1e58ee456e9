use Rattle.std.proofs.Common.{◌≤◌, ◌-◌, length}
use Rattle.draid_record.specs.Grammar.{many}
use Rattle.draid_record.specs.Reader.{state_of}
use Rattle.draid_record.specs.Record.{arm, slot_arms, told_slot, told_slots, with_last}
use Rattle.draid_record.proofs.Loop.{Still}
use Rattle.draid_record.proofs.arm.arms.Given as goal

abbrev pub invariant-loop : goal.invariant-loop
invariant-loop l = record {
  still : Still (state_of l.fn.reader) (slot_arms l.limits (told_slots l.before) l.count) (told_slot l.arms.items) (state_of l.reader)
      (many (l.count - l.counter) (arm l.limits (told_slots l.before) l.count) with_last (told_slot l.arms.items));
  few : length l.arms.items ≤ l.counter;
}
