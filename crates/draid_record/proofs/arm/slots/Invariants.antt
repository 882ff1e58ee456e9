use Rattle.std.proofs.Common.{◌≤◌, ◌-◌, length}
use Rattle.std.specs.Prelude.{All}
use Rattle.draid_record.specs.Grammar.{many}
use Rattle.draid_record.specs.Reader.{state_of}
use Rattle.draid_record.specs.Record.{slot, slots, told_slots, with_last}
use Rattle.draid_record.proofs.Loop.{Still}
use Rattle.draid_record.proofs.arm.slots.Given as goal

abbrev pub invariant-loop : goal.invariant-loop
invariant-loop l = record {
  still : Still (state_of l.fn.reader) (slots l.limits) (told_slots l.slots.items) (state_of l.reader)
      (many (l.limits.children - l.counter) (slot l.limits) with_last (told_slots l.slots.items));
  few : All (λ list. length list ≤ 3) (told_slots l.slots.items);
}
