use Rattle.std.proofs.Common.{take}
use Rattle.std.specs.List.{flat_map}
use Rattle.draid_record.specs.Record.{told_slots}
use Rattle.draid_record.specs.Writer.{Writes, text_of}
use Rattle.draid_record.specs.Written as written
use Rattle.draid_record.proofs.writing.put_slots.Given as goal

abbrev pub invariant-loop-slot : goal.invariant-loop-slot
invariant-loop-slot l = Writes (text_of l.fn.out) (text_of l.out) (flat_map written.slot_bytes (told_slots (take l.slot-index l.slots)))
