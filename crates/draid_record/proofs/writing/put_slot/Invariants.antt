use Rattle.std.proofs.Common.{take}
use Rattle.std.specs.List.{flat_map}
use Rattle.draid_record.specs.Record.{told_slot}
use Rattle.draid_record.specs.Writer.{Writes, text_of}
use Rattle.draid_record.specs.Written as written
use Rattle.draid_record.proofs.writing.put_slot.Given as goal

abbrev pub invariant-loop-arm : goal.invariant-loop-arm
invariant-loop-arm l = Writes (text_of l.initial.out) (text_of l.out) (flat_map written.arm_bytes (told_slot (take l.arm-index l.slot)))
