use Rattle.std.proofs.Common.{take}
use Rattle.std.specs.List.{flat_map}
use Rattle.draid_record.specs.Writer.{Writes, text_of}
use Rattle.draid_record.specs.Written as written
use Rattle.draid_record.proofs.writing.put_log.Given as goal

abbrev pub invariant-loop-run : goal.invariant-loop-run
invariant-loop-run l = Writes (text_of l.initial.out) (text_of l.out) (flat_map written.run_bytes (take l.run-index l.runs))
