use Rattle.std.proofs.Common.{take}
use Rattle.std.specs.List.{flat_map}
use Rattle.draid_record.specs.Writer.{Writes, text_of}
use Rattle.draid_record.specs.Written as written
use Rattle.draid_record.proofs.writing.put_targets.Given as goal

abbrev pub invariant-loop-target : goal.invariant-loop-target
invariant-loop-target l = Writes (text_of l.fn.out) (text_of l.out) (flat_map written.target_bytes (take l.target-index l.targets))
