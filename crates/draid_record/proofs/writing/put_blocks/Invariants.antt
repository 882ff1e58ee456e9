use Rattle.std.proofs.Common.{take}
use Rattle.std.specs.List.{flat_map}
use Rattle.draid_record.specs.Writer.{Writes, text_of}
use Rattle.draid_record.specs.Written as written
use Rattle.draid_record.proofs.writing.put_blocks.Given as goal

abbrev pub invariant-loop-block : goal.invariant-loop-block
invariant-loop-block l = Writes (text_of l.initial.out) (text_of l.out) (flat_map written.block_bytes (take l.block-index l.blocks))
