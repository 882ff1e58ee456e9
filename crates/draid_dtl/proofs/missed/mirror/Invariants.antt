use Rattle.std.proofs.Common.{take}
use Rattle.draid_ranges.specs.Numbers.{Has}
use Rattle.draid_dtl.specs.Logs.{mirror_misses}
use Rattle.draid_dtl.proofs.missed.mirror.Given as goal

abbrev pub invariant-loop-at : goal.invariant-loop-at
invariant-loop-at l = Has l.missed (mirror_misses (take l.at l.logs))
