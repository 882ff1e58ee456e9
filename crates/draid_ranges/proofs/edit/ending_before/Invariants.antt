use Rattle.std.proofs.Common.{take}
use Rattle.draid_ranges.specs.Runs.{AreWithin}
use Rattle.draid_ranges.proofs.edit.ending_before.Given as goal

abbrev pub invariant-loop-at : goal.invariant-loop-at
invariant-loop-at l = AreWithin 0 (take l.at l.runs) l.bound
