use Rattle.draid_ranges.specs.Edits.{IsHull}
use Rattle.draid_ranges.proofs.edit.absorb.Given as goal

abbrev pub invariant-loop-to : goal.invariant-loop-to
invariant-loop-to l = IsHull l.runs l.from l.to l.fn.run l.whole
