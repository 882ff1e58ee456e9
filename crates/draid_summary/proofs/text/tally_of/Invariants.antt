use Rattle.std.proofs.Common.{length}
use Rattle.draid_summary.proofs.Tallying.{Tallied}
use Rattle.draid_summary.proofs.text.tally_of.Given as goal

-- the lines so far were counted, and the others stand in the rest
abbrev pub invariant-lines : goal.invariant-lines
invariant-lines l = Tallied l.printed l.rest l.tally

abbrev pub decreases-lines : goal.decreases-lines
decreases-lines l = length l.rest
