use Rattle.draid_dtl.specs.Logs.{AreRaised}
use Rattle.draid_dtl.proofs.missed.raise.Given as goal

abbrev pub invariant-loop-at : goal.invariant-loop-at
invariant-loop-at l = AreRaised l.initial.levels.items l.levels.items l.log l.at
