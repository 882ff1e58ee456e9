use Rattle.draid_disks.specs.Checks.{LeastUpto}
use Rattle.draid_disks.proofs.checks.least_over.Given as goal

abbrev pub invariant-loop-other : goal.invariant-loop-other
invariant-loop-other g l = LeastUpto l.shards l.at l.other l.least
