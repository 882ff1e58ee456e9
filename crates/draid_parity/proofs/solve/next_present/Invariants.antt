use Rattle.std.proofs.Common.{◌≡◌}
use Rattle.draid_parity.specs.Columns.{present_below}
use Rattle.draid_parity.proofs.solve.next_present.Given as goal

abbrev pub invariant-loop-k : goal.invariant-loop-k
invariant-loop-k l = present_below l.missing l.k-counter ≡ present_below l.missing l.«from»
