use Rattle.std.proofs.Common.{◌≡◌}
use Rattle.draid_tests_base.proofs.parity.wide.Given as goal

abbrev pub invariant-loop-i : goal.invariant-loop-i
invariant-loop-i l = record { parity : l.stripe.parity ≡ l.parity; ndata : l.stripe.ndata ≡ 8 }
