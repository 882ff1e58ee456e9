use Rattle.std.proofs.Common.{◌≡◌}
use Rattle.draid_tests_base.proofs.parity.solve_anew.Given as goal

abbrev pub invariant-loop-i : goal.invariant-loop-i
invariant-loop-i l = record { parity : l.stripe.parity ≡ 3; ndata : l.stripe.ndata ≡ 5 }
