use Rattle.std.proofs.Common.{◌≡◌}
use Rattle.draid_tests_base.proofs.parity.example.Given as goal

abbrev pub invariant-loop-i : goal.invariant-loop-i
invariant-loop-i l = record { parity : l.stripe.parity ≡ 3; ndata : l.stripe.ndata ≡ 5; len : l.stripe.len ≡ 4 }
