use Rattle.std.proofs.Common.{ℕ, ◌<◌, get_or}
use Rattle.draid_parity.proofs.solve.first_data.Given as goal

abbrev pub invariant-loop-n : goal.invariant-loop-n
invariant-loop-n l = (k : ℕ) → k < l.n → get_or l.missing k 0 < l.parity
