use Rattle.std.proofs.Common.{bit_xor}
use Rattle.draid_gf.specs.Lanes.{IsAdded}
use Rattle.draid_gf.proofs.kernel.xor_bytes.Given as goal

abbrev pub invariant-loop-i : goal.invariant-loop-i
invariant-loop-i l = IsAdded bit_xor l.from l.initial.to l.to l.at l.i
