use Rattle.std.proofs.Common.{bit_xor}
use Rattle.draid_gf.specs.Field.{field_product}
use Rattle.draid_gf.specs.Lanes.{IsAdded}
use Rattle.draid_gf.proofs.kernel.mul_bytes.Given as goal

abbrev pub invariant-loop-i : goal.invariant-loop-i
invariant-loop-i l = IsAdded (λ t f. bit_xor t (field_product l.by f)) l.from l.initial.to l.to l.at l.i
