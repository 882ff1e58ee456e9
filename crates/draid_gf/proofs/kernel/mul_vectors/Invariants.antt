use Rattle.std.proofs.Common.{◌-◌, length, bit_xor}
use Rattle.draid_gf.specs.Field.{field_product}
use Rattle.draid_gf.specs.Lanes.{IsAdded}
use Rattle.draid_gf.proofs.kernel.mul_vectors.Given as goal

abbrev pub invariant-vectors : goal.invariant-vectors
invariant-vectors l = IsAdded (λ t f. bit_xor t (field_product l.factor f)) l.from l.initial.to l.to 0 l.at

abbrev pub decreases-vectors : goal.decreases-vectors
decreases-vectors l = length l.initial.to - l.at
