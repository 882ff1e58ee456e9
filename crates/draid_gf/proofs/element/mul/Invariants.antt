use Rattle.std.proofs.Common.{◌≡◌, ◌/◌, ◌^◌}
use Rattle.draid_gf.specs.Field.{field_product}
use Rattle.draid_gf.proofs.element.mul.Given as goal

abbrev pub invariant-loop-e : goal.invariant-loop-e
invariant-loop-e l = l.product ≡ field_product l.a (l.b / 2 ^ l.e)
