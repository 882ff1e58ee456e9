use Rattle.std.proofs.Common.{◌≡◌, ℕ, ◌*◌, ◌<◌, length, get_or}
use Rattle.draid_gf.specs.Field.{field_product}
use Rattle.draid_gf.proofs.factor.multiples.Given as goal

abbrev pub invariant-loop-i : goal.invariant-loop-i
invariant-loop-i l = record {
  long : length l.products ≡ 16;
  listed : (k : ℕ) → k < l.i → get_or l.products k 0 ≡ field_product l.by (l.step * k);
}
