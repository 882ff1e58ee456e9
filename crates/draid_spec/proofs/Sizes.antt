use Rattle.std.proofs.Common.{◌≡◌, ◌*◌, ◌/◌, ◌<◌, ◌≤◌, ℕ, sym, subst, arith}
use Rattle.std.proofs.Math.Nat.{dvd-mul_left, dvd-mul_right, div-mul_cancel, le_of_mul-le-mul_right}
use Rattle.draid_spec.specs.Multiple.{IsLeastCommonMultiple, lcm}
use Rattle.draid_spec.specs.Geometry.{FillsRows, ngroups_of, rows_of}
use Rattle.draid_spec.proofs.Multiples.{lcm-is}

pub slice_filled : (g d : ℕ) → 1 ≤ g → 1 ≤ d → FillsRows g d (ngroups_of g d) (rows_of g d)
slice_filled g d some_g some_d =
    let is : IsLeastCommonMultiple g d (lcm g d) = lcm-is g d some_g some_d in
    let groups : lcm g d / g * g ≡ lcm g d = div-mul_cancel g is.left in
    let P : ℕ → Type 0 = λ m. IsLeastCommonMultiple g d m in
    let common : IsLeastCommonMultiple g d (lcm g d / g * g) = subst P (sym groups) is in
    let rows : lcm g d / g * g / d * d ≡ lcm g d / g * g = div-mul_cancel d common.right in
    sized g d (lcm g d / g) (lcm g d / g * g / d) some_g some_d common (sym rows)
  where
    sized : (g d k r : ℕ) → 1 ≤ g → 1 ≤ d → IsLeastCommonMultiple g d (k * g) → k * g ≡ r * d → FillsRows g d k r
    sized g d k r some_g some_d is filled =
        let positive : 0 < k * g = is.positive in
        let product : 0 < g * d = grind arith in
        let most : k * g ≤ g * d = is.least (g * d) product (dvd-mul_right g d) (dvd-mul_left d g) in
        let most_k : k * g ≤ d * g = omega arith in
        let most_r : r * d ≤ g * d = omega arith in
        record {
          least = is;
          filled = filled;
          some_groups = grind arith;
          most_groups = le_of_mul-le-mul_right most_k some_g;
          some_rows = grind arith;
          most_rows = le_of_mul-le-mul_right most_r some_d;
        }
