-- The linear equations in two and three missing bytes: their sums, weighed by the powers 0, 1 and 2 of one node for each.
use Rattle.std.specs.Prelude.{◌≡◌, ℕ, bit_xor}
use Rattle.draid_gf.specs.Field.{field_product}

pub record SolvesTwo (v0 v1 t0 t1 y0 y1 : ℕ) : Type 0 where
  pub sum0 : bit_xor y0 y1 ≡ t0
  pub sum1 : bit_xor (field_product v0 y0) (field_product v1 y1) ≡ t1

pub record SolvesThree (v0 v1 v2 t0 t1 t2 y0 y1 y2 : ℕ) : Type 0 where
  pub sum0 : bit_xor y0 (bit_xor y1 y2) ≡ t0
  pub sum1 : bit_xor (field_product v0 y0) (bit_xor (field_product v1 y1) (field_product v2 y2)) ≡ t1
  pub sum2 : bit_xor (field_product v0 (field_product v0 y0))
      (bit_xor (field_product v1 (field_product v1 y1)) (field_product v2 (field_product v2 y2))) ≡ t2
