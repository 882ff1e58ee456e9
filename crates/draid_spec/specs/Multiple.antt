use Rattle.std.specs.Prelude.{◌==◌, ◌+◌, ◌*◌, ◌-◌, ◌%◌, ◌<◌, ◌≤◌, ℕ, zero, suc, if◌then◌else◌}
use Prim.Native.Nat.{◌∣◌}

-- m is the least common multiple of two numbers
pub record IsLeastCommonMultiple (a b m : ℕ) : Type 0 where
  pub positive : 0 < m
  pub left : a ∣ m
  pub right : b ∣ m
  pub least : (k : ℕ) → 0 < k → a ∣ k → b ∣ k → m ≤ k

-- the first of the multiples k·a, (k + 1)·a, .. that b divides, where it is one of so many
abbrev pub first_multiple : ℕ → ℕ → ℕ → ℕ → ℕ
first_multiple a b k zero = k * a
first_multiple a b k (suc more) = if k * a % b == 0 then k * a else first_multiple a b (k + 1) more

-- the least common multiple: the first of a, 2a, .., ba that b divides
unfoldable pub lcm : ℕ → ℕ → ℕ
lcm a b = first_multiple a b 1 (b - 1)
