-- Leaves are flushed one after another.
use Rattle.std.specs.Prelude.{◌≡◌, ◌==◌, ◌≤◌, ◌+◌, ◌-◌, ◌^◌, ℕ, Bool, true, false, List, Option, Some, All, min, count_by}
use Rattle.std.specs.List.{list_any}
use Rattle.draid_rack.specs.Moments.{Leaves}
use Rattle.draid_rack.specs.Rack.{Told}

-- whether a list has a leaf
abbrev pub has_leaf : List ℕ → ℕ → Bool
has_leaf leaves leaf = list_any (λ l. l == leaf) leaves

-- nothing is soft on the leaves but on those that failed, and no sector changed
pub record FlushesBut (all failed : List ℕ) (x y : Told) : Type 0 where
  pub firm : (leaf sector : ℕ) → has_leaf all leaf ≡ true → has_leaf failed leaf ≡ false → y.soft leaf sector ≡ false
  pub leaves : Leaves (λ leaf sector. false) x y

-- the failed ones are among the leaves, no count fell, and that of each leaf rose as often as it failed
pub record CountsFailed (leaves failed : List ℕ) (old new : Option ℕ → ℕ) : Type 0 where
  pub among : All (λ leaf. has_leaf leaves leaf ≡ true) failed
  pub later : (who : Option ℕ) → old who ≤ new who
  pub cause : (leaf : ℕ) → min (old (Some leaf) + count_by (λ l. l == leaf) failed) (2 ^ 64 - 1) ≤ new (Some leaf)
