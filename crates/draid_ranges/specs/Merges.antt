use Rattle.std.specs.Prelude.{◌≡◌, ◌+◌, ◌^◌, ◌<◌, ◌≤◌, ◌||◌, ◌&&◌, ◌⊎◌, ℕ, List, All, length, drop}
use Rattle.draid_ranges.specs.declared.run.Run.{Run}
use Rattle.draid_ranges.specs.Runs.{AreApart, AreWithin, has_in, in_run}

-- What is left of both lists, from i and from j on, is the run, which begins first, and what is left
-- from k and from l on.
pub record IsNext (left right : List Run) (i j : ℕ) (run : Run) (k l : ℕ) : Type 0 where
  pub members : (x : ℕ) → (has_in (drop i left) x || has_in (drop j right) x) ≡ (in_run run x || (has_in (drop k left) x || has_in (drop l right) x))
  pub least : (low : ℕ) → AreWithin low (drop i left) (2 ^ 48 + 1) → AreWithin low (drop j right) (2 ^ 48 + 1) → low ≤ run.first
  pub left_behind : AreWithin run.first (drop k left) (2 ^ 48 + 1)
  pub right_behind : AreWithin run.first (drop l right) (2 ^ 48 + 1)
  pub some : 0 < run.len
  pub below : run.first + run.len ≤ 2 ^ 48
  pub left_inside : k ≤ length left
  pub right_inside : l ≤ length right
  pub step : k + l ≡ i + j + 1

-- what either has is in the runs so far or in what is left from i and from j on, which begins no earlier
pub record IsUnited (left right runs : List Run) (i j : ℕ) : Type 0 where
  pub apart : AreApart runs
  pub members : (x : ℕ) → (has_in runs x || (has_in (drop i left) x || has_in (drop j right) x)) ≡ (has_in left x || has_in right x)
  pub left_behind : All (λ (run : Run). AreWithin run.first (drop i left) (2 ^ 48 + 1)) runs
  pub right_behind : All (λ (run : Run). AreWithin run.first (drop j right) (2 ^ 48 + 1)) runs
  pub left_inside : i ≤ length left
  pub right_inside : j ≤ length right

-- what both have is in the runs so far, which lie below a bound, or in what is left from i and from j on,
-- of which one begins no earlier than the bound
pub record IsMet (left right runs : List Run) (i j : ℕ) : Type 0 where
  pub bound : ℕ
  pub apart : AreWithin 0 runs bound
  pub low : bound ≤ 2 ^ 48 + 1
  pub behind : AreWithin bound (drop i left) (2 ^ 48 + 1) ⊎ AreWithin bound (drop j right) (2 ^ 48 + 1)
  pub members : (x : ℕ) → (has_in runs x || (has_in (drop i left) x && has_in (drop j right) x)) ≡ (has_in left x && has_in right x)
  pub left_inside : i ≤ length left
  pub right_inside : j ≤ length right
