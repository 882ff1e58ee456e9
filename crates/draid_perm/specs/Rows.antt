use Rattle.std.specs.Prelude.{◌≡◌, ◌<◌, ℕ, zero, suc, true, ◌==◌, List, take, slice_index}
use Rattle.std.specs.List.{range_with_len, list_any}
use Rattle.draid_perm.specs.Shuffle.{shuffled}
use Rattle.draid_perm.specs.Words.{row_words}

-- what a base row starts as: the children in order, or the row before it
unfoldable pub row_start : ℕ → ℕ → ℕ → List ℕ
row_start n seed zero = range_with_len 0 n
row_start n seed (suc row) = shuffled (row_words n seed row) (row_start n seed row)

-- a base row of n children: its start, shuffled by its words
abbrev pub base_row : ℕ → ℕ → ℕ → List ℕ
base_row n seed row = shuffled (row_words n seed row) (row_start n seed row)

-- the first n items of a row are the numbers below n, each of them once
pub record IsPermuted (n : ℕ) (row : List ℕ) : Type 0 where
  pub below : (i : ℕ) → i < n → slice_index row i < n
  pub apart : (i j : ℕ) → i < n → j < n → slice_index row i ≡ slice_index row j → i ≡ j
  pub onto : (child : ℕ) → child < n → list_any (λ item. item == child) (take n row) ≡ true
