-- Columns of bytes, several places at a time.
use Rattle.std.specs.Prelude.{◌≡◌, ℕ, ◌<◌, ◌≤◌, List, [], ◌∷◌, length, slice_index}

-- v has `count` lanes, and lane k holds f k
pub record HasLanes (count : ℕ) (v : List ℕ) (f : ℕ → ℕ) : Type 0 where
  pub long : length v ≡ count
  pub each : (k : ℕ) → k < count → slice_index v k ≡ f k

-- the places from `first` up to `end` hold f of what they held and of what `from` holds, and the others stay
pub record IsAdded (f : ℕ → ℕ → ℕ) (from old new : List ℕ) (first end : ℕ) : Type 0 where
  pub ordered : first ≤ end
  pub inside : end ≤ length old
  pub long : length new ≡ length old
  pub added : (k : ℕ) → first ≤ k → k < end → slice_index new k ≡ f (slice_index old k) (slice_index from k)
  pub below : (k : ℕ) → k < first → slice_index new k ≡ slice_index old k
  pub above : (k : ℕ) → end ≤ k → slice_index new k ≡ slice_index old k

-- what comes back of the two bits that leave a byte which is multiplied by 4, by their number
abbrev pub returned_by_four : ℕ → ℕ
returned_by_four bits = slice_index (0 ∷ 29 ∷ 58 ∷ 39 ∷ []) bits
