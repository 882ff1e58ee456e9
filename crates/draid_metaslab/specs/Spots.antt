use Rattle.std.specs.Prelude.{◌≡◌, ◌+◌, ◌*◌, ◌<◌, ◌≤◌, ℕ, Bool, true, List, take}
use Rattle.draid_ranges.specs.declared.run.Run.{Run}
use Rattle.draid_ranges.specs.Runs.{has_in}

-- so many stripes from first on lie in one group, which has height stripes, and pass the test
pub record IsSpot (test : ℕ → Bool) (height len first : ℕ) : Type 0 where
  pub group : ℕ
  pub from : group * height ≤ first
  pub to : first + len ≤ group * height + height
  pub all : (x : ℕ) → first ≤ x → x < first + len → test x ≡ true

-- the lowest of the spots of this length
pub record IsLowest (test : ℕ → Bool) (height len first : ℕ) : Type 0 where
  pub spot : IsSpot test height len first
  pub lowest : (other : ℕ) → IsSpot test height len other → first ≤ other

-- the greatest length of a spot: no spot is longer, and one has it where it isn't 0
pub record IsLargest (test : ℕ → Bool) (height largest : ℕ) : Type 0 where
  pub found : 0 < largest → (first : ℕ) × IsSpot test height largest first
  pub most : (len first : ℕ) → IsSpot test height len first → len ≤ largest

-- of the spots that begin in the first runs none is as long as len, and the greatest length is known
pub record IsSearched (runs : List Run) (height len passed largest : ℕ) : Type 0 where
  pub short : largest < len
  pub found : 0 < largest → (first : ℕ) × IsSpot (has_in runs) height largest first
  pub most : (l p : ℕ) → 0 < l → IsSpot (has_in runs) height l p → has_in (take passed runs) p ≡ true → l ≤ largest
