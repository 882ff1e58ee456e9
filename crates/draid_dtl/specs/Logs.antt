use Rattle.std.specs.Prelude.{◌≡◌, ◌<◌, ◌≤◌, ◌&&◌, ◌||◌, ℕ, zero, suc, Bool, true, nat_lt, List, length, slice_index_or, count_by}
use Rattle.std.specs.List.{list_all}
use Rattle.draid_ranges.specs.Numbers.{Numbers, has}

-- whether each of the logs has a group
abbrev pub mirror_misses : List Numbers → ℕ → Bool
mirror_misses logs x = list_all (λ (log : Numbers). has log x) logs

-- how many of the logs have a group
abbrev pub times_missed : List Numbers → ℕ → ℕ
times_missed logs x = count_by (λ (log : Numbers). has log x) logs

-- whether more than so many of the logs have a group
abbrev pub group_misses : ℕ → List Numbers → ℕ → Bool
group_misses parity logs x = nat_lt parity (times_missed logs x)

-- level k has the groups that more than k of the logs have
abbrev pub AreLevels : List Numbers → List Numbers → Type 0
AreLevels levels logs = (k : ℕ) (d : Numbers) → k < length levels → (x : ℕ) → has (slice_index_or levels k d) x ≡ group_misses k logs x

-- whether a group is in the level below level k; below level 0 are all
abbrev pub has_below : List Numbers → ℕ → Numbers → ℕ → Bool
has_below levels zero d x = true
has_below levels (suc k) d x = has (slice_index_or levels k d) x

-- level k with what the level below it and one more log both have
abbrev pub IsRaised : List Numbers → List Numbers → Numbers → ℕ → Numbers → Type 0
IsRaised old new log k d = (x : ℕ) → has (slice_index_or new k d) x ≡ (has (slice_index_or old k d) x || (has log x && has_below old k d x))

-- the levels from one on are raised, and those before it are as they were
pub record AreRaised (old new : List Numbers) (log : Numbers) (from : ℕ) : Type 0 where
  pub len : length new ≡ length old
  pub raised : (k : ℕ) (d : Numbers) → from ≤ k → k < length old → IsRaised old new log k d
  pub same : (k : ℕ) (d : Numbers) → k < from → slice_index_or new k d ≡ slice_index_or old k d
