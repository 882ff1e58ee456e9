use Rattle.std.specs.Prelude.{if◌then◌else◌, zero, suc, ◌≡◌, ◌+◌, ◌≤◌, ◌<◌, ℕ, Bool, true, false, List, All}
use Rattle.draid_ranges.specs.declared.run.Run.{Run}
use Rattle.draid_ranges.specs.Runs.{AreApart, end_of, has_in}

-- What contracts see of a set of numbers: the runs of its members, and for how many more changes there
-- is room in memory.
pub record Numbers : Type 0 where
  pub runs : List Run
  pub room : ℕ

-- whether the set has a number
abbrev pub has : Numbers → ℕ → Bool
has set x = has_in set.runs x

-- the set has just the numbers at which the test is true
abbrev pub Has : Numbers → (ℕ → Bool) → Type 0
Has set test = (x : ℕ) → has set x ≡ test x

-- so many numbers from first on all pass the test, and lie within low..high
pub record IsRoom (test : ℕ → Bool) (len low high first : ℕ) : Type 0 where
  pub from : low ≤ first
  pub to : first + len ≤ high
  pub members : (x : ℕ) → first ≤ x → x < first + len → test x ≡ true

-- the run's numbers pass the test, and those before its first and behind its last don't
pub record IsMaximal (test : ℕ → Bool) (run : Run) : Type 0 where
  pub some : 0 < run.len
  pub members : (x : ℕ) → run.first ≤ x → x < end_of run → test x ≡ true
  pub before : (x : ℕ) → x + 1 ≡ run.first → test x ≡ false
  pub behind : test (end_of run) ≡ false

-- the set's maximal runs, in ascending order
pub record AreRuns (set : Numbers) (runs : List Run) : Type 0 where
  pub members : Has set (has_in runs)
  pub apart : AreApart runs
  pub maximal : All (IsMaximal (has set)) runs

-- how many numbers below a bound pass the test
unfoldable pub count_below : (ℕ → Bool) → ℕ → ℕ
count_below test zero = 0
count_below test (suc n) = count_below test n + (if test n then 1 else 0)
