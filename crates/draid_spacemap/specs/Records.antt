use Rattle.std.specs.Prelude.{◌≡◌, ◌+◌, ◌*◌, ◌^◌, ◌<◌, ◌≤◌, ℕ, Bool, true, false, List, [], ◌∷◌, length, map, if◌then◌else◌}
use Rattle.draid_ranges.specs.declared.run.Run.{Run}
use Rattle.draid_ranges.specs.Numbers.{AreRuns, Has, Numbers}
use Rattle.draid_ranges.specs.Runs.{in_run}
use Rattle.draid_spacemap.specs.declared.map.Record.{Record}

-- What contracts see of a space map: its records, oldest first, and for how many more there is room in
-- memory.
pub record Records : Type 0 where
  pub records : List Record
  pub room : ℕ

-- whether x is allocated after the records, where at first it was so or not: the last record of a run
-- that has x decides
abbrev pub is_allocated_by : Bool → List Record → ℕ → Bool
is_allocated_by was [] x = was
is_allocated_by was (entry ∷ records) x = is_allocated_by (if in_run entry.run x then entry.allocates else was) records x

-- whether the last record of a stripe is an allocation
abbrev pub is_allocated : Records → ℕ → Bool
is_allocated map x = is_allocated_by false map.records x

-- the map's allocated stripes are those at which the test is true
abbrev pub Allocates : Records → (ℕ → Bool) → Type 0
Allocates map test = (x : ℕ) → is_allocated map x ≡ test x

-- a run of numbers below 2^48
pub record IsSpan (run : Run) : Type 0 where
  pub some : 0 < run.len
  pub below : run.first + run.len ≤ 2 ^ 48

-- the record that allocates a run
abbrev pub allocation : Run → Record
allocation run = record { run = run; allocates = true }

-- the record that frees a run
abbrev pub freeing : Run → Record
freeing run = record { run = run; allocates = false }

-- the map has one allocation for each maximal run of what was allocated, in ascending order
pub record IsCondensed (old new : Records) : Type 0 where
  pub set : Numbers
  pub runs : List Run
  pub members : Has set (is_allocated old)
  pub maximal : AreRuns set runs
  pub records : new.records ≡ map allocation runs

-- so many records are more than twice as many as the runs, and 64
abbrev pub IsLong : ℕ → ℕ → Type 0
IsLong records runs = 2 * runs + 64 < records

-- the map has one allocation for each maximal run where it was long for that many runs, and else its
-- records as they were
pub record IsShortened (old new : Records) : Type 0 where
  pub set : Numbers
  pub runs : List Run
  pub members : Has set (is_allocated old)
  pub maximal : AreRuns set runs
  pub long : IsLong (length old.records) (length runs) → new.records ≡ map allocation runs
  pub short : length old.records ≤ 2 * length runs + 64 → new.records ≡ old.records
