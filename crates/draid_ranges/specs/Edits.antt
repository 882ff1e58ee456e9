use Rattle.std.specs.Prelude.{◌≡◌, ◌+◌, ◌-◌, ◌^◌, ◌≤◌, ◌++◌, ◌||◌, ℕ, nat_lt, List, [], ◌∷◌, length, take, drop, if◌then◌else◌}
use Rattle.draid_ranges.specs.declared.run.Run.{Run}
use Rattle.draid_ranges.specs.Runs.{AreWithin, in_run, has_in}

-- The whole is the run and the runs from..to, which touch it. Those before from lie before it.
pub record IsHull (runs : List Run) (from to : ℕ) (run whole : Run) : Type 0 where
  pub order : from ≤ to
  pub inside : to ≤ length runs
  pub front : AreWithin 0 (take from runs) whole.first
  pub members : (x : ℕ) → (in_run whole x || has_in (drop to runs) x) ≡ (in_run run x || has_in (drop from runs) x)
  pub first : whole.first ≤ run.first
  pub end : run.first + run.len ≤ whole.first + whole.len
  pub below : whole.first + whole.len ≤ 2 ^ 48
  pub none : to ≡ from → whole ≡ run

-- the numbers first..end as a list of runs: none where there are no numbers
abbrev pub runs_of : ℕ → ℕ → List Run
runs_of first end = if nat_lt first end then record { first = first; len = end - first } ∷ [] else []

-- the whole without the numbers first..end
abbrev pub sides_of : Run → ℕ → ℕ → List Run
sides_of whole first end = runs_of whole.first first ++ runs_of end (whole.first + whole.len)

-- of the first run its numbers up to last
abbrev pub front_of : List Run → ℕ → List Run
front_of [] last = []
front_of (run ∷ runs) last = runs_of run.first (last + 1)
