use Rattle.std.specs.Prelude.{◌+◌, ◌^◌, ◌<◌, ◌≤◌, ◌&&◌, ℕ, nat_le, nat_lt, Bool, List, [], ◌∷◌}
use Rattle.std.specs.List.{list_any}
use Rattle.draid_ranges.specs.declared.run.Run.{Run}

-- the number behind a run's last
abbrev pub end_of : Run → ℕ
end_of run = run.first + run.len

-- whether x is at least first and below the end
abbrev pub is_between : ℕ → ℕ → ℕ → Bool
is_between first end x = nat_le first x && nat_lt x end

abbrev pub in_run : Run → ℕ → Bool
in_run run x = is_between run.first (run.first + run.len) x

-- whether x is in one of the runs
abbrev pub has_in : List Run → ℕ → Bool
has_in runs x = list_any (λ (run : Run). in_run run x) runs

-- The runs lie in order from low on and below high. Each has a number, and behind each stands one that
-- is in none.
abbrev pub AreWithin : ℕ → List Run → ℕ → Type 0
AreWithin low [] high = low ≤ high
AreWithin low (run ∷ runs) high = (low ≤ run.first) × (0 < run.len) × AreWithin (run.first + run.len + 1) runs high

-- runs of numbers below 2^48, ascending, with a number between each two that is in none
abbrev pub AreApart : List Run → Type 0
AreApart runs = AreWithin 0 runs (2 ^ 48 + 1)
