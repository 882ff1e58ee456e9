-- How devices count their changes.
use Rattle.std.specs.Prelude.{◌+◌, ◌-◌, ◌^◌, ℕ, nat_lt, if◌then◌else◌}

-- the last clock, behind which it stands still
abbrev pub last_clock : ℕ
last_clock = 2 ^ 64 - 1

-- one change later. It stands still at the last clock
abbrev pub tick : ℕ → ℕ
tick c = if nat_lt c last_clock then c + 1 else c
