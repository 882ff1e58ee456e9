use Rattle.std.proofs.Common.{◌≡◌, ◌<◌, ℕ, false, length, get_or}
use Rattle.draid_ranges.specs.Numbers.{Numbers, has}
use Rattle.draid_dtl.proofs.missed.empty_levels.Given as goal

abbrev pub invariant-loop : goal.invariant-loop
invariant-loop l = (length l.levels.items ≡ l.counter) × ((k : ℕ) (d : Numbers) → k < length l.levels.items → (x : ℕ) → has (get_or l.levels.items k d) x ≡ false)
