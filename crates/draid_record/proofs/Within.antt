-- Runs that lie apart, one more behind them.
use Rattle.std.proofs.Common.{ℕ, zero, suc, ◌+◌, ◌≤◌, ◌<◌, List, [], ◌∷◌, ◌++◌, arith}
use Rattle.std.specs.Prelude.{All}
use Rattle.draid_ranges.specs.declared.run.Run.{Run}
use Rattle.draid_ranges.specs.Runs.{AreWithin}

pub within_more : (from : ℕ) (runs : List Run) (low : ℕ) (r : Run) → AreWithin from runs low → low ≤ r.first → 0 < r.len → AreWithin from (runs ++ r ∷ []) (r.first + r.len + 1)
within_more from [] low r within at some = (omega (arith, within, at), some, omega arith)
within_more from (x ∷ xs) low r within at some = (within.0, within.1, within_more (x.first + x.len + 1) xs low r within.2 at some)

pub within_wide : (from : ℕ) (runs : List Run) (low high : ℕ) → AreWithin from runs low → low ≤ high → AreWithin from runs high
within_wide from [] low high within less = omega (arith, within, less)
within_wide from (x ∷ xs) low high within less = (within.0, within.1, within_wide (x.first + x.len + 1) xs low high within.2 less)

pub one : {X : Type 0} (P : X → Type 0) (x : X) → P x → All P (x ∷ [])
one P x is zero d below = is
one P x is (suc k) d below = absurd (omega arith)
