use Rattle.std.proofs.Common.{◌≡◌, ℕ, Bool, List, subst, sym}
use Rattle.draid_ranges.specs.declared.run.Run.{Run}
use Rattle.draid_ranges.specs.Numbers.{Numbers, has}
use Rattle.draid_ranges.specs.Runs.{has_in}

-- what holds of the numbers that a set's runs have holds of those that it has
pub of_set : (P : (ℕ → Bool) → Type 0) (runs : List Run) (set : Numbers) → ((x : ℕ) → has set x ≡ has_in runs x) → P (has_in runs) → P (has set)
of_set P runs set same h = let e : has_in runs ≡ has set = λ j x. sym (same x) j in subst P e h
