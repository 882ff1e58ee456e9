-- Parts that were written one behind the other.
use Rattle.std.proofs.Common.{◌≡◌, ℕ, zero, suc, ◌+◌, ◌-◌, ◌<◌, ◌≤◌, List, [], ◌∷◌, length, drop, get_or, refl, arith, inl, inr}
use Rattle.std.specs.Int.{bytes_high_first}
use Rattle.std.proofs.lemmas.Bool.{cases_lt}
use Rattle.draid_ranges.specs.declared.run.Run.{Run}
use Rattle.draid_ranges.specs.Runs.{AreWithin}

pub lowest_bytes : (k n x : ℕ) → n ≤ k → drop (k - n) (bytes_high_first k x) ≡ bytes_high_first n x
lowest_bytes zero n x less = let none : n ≡ 0 = omega arith in rw none refl
lowest_bytes (suc k) n x less = elim (cases_lt k n) [
  | inl all ↦ (let same : n ≡ suc k = omega arith in let none : suc k - n ≡ 0 = omega arith in rw (none, same) refl)
  | inr some ↦ (let one : suc k - n ≡ suc (k - n) = omega arith in rw one (lowest_bytes k n x some))
]

ends_later : (low : ℕ) (runs : List Run) (high : ℕ) → AreWithin low runs high → low ≤ high
ends_later low [] high w = w
ends_later low (r ∷ rs) high w = (let end = ends_later (r.first + r.len + 1) rs high w.2 in let first = w.0 in omega arith)

-- runs that lie apart have members below the end
pub run_within : (low : ℕ) (runs : List Run) (high k : ℕ) (d : Run) → AreWithin low runs (high + 1) → k < length runs → (0 < (get_or runs k d).len) × ((get_or runs k d).first + (get_or runs k d).len ≤ high)
run_within low [] high k d within l = absurd (omega arith)
run_within low (r ∷ rs) high zero d within l = (within.1, (let end = ends_later (r.first + r.len + 1) rs (high + 1) within.2 in omega arith))
run_within low (r ∷ rs) high (suc k) d within l = run_within (r.first + r.len + 1) rs high k d within.2 (omega arith)
