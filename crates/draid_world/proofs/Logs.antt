-- Logs that are empty.
use Rattle.std.proofs.Common.{◌≡◌, ◌==◌, ℕ, false, true, List, [], ◌∷◌, length, sym, ◌∙◌, ap, arith}
use Rattle.std.proofs.lemmas.Bool.{true≢false}
use Rattle.std.proofs.lemmas.Bool.Decides.{nat_tests}
use Rattle.draid_ranges.specs.declared.run.Run.{Run}
use Rattle.draid_ranges.specs.Numbers.{Numbers, AreRuns, has}
use Rattle.draid_ranges.specs.Runs.{has_in}

pub no_runs : (log : Numbers) (rs : List Run) → rs ≡ log.runs → (length rs == 0) ≡ true → (g : ℕ) → has log g ≡ false
no_runs log [] is e g = ap (λ r. has_in r g) (sym is)
no_runs log (r ∷ rs) is e g = let no : (length (r ∷ rs) == 0) ≡ false = grind (arith, nat_tests) in absurd (true≢false (sym e ∙ no))

pub some_run : (log : Numbers) (rs : List Run) → AreRuns log rs → (length rs == 0) ≡ false → ((g : ℕ) → has log g ≡ false) → ⊥
some_run log [] are e none = true≢false e
some_run log (r ∷ rs) are e none =
    let first = are.maximal 0 r (omega arith) in
    let some = first.some in
    true≢false (sym (first.members r.first (omega arith) (omega (arith, some))) ∙ none r.first)
