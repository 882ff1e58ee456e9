use Rattle.std.proofs.Common.{◌≡◌, ◌≤◌, ◌+◌, ◌^◌, ℕ, Bool, false, List, sum_by, subst, sym, ap, ◌∙◌, arith}
use Rattle.draid_ranges.specs.declared.run.Run.{Run}
use Rattle.draid_ranges.specs.Numbers.{count_below, has}
use Rattle.draid_ranges.proofs.Counts.{count_runs}
use Rattle.draid_ranges.proofs.Within.{out_high}
use Rattle.draid_ranges.proofs.set.RangeSet.count.Goals as goal

pub returns-clause-count : goal.returns-clause-count
returns-clause-count c =
    let C : (ℕ → Bool) → Type 0 = λ t. c.total.result ≡ count_below t (2 ^ 48) in
    subst C (ap has c.self.view_is)
    (c.total.ensures ∙ ap (λ (xs : List Run). sum_by (λ (run : Run). run.len) xs) c.deref.ensures.value
    ∙ sym (count_runs c.self.inside.runs.items 0 (2 ^ 48 + 1) (2 ^ 48) c.self.invariant (omega arith)))

pub returns-clause-low : goal.returns-clause-low
returns-clause-low c = λ x from.
    subst (λ (t : ℕ → Bool). t x ≡ false) (ap has c.self.view_is)
    (out_high c.self.inside.runs.items 0 (2 ^ 48 + 1) x c.self.invariant (omega (arith, from)))
