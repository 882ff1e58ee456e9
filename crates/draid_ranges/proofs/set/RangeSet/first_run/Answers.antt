use Rattle.std.proofs.Common.{◌≤◌, ℕ, Bool, List, IfSome, IfNone, subst, ap}
use Rattle.draid_ranges.specs.declared.run.Run.{Run}
use Rattle.draid_ranges.specs.Numbers.{IsRoom, has}
use Rattle.draid_ranges.specs.Runs.{has_in}
use Rattle.draid_ranges.proofs.set.RangeSet.first_run.Goals as goal

pub returns-clause-lowest : goal.returns-clause-lowest
returns-clause-lowest c =
    let P : (ℕ → Bool) → Type 0 = λ t. IfSome c.lowest_room.result (λ p. (q : ℕ) → IsRoom t c.args.len c.args.from c.args.to q → p ≤ q) in
    let L : List Run → Type 0 = λ xs. P (has_in xs) in
    subst P (ap has c.self.view_is) (subst L c.deref.ensures.value c.lowest_room.ensures.lowest)

pub returns-clause-none : goal.returns-clause-none
returns-clause-none c =
    let P : (ℕ → Bool) → Type 0 = λ t. IfNone c.lowest_room.result ((q : ℕ) → ¬ (IsRoom t c.args.len c.args.from c.args.to q)) in
    let L : List Run → Type 0 = λ xs. P (has_in xs) in
    subst P (ap has c.self.view_is) (subst L c.deref.ensures.value c.lowest_room.ensures.none)
