use Rattle.std.proofs.Common.{◌≡◌, ◌<◌, ◌&&◌, ℕ, nat_le, length, arith, subst}
use Rattle.draid_ranges.specs.Numbers.{Numbers, has}
use Rattle.draid_ranges.specs.Runs.{has_in}
use Rattle.draid_ranges.proofs.Cuts.{cut_apart, cut_has, reaches_past}
use Rattle.draid_ranges.proofs.Within.{end_below, no_run}
use Rattle.draid_ranges.proofs.set.RangeSet.cut_above.Goals as goal

pub shorten-requires-clause-below : goal.shorten-requires-clause-below
shorten-requires-clause-below c = λ l.
    let k : c.ending_before-at.result < length c.self.inside.runs.items = grind arith in
    let past = reaches_past c.self.inside.runs.items c.ending_before-at.result c.saturating_add.result c.args.last c.self.invariant (omega arith) (rw c.deref.ensures.value at c.ending_before-at.ensures.behind) k in
    let bound = end_below c.self.inside.runs.items c.ending_before-at.result 0 281474976710657 no_run c.self.invariant k in
    omega arith

pub invariant_of-self : goal.invariant_of-self
invariant_of-self c =
    cut_apart c.self.inside.runs.items c.shorten.new.runs.items c.ending_before-at.result c.args.last c.self.invariant
    (reaches_past c.self.inside.runs.items c.ending_before-at.result c.saturating_add.result c.args.last c.self.invariant (omega arith) (rw c.deref.ensures.value at c.ending_before-at.ensures.behind))
    c.shorten.ensures.items

pub returns-clause-members : goal.returns-clause-members
returns-clause-members c =
    let P : Numbers → Type 0 = λ s. (x : ℕ) → has_in c.shorten.new.runs.items x ≡ (has s x && nat_le x c.args.last) in
    subst P c.self.view_is
    (cut_has c.self.inside.runs.items c.shorten.new.runs.items c.ending_before-at.result c.saturating_add.result c.args.last c.self.invariant
    (rw c.deref.ensures.value at c.ending_before-at.ensures.front) (omega arith)
    (reaches_past c.self.inside.runs.items c.ending_before-at.result c.saturating_add.result c.args.last c.self.invariant (omega arith) (rw c.deref.ensures.value at c.ending_before-at.ensures.behind))
    c.shorten.ensures.items)
