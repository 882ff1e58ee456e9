use Rattle.std.proofs.Common.{◌≡◌, ◌+◌, ◌||◌, ℕ, arith, subst}
use Rattle.draid_ranges.specs.Numbers.{Numbers, has}
use Rattle.draid_ranges.specs.Runs.{AreApart, has_in, is_between}
use Rattle.draid_ranges.proofs.Answered.{on_either, on_ok}
use Rattle.draid_ranges.proofs.Hulls.{put_apart, put_has}
use Rattle.draid_ranges.proofs.set.RangeSet.insert.Goals as goal

still_apart : (c : goal.After-put) → AreApart c.put.new.runs.items
still_apart c =
    on_either AreApart c.put.result _ _ _ c.put.ensures.ok c.put.ensures.err c.self.invariant
    (put_apart c.self.inside.runs.items c.put.new.runs.items c.ending_before-at.result c.absorb-end.result.1 c.between.result c.absorb-end.result.0
    (rw c.deref-2.ensures.value at c.absorb-end.ensures.whole) (rw c.deref-2.ensures.value at c.absorb-end.ensures.apart) (omega arith))

pub invariant_of-self : goal.invariant_of-self
invariant_of-self c = still_apart c

pub returns-clause-apart : goal.returns-clause-apart
returns-clause-apart c = still_apart c

pub returns-clause-ok : goal.returns-clause-ok
returns-clause-ok c =
    let P : Numbers → Type 0 = λ s. (x : ℕ) → has_in c.put.new.runs.items x ≡ (has s x || is_between c.args.first (c.args.last + 1) x) in
    on_ok c.put.result c.put.ensures.ok (λ is. subst P c.self.view_is
    (put_has c.self.inside.runs.items c.put.new.runs.items c.ending_before-at.result c.absorb-end.result.1 c.between.result c.absorb-end.result.0 c.args.first c.args.last
    (rw c.deref-2.ensures.value at c.absorb-end.ensures.whole) is c.between.ensures.0 c.between.ensures.1))
