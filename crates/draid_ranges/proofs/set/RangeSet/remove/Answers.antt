use Rattle.std.proofs.Common.{◌≡◌, ◌+◌, ◌&&◌, not, ℕ, subst}
use Rattle.draid_ranges.specs.Numbers.{Numbers, has}
use Rattle.draid_ranges.specs.Runs.{AreApart, has_in, is_between}
use Rattle.draid_ranges.proofs.Answered.{on_either, on_ok}
use Rattle.draid_ranges.proofs.Hulls.{sides_apart, sides_kept}
use Rattle.draid_ranges.proofs.set.RangeSet.remove.Goals as goal

pub invariant_of-self : goal.invariant_of-self
invariant_of-self c =
    on_either AreApart c.keep_sides.result _ _ _ c.keep_sides.ensures.ok c.keep_sides.ensures.err c.self.invariant (λ is.
    sides_apart c.self.inside.runs.items c.keep_sides.new.runs.items c.ending_before-at.result c.absorb-end.result.1 c.between.result c.absorb-end.result.0 c.args.first c.args.last
    (rw c.deref-2.ensures.value at c.absorb-end.ensures.whole) (rw c.deref-2.ensures.value at c.absorb-end.ensures.apart) is c.between.ensures.0 c.between.ensures.1 c.requires.order)

pub returns-clause-ok : goal.returns-clause-ok
returns-clause-ok c =
    let P : Numbers → Type 0 = λ s. (x : ℕ) → has_in c.keep_sides.new.runs.items x ≡ (has s x && not (is_between c.args.first (c.args.last + 1) x)) in
    on_ok c.keep_sides.result c.keep_sides.ensures.ok (λ is. subst P c.self.view_is
    (sides_kept c.self.inside.runs.items c.keep_sides.new.runs.items c.ending_before-at.result c.absorb-end.result.1 c.between.result c.absorb-end.result.0 c.args.first c.args.last
    (rw c.deref-2.ensures.value at c.absorb-end.ensures.whole) (rw c.deref-2.ensures.value at c.absorb-end.ensures.apart) is c.between.ensures.0 c.between.ensures.1 c.requires.order))
