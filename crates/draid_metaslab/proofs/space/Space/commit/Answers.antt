use Rattle.std.proofs.Common.{◌≡◌, ◌+◌, ◌≤◌, ◌||◌, ℕ, nat_le, List, count_by, filter, arith, rules, subst}
use Rattle.std.proofs.lemmas.Fn.{filter_same}
use Rattle.draid_ranges.specs.Numbers.{has}
use Rattle.draid_metaslab.specs.declared.space.Deferred.{Deferred}
use Rattle.draid_metaslab.specs.Spaces.{Stripes, is_due, is_later}
use Rattle.draid_metaslab.proofs.Kept.{committed}
use Rattle.draid_metaslab.proofs.space.Space.commit.Goals as goal

pub returns-clause-deferred : goal.returns-clause-deferred
returns-clause-deferred c =
    let P : Stripes → Type 0 = λ s. c.retain.new.self.items ≡ filter (is_later c.args.group) s.deferred in
    subst P c.self.view_is (filter_same _ _ _ (λ x b f' k. search rules) _ _ c.retain.ensures.filtered)

pub invariant_of-self : goal.invariant_of-self
invariant_of-self c =
    let kept : c.retain.new.self.items ≡ filter (is_later c.args.group) c.self.inside.deferred.items = filter_same _ _ _ (λ x b f' k. search rules) _ _ c.retain.ensures.filtered in
    let M : List Deferred → Type 0 = λ ds. (x : ℕ) → has c.free_all_due.new.free x ≡ (has c.self.inside.free x || is_due c.args.group ds x) in
    let S : List Deferred → Type 0 = λ ds. c.self.inside.free.room ≤ c.free_all_due.new.free.room + count_by (λ (entry : Deferred). nat_le entry.group c.args.group) ds in
    let U : List Deferred → Type 0 = λ ds. c.self.inside.map.room ≤ c.free_all_due.new.map.room + count_by (λ (entry : Deferred). nat_le entry.group c.args.group) ds in
    committed c.self.inside.height c.self.inside.total c.self.inside.held _ c.args.group _ c.self.inside.free c.free_all_due.new.free c.self.inside.map c.free_all_due.new.map
    c.self.inside.deferred.items c.retain.new.self.items
    c.self.invariant (subst M c.deref.ensures.value c.free_all_due.ensures.members) (subst S c.deref.ensures.value c.free_all_due.ensures.left)
    (c.free_all_due.ensures.mapped c.self.inside.total c.self.invariant.mapped) (subst U c.deref.ensures.value c.free_all_due.ensures.unused) kept (omega arith)
