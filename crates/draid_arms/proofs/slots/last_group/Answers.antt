use Rattle.std.proofs.Common.{◌∙◌, ◌<◌, ◌≤◌, ◌^◌, subst, sym, ap, inl, inr}
use Rattle.draid_arms.specs.Rules.{greatest}
use Rattle.draid_steps.proofs.Entries.{ordered_apart}
use Rattle.draid_arms.proofs.Orders.{greatest_from, greatest_birth, greatest_is, greatest_below}
use Rattle.draid_arms.proofs.slots.last_group.Goals as goal

pub returns-clause-below : goal.returns-clause-below
returns-clause-below c =
    let is = ap (greatest c.loop-found.last) (sym c.in-None.ensures.steps.0) ∙ c.loop-found.invariant in
    subst (λ n. n < 2 ^ 48) (sym is)
    (greatest_below c.args.group (2 ^ 48) c.args.held.now.entries (ordered_apart c.args.held.now.entries c.iter-found-items.ensures.ordered) c.requires.group c.requires.births)

pub returns-clause-from : goal.returns-clause-from
returns-clause-from c =
    let is = ap (greatest c.loop-found.last) (sym c.in-None.ensures.steps.0) ∙ c.loop-found.invariant in
    subst (λ n. c.args.group ≤ n) (sym is) (greatest_from c.args.group c.args.held.now.entries)

pub returns-clause-births : goal.returns-clause-births
returns-clause-births c = λ k h found.
    let is = ap (greatest c.loop-found.last) (sym c.in-None.ensures.steps.0) ∙ c.loop-found.invariant in
    subst (λ n. h.birth ≤ n) (sym is) (greatest_birth c.args.group c.args.held.now.entries k h found)

pub returns-clause-one : goal.returns-clause-one
returns-clause-one c =
    let is = ap (greatest c.loop-found.last) (sym c.in-None.ensures.steps.0) ∙ c.loop-found.invariant in
    elim (greatest_is c.args.group c.args.held.now.entries (ordered_apart c.args.held.now.entries c.iter-found-items.ensures.ordered)) [
      | inl one ↦ inl (is ∙ one)
      | inr (k, h, found, one) ↦ inr (k, h, found, one ∙ sym is)
    ]
