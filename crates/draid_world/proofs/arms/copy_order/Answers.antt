use Rattle.std.proofs.Common.{◌≡◌, ◌+◌, ◌++◌, ◌∙◌, ◌∷◌, [], inl, inr, ap, sym, length, arith, rules}
use Rattle.std.proofs.lemmas.Bool.{cases_eq, cases_lt}
use Rattle.draid_world.specs.World.{names_at}
use Rattle.draid_world.proofs.Maps.{names_past}
use Rattle.draid_world.proofs.Orders.{names_before, names_last}
use Rattle.draid_world.proofs.arms.copy_order.Goals as goal

pub loop-at-preserved : goal.loop-at-preserved
loop-at-preserved c =
    let old = c.loop-at.copy.items in
    let many = c.loop-at.invariant.0 in
    let is = c.in_ok-push.ensures.items in
    let len : length c.push.new.self.items ≡ c.loop-at.at + 1 = search rules in (
      len,
      λ k less. elim (cases_eq k c.loop-at.at) [
        | inl at ↦
            ap (λ vs. names_at vs k) is ∙ ap (names_at (old ++ c.in_ok-names.names ∷ [])) (at ∙ sym many) ∙ names_last old c.in_ok-names.names ∙ c.in_ok-names.ensures.items
            ∙ c.names_of.ensures ∙ ap (names_at c.args.order.now) (sym at)
        | inr other ↦
            ap (λ vs. names_at vs k) is ∙ names_before old c.in_ok-names.names k (omega (arith, less, other, many)) ∙ c.loop-at.invariant.1 k (omega (arith, less, other))
      ],
    )

pub returns : goal.returns
returns c = λ k. elim (cases_lt k c.loop-at.at) [
  | inl less ↦ c.loop-at.invariant.1 k less
  | inr past ↦
      let many = c.loop-at.invariant.0 in
      let end = c.loop-at-test.false in
      names_past c.loop-at.copy.items k (omega (arith, past, many)) ∙ sym (names_past c.args.order.now k (omega (arith, past, end)))
]
