use Rattle.std.proofs.Common.{◌≡◌, ◌≤◌, rules, false, inl, inr, arith, ap, sym, subst, length}
use Rattle.std.proofs.lemmas.Bool.{cases_lt, cases_eq}
use Rattle.draid_machine.specs.Names.{has_name}
use Rattle.draid_world.specs.World.{names_at}
use Rattle.draid_world.proofs.Maps.{names_past}
use Rattle.draid_world.proofs.arms.slot_with.Goals as goal

pub loop-slot-preserved : goal.loop-slot-preserved
loop-slot-preserved c =
    let here : has_name (names_at c.args.order.now c.loop-slot.slot) c.args.name ≡ false = search rules in
    λ k less. elim (cases_eq k c.loop-slot.slot) [
      | inl at ↦ subst (λ x. has_name (names_at c.args.order.now x) c.args.name ≡ false) (sym at) here
      | inr other ↦ c.loop-slot.invariant k (omega (arith, less, other))
    ]

pub returns-clause-none : goal.returns-clause-none
returns-clause-none c = λ k. elim (cases_lt k (length c.args.order.now)) [
  | inl less ↦ c.loop-slot.invariant k (let past : length c.args.order.now ≤ c.loop-slot.slot = search rules in omega (arith, less, past))
  | inr past ↦ ap (λ ns. has_name ns c.args.name) (names_past c.args.order.now k past)
]
