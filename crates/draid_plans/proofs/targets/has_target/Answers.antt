use Rattle.std.proofs.Common.{◌≡◌, ◌∙◌, [], arith, filter, refl, subst, sym}
use Rattle.std.proofs.lemmas.Bool.{true≢false}
use Rattle.draid_plans.specs.Targets.{is_target, places_below}
use Rattle.draid_plans.proofs.Places.{none_in_slot, none_more, some_below}
use Rattle.draid_plans.proofs.States.{none_there, some_there}
use Rattle.draid_plans.proofs.targets.has_target.Goals as goal

pub returns-then-has_target_in-clause-targets : goal.returns-then-has_target_in-clause-targets
returns-then-has_target_in-clause-targets c =
    let slots = c.args.slots.now in
    let test = c.loop-slot-test.true in
    let count = c.children-slot-end.ensures.count in (
      λ is. some_below slots (is_target slots c.args.marks.now c.args.kind) c.loop-slot.slot slots.geometry.spec.children (omega (arith, test, count)) (c.has_target_in.ensures.0 c.if-has_target_in.true),
      λ some. refl,
    )

pub returns-then-has_target_in-clause-state : goal.returns-then-has_target_in-clause-state
returns-then-has_target_in-clause-state c = λ w has suits.
    let slots = c.args.slots.now in
    let test = c.loop-slot-test.true in
    let count = c.children-slot-end.ensures.count in (
      λ is. some_there slots w has c.args.marks.now c.args.kind suits
          (some_below slots (is_target slots c.args.marks.now c.args.kind) c.loop-slot.slot slots.geometry.spec.children (omega (arith, test, count)) (c.has_target_in.ensures.0 c.if-has_target_in.true)),
      λ some. refl,
    )

pub loop-slot-preserved : goal.loop-slot-preserved
loop-slot-preserved c =
    none_more c.args.slots.now (is_target c.args.slots.now c.args.marks.now c.args.kind) c.loop-slot.slot c.loop-slot.invariant
    (none_in_slot c.args.slots.now (is_target c.args.slots.now c.args.marks.now c.args.kind) c.loop-slot.slot (λ some. true≢false (sym (c.has_target_in.ensures.1 some) ∙ c.if-has_target_in.false)))

pub returns-clause-targets : goal.returns-clause-targets
returns-clause-targets c =
    let past = c.loop-slot-test.false in
    let upto = c.loop-slot.auto.slot-end in
    let count = c.children-slot-end.ensures.count in
    let all : c.loop-slot.slot ≡ c.args.slots.now.geometry.spec.children = omega (arith, past, upto, count) in (
      λ is. absurd (true≢false (sym is)),
      λ some. absurd (some (subst (λ n. filter (is_target c.args.slots.now c.args.marks.now c.args.kind) (places_below c.args.slots.now n) ≡ []) all c.loop-slot.invariant)),
    )

pub returns-clause-state : goal.returns-clause-state
returns-clause-state c = λ w has suits.
    let past = c.loop-slot-test.false in
    let upto = c.loop-slot.auto.slot-end in
    let count = c.children-slot-end.ensures.count in
    let all : c.loop-slot.slot ≡ c.args.slots.now.geometry.spec.children = omega (arith, past, upto, count) in (
      λ is. absurd (true≢false (sym is)),
      λ some. absurd (some (none_there c.args.slots.now w has c.args.marks.now c.args.kind suits
          (subst (λ n. filter (is_target c.args.slots.now c.args.marks.now c.args.kind) (places_below c.args.slots.now n) ≡ []) all c.loop-slot.invariant))),
    )
