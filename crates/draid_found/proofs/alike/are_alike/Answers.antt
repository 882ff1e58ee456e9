use Rattle.std.proofs.Common.{arith, List, subst, ◌∙◌, sym}
use Rattle.draid_names.specs.declared.arm.Arm.{Arm}
use Rattle.draid_slots.specs.Table.{arms_of}
use Rattle.draid_shard.specs.Alike.{AreSameArms}
use Rattle.draid_found.proofs.Together.{slots_more, is_so, not_so}
use Rattle.draid_machine.proofs.Small.{absurd_test}
use Rattle.draid_found.proofs.alike.are_alike.Goals as goal

pub loop-slot-preserved : goal.loop-slot-preserved
loop-slot-preserved g c =
    let a = c.args.one.now.slots in
    let b = c.args.other.now.slots in
    let slot = c.loop-slot.slot in
    let below = c.loop-slot-test.true in
    let many = c.children-children.ensures.count in
    let same : AreSameArms c.arms.result.now c.arms-in-loop-slot.result.now = c.have_same_arms.ensures.0 c.if-not-have_same_arms.false in
    let one : AreSameArms (arms_of a slot) c.arms-in-loop-slot.result.now = subst (λ (ps : List Arm). AreSameArms ps c.arms-in-loop-slot.result.now) c.arms.ensures.arms same in
    record {
      same = slots_more a b slot c.loop-slot.invariant.same (subst (λ (qs : List Arm). AreSameArms (arms_of a slot) qs) c.arms-in-loop-slot.ensures.arms one);
      bound = omega (arith, below, many);
    }

pub returns-then-children : goal.returns-then-children
returns-then-children g c = not_so (λ same. c.if-children.true (c.children.ensures.count ∙ (same.children ∙ sym c.children-children.ensures.count)))

pub loop-slot-init : goal.loop-slot-init
loop-slot-init g c = record { same = λ slot less. absurd (omega (arith, less)); bound = omega arith }

pub arms-requires : goal.arms-requires
arms-requires g c =
    let below = c.loop-slot-test.true in
    let many = c.children-children.ensures.count in
    omega (arith, below, many)

pub arms-requires-in-loop-slot : goal.arms-requires-in-loop-slot
arms-requires-in-loop-slot g c =
    let below = c.loop-slot-test.true in
    let same = c.if-children.false in
    let many = c.children.ensures.count in
    omega (arith, below, same, many)

pub returns-then-not-have_same_arms : goal.returns-then-not-have_same_arms
returns-then-not-have_same_arms g c = not_so (λ same.
    let below = c.loop-slot-test.true in
    let many = c.children-children.ensures.count in
    let slot = c.loop-slot.slot in
    let both : AreSameArms (arms_of c.args.one.now.slots slot) (arms_of c.args.other.now.slots slot) = same.slots slot (omega (arith, below, many)) in
    let one : AreSameArms c.arms.result.now (arms_of c.args.other.now.slots slot) = subst (λ (ps : List Arm). AreSameArms ps (arms_of c.args.other.now.slots slot)) (sym c.arms.ensures.arms) both in
    absurd_test c.have_same_arms.result (c.have_same_arms.ensures.1 (subst (λ (qs : List Arm). AreSameArms c.arms.result.now qs) (sym c.arms-in-loop-slot.ensures.arms) one)) c.if-not-have_same_arms.true)

pub returns : goal.returns
returns g c = is_so (record {
  children = sym c.children.ensures.count ∙ (c.if-children.false ∙ c.children-children.ensures.count);
  slots = λ slot less.
      (let end = c.loop-slot-test.false in
      let many = c.children-children.ensures.count in
      c.loop-slot.invariant.same slot (omega (arith, less, end, many)));
})
