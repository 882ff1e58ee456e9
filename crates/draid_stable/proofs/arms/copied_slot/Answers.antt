use Rattle.std.proofs.Common.{◌≡◌, ◌<◌, ◌∙◌, List, arith, ap, subst, length}
use Rattle.draid_names.specs.declared.arm.Arm.{Arm}
use Rattle.draid_ranges.specs.Numbers.{Numbers, has}
use Rattle.draid_slots.specs.Table.{arms_of}
use Rattle.draid_stable.specs.Sealing.{CopiesArm}
use Rattle.draid_stable.proofs.Copying.{arm_there, at_more}
use Rattle.draid_stable.proofs.arms.copied_slot.Goals as goal

pub loop-arm-preserved : goal.loop-arm-preserved
loop-arm-preserved c =
    let slots = c.args.slots.now in
    let pair = c.in_ok-roomy.field-0 in
    let copy = c.in_ok-roomy.ensures in
    let inside : c.loop-arm.arm < length (arms_of slots c.args.slot) = subst (λ (list : List Arm). c.loop-arm.arm < length list) c.arms.ensures.arms c.loop-arm-test.true in
    at_more (CopiesArm slots c.args.slot) c.loop-arm.list.items c.push.new.self.items pair c.loop-arm.arm c.in_ok-push.ensures.items c.loop-arm.invariant.0 c.loop-arm.invariant.1
    (record {
      there = arm_there (arms_of slots c.args.slot) c.arms-in-loop-arm.result.now c.loop-arm.arm _ pair.0 c.arms-in-loop-arm.ensures.arms inside copy.arm;
      log = λ group. copy.same group ∙ ap (λ (log : Numbers). has log group) c.log-log.ensures;
      small = copy.small;
      apart = copy.apart;
      room = copy.room;
    })

pub returns : goal.returns
returns c =
    let count = c.loop-arm.invariant.0 in
    let past = c.loop-arm-test.false in
    let upto = c.loop-arm.auto.arm-end in
    let same : length c.arms.result.now ≡ length (arms_of c.args.slots.now c.args.slot) = ap (λ (list : List Arm). length list) c.arms.ensures.arms in
    record { count = omega (arith, count, past, upto, same); each = c.loop-arm.invariant.1 }
