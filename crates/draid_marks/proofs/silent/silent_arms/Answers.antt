use Rattle.std.proofs.Common.{◌≡◌, ◌<◌, ◌∙◌, List, arith, ap, length}
use Rattle.std.proofs.lemmas.List.{length-set}
use Rattle.draid_names.specs.declared.arm.Arm.{Arm}
use Rattle.draid_slots.specs.Table.{arms_of}
use Rattle.draid_marks.proofs.Marking.{arm_above, arm_below, arms_all}
use Rattle.draid_marks.proofs.silent.silent_arms.Goals as goal

pub loop-arm-preserved : goal.loop-arm-preserved
loop-arm-preserved c =
    let is = c.loop-arm.invariant in
    let count = is.count in
    let test = c.loop-arm-test.true in
    let few = c.arms-arm-end.ensures.few in
    let inside : c.loop-arm.arm < length c.loop-arm.marks = omega (arith, count, test, few) in
    record {
      count = length-set c.loop-arm.marks c.loop-arm.arm c.lies_silent.result ∙ count;
      below = arm_below c.args.slots.now c.args.failed.now c.args.slot c.loop-arm.arm c.loop-arm.marks c.lies_silent.result inside c.lies_silent.ensures is.below;
      above = arm_above c.args.slots.now c.args.failed.now c.loop-arm.arm c.loop-arm.marks c.lies_silent.result is.above;
    }

pub returns : goal.returns
returns c =
    let past = c.loop-arm-test.false in
    let same : length c.arms-arm-end.result.now ≡ length (arms_of c.args.slots.now c.args.slot) = ap (λ (list : List Arm). length list) c.arms-arm-end.ensures.arms in
    arms_all c.args.slots.now c.args.failed.now c.args.slot c.loop-arm.arm c.loop-arm.marks (omega (arith, past, same)) c.loop-arm.invariant.below c.loop-arm.invariant.above
