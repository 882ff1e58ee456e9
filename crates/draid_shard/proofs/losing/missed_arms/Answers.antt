use Rattle.std.proofs.Common.{◌≡◌, ◌<◌, ◌∙◌, List, arith, ap, length}
use Rattle.std.proofs.lemmas.List.{length-set}
use Rattle.draid_names.specs.declared.arm.Arm.{Arm}
use Rattle.draid_slots.specs.Table.{arms_of}
use Rattle.draid_shard.specs.Losing.{is_missed_on}
use Rattle.draid_shard.proofs.Missing.{arm_next}
use Rattle.draid_shard.proofs.losing.missed_arms.Goals as goal

pub loop-arm-preserved : goal.loop-arm-preserved
loop-arm-preserved c =
    let is = c.loop-arm.invariant in
    let count = is.count in
    let test = c.loop-arm-test.true in
    let few = c.arms-arm-end.ensures.few in
    let inside : c.loop-arm.arm < length c.loop-arm.marks = omega (arith, count, test, few) in
    record {
      count = length-set c.loop-arm.marks c.loop-arm.arm c.misses.result ∙ count;
      below = arm_next c.loop-arm.arm (is_missed_on c.args.slots.now c.args.rows c.args.failed.now) c.loop-arm.marks c.misses.result inside c.misses.ensures is.below;
    }

pub returns : goal.returns
returns c =
    let past = c.loop-arm-test.false in
    let same : length c.arms-arm-end.result.now ≡ length (arms_of c.args.slots.now c.args.rows.slot) = ap (λ (list : List Arm). length list) c.arms-arm-end.ensures.arms in
    λ arm there. c.loop-arm.invariant.below arm (omega (arith, past, same, there))
