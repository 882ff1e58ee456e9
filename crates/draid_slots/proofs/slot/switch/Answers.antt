use Rattle.std.proofs.Common.{◌<◌, length, arith, ◌∙◌, ap}
use Rattle.draid_slots.specs.Changes.{switched_arm}
use Rattle.draid_slots.proofs.Mapped.{mapped_more}
use Rattle.draid_slots.proofs.slot.switch.Goals as goal

pub loop-at-preserved : goal.loop-at-preserved
loop-at-preserved c =
    let old = c.args.arms.now.items in
    let below : c.loop-at.at < length old = omega arith in (
      mapped_more (switched_arm c.args.leaf c.args.offline) old c.loop-at.arms.items c.loop-at.at c.index.result.now c.switched.result below c.loop-at.invariant.0
          (c.switched.ensures ∙ ap (switched_arm c.args.leaf c.args.offline) c.index.ensures),
      c.loop-at.invariant.1,
    )
