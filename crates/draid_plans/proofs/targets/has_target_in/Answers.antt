use Rattle.std.proofs.Common.{◌<◌, ◌∙◌, List, length, refl, subst, sym}
use Rattle.draid_names.specs.declared.arm.Arm.{Arm}
use Rattle.draid_slots.specs.Table.{arms_of}
use Rattle.draid_plans.specs.Targets.{is_target}
use Rattle.draid_plans.proofs.Places.{some_in}
use Rattle.draid_plans.proofs.targets.has_target_in.Goals as goal

pub returns-then-is_target : goal.returns-then-is_target
returns-then-is_target c = (
  λ is. some_in (is_target c.args.slots.now c.args.marks.now c.args.kind) c.args.slot c.loop-arm.arm (length (arms_of c.args.slots.now c.args.slot))
      (subst (λ (list : List Arm). c.loop-arm.arm < length list) c.arms-arm-end.ensures.arms c.loop-arm-test.true) (sym c.is_target.ensures ∙ c.if-is_target.true),
  λ some. refl,
)
