use Rattle.std.proofs.Common.{rules, ◌+◌, List, false, subst, sym, take, arith, ◌∙◌}
use Rattle.draid_names.specs.declared.arm.ArmKind.TheVariants as kind
use Rattle.draid_report.specs.declared.view.ArmView.{ArmView}
use Rattle.draid_views.specs.Views.{AreArmsTold}
use Rattle.draid_views.proofs.ArmsTold.{arms_more_at, arms_none, pooled_small}
use Rattle.std.proofs.lemmas.Result.{IfOk-from_err}
use Rattle.std.proofs.lemmas.List.{take_all}
use Rattle.draid_names.specs.declared.arm.Arm.{Arm}
use Rattle.draid_views.proofs.arms.arm_views.Goals as goal

pub loop-arm-init : goal.loop-arm-init
loop-arm-init g c = arms_none c.args.geometry c.args.shards.now c.arms-arms.result.now c.new-views.result.items (search rules)

pub arm_view-requires-clause-small : goal.arm_view-requires-clause-small
arm_view-requires-clause-small g c =
    pooled_small c.args.slots.now c.requires.sound c.args.slot c.requires.slot c.arms-arms.result.now c.arms-arms.ensures.arms c.loop-arm.arm-index
    (record { kind = kind.Leaf; number = 0; offline = false; fresh = false }) c.loop-arm-test.true

pub loop-arm-preserved : goal.loop-arm-preserved
loop-arm-preserved g c =
    subst (λ (views : List ArmView). AreArmsTold c.args.geometry c.args.shards.now (take (c.loop-arm.arm-index + 1) c.arms-arms.result.now) views) (sym c.in_ok-push.ensures.items)
    (arms_more_at c.args.geometry c.args.shards.now c.arms-arms.result.now c.loop-arm.arm-index c.loop-arm.views.items (record { kind = kind.Leaf; number = 0; offline = false; fresh = false }) c.in_ok-arm_view.field-0
    c.loop-arm-test.true c.in_ok-arm_view.ensures.arm c.in_ok-arm_view.ensures.told c.loop-arm.invariant)

pub offset_bounds-arms-arm-index : goal.offset_bounds-arms-arm-index
offset_bounds-arms-arm-index g c =
    let below = c.loop-arm-test.true in
    let few = c.arms-arms.ensures.few in
    omega (arith, below, few)

pub bounds-arms-arm-index : goal.bounds-arms-arm-index
bounds-arms-arm-index g c = c.loop-arm-test.true

pub arm_view-requires-clause-few : goal.arm_view-requires-clause-few
arm_view-requires-clause-few g c = c.requires.few

pub returns-in_err-arm_view : goal.returns-in_err-arm_view
returns-in_err-arm_view g c = IfOk-from_err c.from_residual.result _ c.from_residual.ensures.0

pub returns-in_err-push : goal.returns-in_err-push
returns-in_err-push g c = IfOk-from_err c.from_residual-in_err-push.result _ c.from_residual-in_err-push.ensures.0

pub returns : goal.returns
returns g c =
    subst (λ (arms : List Arm). AreArmsTold c.args.geometry c.args.shards.now arms c.loop-arm.views.items)
    (take_all c.loop-arm.arm-index c.arms-arms.result.now c.loop-arm-test.false ∙ c.arms-arms.ensures.arms) c.loop-arm.invariant
