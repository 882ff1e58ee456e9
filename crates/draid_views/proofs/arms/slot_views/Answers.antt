use Rattle.std.proofs.Common.{rules, ◌+◌, ◌≡◌, ◌∙◌, length, List, Vec, Global, arith, ap, subst, sym, slice_index_or}
use Rattle.std.proofs.lemmas.Option.{slice_get-get_or}
use Rattle.draid_report.specs.declared.view.ArmView.{ArmView}
use Rattle.draid_spec.specs.declared.layout.Geometry.{Geometry}
use Rattle.draid_views.specs.Views.{AreSlotsTold}
use Rattle.draid_views.proofs.ArmsTold.{slots_first, slots_more, slots_none, slots_seen}
use Rattle.std.proofs.lemmas.Result.{IfOk-from_err}
use Rattle.draid_views.proofs.arms.slot_views.Goals as goal

pub loop-slot-init : goal.loop-slot-init
loop-slot-init g c =
    slots_none c.args.geometry c.args.shards.now (slice_index_or c.args.shards.now 0 c.index-shards-0.result).slots c.new-views.result.items (search rules)

pub loop-slot-preserved : goal.loop-slot-preserved
loop-slot-preserved g c =
    let table = (slice_index_or c.args.shards.now 0 c.index-shards-0.result).slots in
    subst (λ (views : List (Vec ArmView Global)). AreSlotsTold c.args.geometry c.args.shards.now table (c.loop-slot.slot + 1) views) (sym c.in_ok-push.ensures.items)
    (slots_more c.args.geometry c.args.shards.now table c.loop-slot.slot c.loop-slot.views.items c.in_ok-arm_views.field-0 c.in_ok-arm_views.ensures c.loop-slot.invariant)

pub returns : goal.returns
returns g c =
    let many : length c.loop-slot.views.items ≡ c.args.geometry.spec.children = (let laid = c.requires.layout 0 c.index-shards-0.result c.requires.some in
    let of = (c.requires.valid 0 c.index-shards-0.result c.requires.some).slots.geometry_is in
    let children = ap (λ (k : Geometry). k.spec.children) (of ∙ laid) in
    let past = c.loop-slot-test.false in
    let upto = c.loop-slot.auto.slot-end in
    let count = c.children-slot-end.ensures.count in
    let many = c.loop-slot.invariant.many in
    omega (arith, children, past, upto, count, many)) in
    record {
      many = many;
      first = λ s there. slots_first c.args.geometry c.args.shards.now (slice_index_or c.args.shards.now 0 c.index-shards-0.result) s c.loop-slot.views.items c.loop-slot.slot
          (slice_get-get_or c.args.shards.now 0 c.index-shards-0.result c.requires.some) many c.loop-slot.invariant there;
      slots = slots_seen c.args.geometry c.args.shards.now (slice_index_or c.args.shards.now 0 c.index-shards-0.result) c.loop-slot.views.items c.loop-slot.slot
          (slice_get-get_or c.args.shards.now 0 c.index-shards-0.result c.requires.some) c.loop-slot.invariant;
    }

pub scale_in_slice-slots : goal.scale_in_slice-slots
scale_in_slice-slots g c = omega arith

pub bounds-shards-0 : goal.bounds-shards-0
bounds-shards-0 g c = c.requires.some

pub returns-in_err-arm_views : goal.returns-in_err-arm_views
returns-in_err-arm_views g c = record { many = IfOk-from_err c.from_residual.result _ c.from_residual.ensures.0; first = IfOk-from_err c.from_residual.result _ c.from_residual.ensures.0; slots = IfOk-from_err c.from_residual.result _ c.from_residual.ensures.0 }

pub returns-in_err-push : goal.returns-in_err-push
returns-in_err-push g c = record { many = IfOk-from_err c.from_residual-in_err-push.result _ c.from_residual-in_err-push.ensures.0; first = IfOk-from_err c.from_residual-in_err-push.result _ c.from_residual-in_err-push.ensures.0; slots = IfOk-from_err c.from_residual-in_err-push.result _ c.from_residual-in_err-push.ensures.0 }

pub arm_views-requires : goal.arm_views-requires
arm_views-requires g c =
    let below = c.loop-slot-test.true in
    let count = c.children-slot-end.ensures.count in
    record { few = c.requires.few; sound = c.children-slot-end.ensures.sound; slot = omega (arith, below, count) }
