use Rattle.std.proofs.Common.{◌≡◌, ◌<◌, ◌∙◌, Some, List, [], false, ap, arith, get_or, length, refl, slice_get, sym, subst}
use Rattle.std.specs.Prelude.{slice_index_or}
use Rattle.std.proofs.lemmas.Option.{slice_get-get_or}
use Rattle.draid_names.specs.declared.arm.Arm.{Arm}
use Rattle.draid_names.specs.declared.arm.ArmKind.TheVariants.{Leaf}
use Rattle.draid_spec.specs.declared.layout.Geometry.{Geometry}
use Rattle.draid_slots.specs.Table.{arm_at, arms_of}
use Rattle.draid_blocks.specs.Landings.{Lands}
use Rattle.draid_shard.specs.Rows.{arm_no}
use Rattle.draid_blocks.proofs.Landings.{lands_next, lands_none, lands_same}
use Rattle.draid_shard.proofs.Staging.{fits_left, room_left}
use Rattle.draid_blocks.proofs.putting.land.Goals as goal

pub loop-arm-init : goal.loop-arm-init
loop-arm-init g c = record {
  shape = refl;
  lands = subst (λ l. Lands c.args.slots.now c.args.slots.now c.args.rows 0 c.args.column.now (record { landed = l; failed = c.none-2.result }) (g.R.Rack.told c.args.rack.now) (g.R.Rack.told c.args.rack.now) (g.R.Rack.faults c.args.rack.now) (g.R.Rack.faults c.args.rack.now))
      (sym c.none.ensures)
      (subst (λ l. Lands c.args.slots.now c.args.slots.now c.args.rows 0 c.args.column.now (record { landed = []; failed = l }) (g.R.Rack.told c.args.rack.now) (g.R.Rack.told c.args.rack.now) (g.R.Rack.faults c.args.rack.now) (g.R.Rack.faults c.args.rack.now))
      (sym c.none-2.ensures)
      (lands_none c.args.slots.now c.args.rows c.args.column.now (g.R.Rack.told c.args.rack.now) (g.R.Rack.faults c.args.rack.now)));
}

pub loop-arm-preserved : goal.loop-arm-preserved
loop-arm-preserved g c =
    let inv = c.loop-arm.invariant.lands in
    let e = c.land_on-outcome.ensures in
    let none : Arm = record { kind = Leaf; number = 0; offline = false; fresh = false } in
    let it : Arm = get_or c.arms-in-loop-arm.result.now c.loop-arm.arm none in
    let same : c.arms-in-loop-arm.result.now ≡ arms_of c.args.slots.now c.args.rows.slot
    = c.arms-in-loop-arm.ensures.arms ∙ ap (λ arms. slice_index_or arms c.args.rows.slot []) (e.misses.logs.arms ∙ inv.logs.arms) in
    let less = c.loop-arm-test.true in
    let within : c.loop-arm.arm < length c.arms-in-loop-arm.result.now
    = subst (λ arms. c.loop-arm.arm < length arms) (c.arms.ensures.arms ∙ sym same) less in
    let there : arm_at c.args.slots.now (arm_no c.args.rows c.loop-arm.arm) ≡ Some it
    = subst (λ arms. slice_get arms c.loop-arm.arm ≡ Some it) same (slice_get-get_or c.arms-in-loop-arm.result.now c.loop-arm.arm none within) in
    record {
      shape = e.shape ∙ c.loop-arm.invariant.shape;
      lands = lands_next c.args.slots.now c.loop-arm.slots c.land_on-outcome.new.slots c.args.rows c.loop-arm.arm c.args.column.now c.loop-arm.landing (g.R.Rack.told c.args.rack.now) (g.R.Rack.told c.loop-arm.rack)
          (g.R.Rack.told c.land_on-outcome.new.rack) (g.R.Rack.faults c.args.rack.now) (g.R.Rack.faults c.loop-arm.rack) (g.R.Rack.faults c.land_on-outcome.new.rack) it c.name_of-name.result c.land_on-outcome.result
          inv there c.name_of-name.ensures
          (lands_same c.args.slots.now c.loop-arm.slots c.args.rows c.loop-arm.arm c.args.column.now c.land_on-outcome.result _ _ inv.logs.same inv.logs.arms e.lands) e.counts e.misses _ _ refl c.note.ensures;
    }

pub returns-clause-lands : goal.returns-clause-lands
returns-clause-lands g c =
    let past = c.loop-arm-test.false in
    let upto = c.loop-arm.auto.arm-end in
    let all : c.loop-arm.arm ≡ length (arms_of c.args.slots.now c.args.rows.slot) = omega (arith, past, upto, ap length c.arms.ensures.arms) in
    subst (λ k. Lands c.args.slots.now c.loop-arm.slots c.args.rows k c.args.column.now c.loop-arm.landing (g.R.Rack.told c.args.rack.now) (g.R.Rack.told c.loop-arm.rack) (g.R.Rack.faults c.args.rack.now) (g.R.Rack.faults c.loop-arm.rack))
    all c.loop-arm.invariant.lands

pub land_on-outcome-requires-clause-long : goal.land_on-outcome-requires-clause-long
land_on-outcome-requires-clause-long g c = c.requires.long

pub land_on-outcome-requires-clause-birth : goal.land_on-outcome-requires-clause-birth
land_on-outcome-requires-clause-birth g c = c.requires.birth

pub note-requires : goal.note-requires
note-requires g c =
    let landed = c.loop-arm.invariant.lands.few_landed in
    let failed = c.loop-arm.invariant.lands.few_failed in
    let less = c.loop-arm-test.true in
    let few = c.arms.ensures.few in
    record { landed = omega (arith, landed, less, few); failed = omega (arith, failed, less, few) }

pub arms-requires : goal.arms-requires
arms-requires g c = c.requires.fits.slot_below

pub land_on-outcome-requires-clause-fits : goal.land_on-outcome-requires-clause-fits
land_on-outcome-requires-clause-fits g c =
    fits_left (g.R.Rack.shape c.args.rack.now) (g.R.Rack.shape c.loop-arm.rack) c.args.slots.now c.loop-arm.slots c.args.rows c.args.rows.birth
    c.loop-arm.invariant.shape c.loop-arm.invariant.lands.logs c.requires.fits

pub land_on-outcome-requires-clause-there : goal.land_on-outcome-requires-clause-there
land_on-outcome-requires-clause-there g c =
    subst (λ (arms : List (List Arm)). c.loop-arm.arm < length (slice_index_or arms c.args.rows.slot [])) (sym c.loop-arm.invariant.lands.logs.arms)
    (subst (λ (arms : List Arm). c.loop-arm.arm < length arms) c.arms.ensures.arms c.loop-arm-test.true)

pub land_on-outcome-requires-clause-room : goal.land_on-outcome-requires-clause-room
land_on-outcome-requires-clause-room g c = room_left c.args.rows.birth c.args.slots.now c.loop-arm.slots c.loop-arm.invariant.lands.logs c.requires.room

pub arms-requires-in-loop-arm : goal.arms-requires-in-loop-arm
arms-requires-in-loop-arm g c =
    subst (λ (geometry : Geometry). c.args.rows.slot < geometry.spec.children)
    (sym (c.land_on-outcome.ensures.misses.logs.same.geometry_is ∙ c.loop-arm.invariant.lands.logs.same.geometry_is)) c.requires.fits.slot_below

pub returns-clause-shape : goal.returns-clause-shape
returns-clause-shape g c = c.loop-arm.invariant.shape

pub bounds-arms-arm : goal.bounds-arms-arm
bounds-arms-arm g c =
    let inv = c.loop-arm.invariant.lands in
    let same : c.arms-in-loop-arm.result.now ≡ arms_of c.args.slots.now c.args.rows.slot
    = c.arms-in-loop-arm.ensures.arms ∙ ap (λ arms. slice_index_or arms c.args.rows.slot []) (c.land_on-outcome.ensures.misses.logs.arms ∙ inv.logs.arms) in
    subst (λ (arms : List Arm). c.loop-arm.arm < length arms) (c.arms.ensures.arms ∙ sym same) c.loop-arm-test.true
