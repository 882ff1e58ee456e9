use Rattle.draid_chain.specs.Used.{first_in}
use Rattle.draid_names.specs.Spares.{AreUsed}
use Rattle.draid_spec.specs.declared.layout.Geometry.{Geometry}
use Rattle.draid_slots.proofs.Tables.{on_ok_passed, on_err_always, if_ok_passed}
use Rattle.std.proofs.Common.{subst, sym}
use Rattle.draid_slots.proofs.slots.Slots.attach.Goals as goal

pub returns-clause-moved : goal.returns-clause-moved
returns-clause-moved c = c.moved_since.ensures c.args.self.now c.in_ok-add.ensures.attached.same (sym c.in_ok-add.ensures.count) c.places-before.ensures.places

pub add-requires-clause-range : goal.add-requires-clause-range
add-requires-clause-range c = c.requires.range

pub add-requires-clause-room : goal.add-requires-clause-room
add-requires-clause-room c = c.requires.room

pub add-requires-clause-log : goal.add-requires-clause-log
add-requires-clause-log c = c.requires.log

pub returns-in_err-add-clause-allowed : goal.returns-in_err-add-clause-allowed
returns-in_err-add-clause-allowed c = on_ok_passed _ c.from_residual.result _ c.from_residual.ensures.1

pub returns-in_err-add-clause-attached : goal.returns-in_err-add-clause-attached
returns-in_err-add-clause-attached c = on_ok_passed _ c.from_residual.result _ c.from_residual.ensures.1

pub returns-in_err-add-clause-moved : goal.returns-in_err-add-clause-moved
returns-in_err-add-clause-moved c = if_ok_passed _ c.from_residual.result _ c.from_residual.ensures.1

pub returns-in_err-add-clause-same : goal.returns-in_err-add-clause-same
returns-in_err-add-clause-same c = on_err_always c.from_residual.result _ c.in_err-add.ensures.same

pub returns-clause-allowed : goal.returns-clause-allowed
returns-clause-allowed c = c.in_ok-add.ensures.allowed

pub returns-clause-attached : goal.returns-clause-attached
returns-clause-attached c = c.in_ok-add.ensures.attached

pub moved_since-requires-clause-used : goal.moved_since-requires-clause-used
moved_since-requires-clause-used c =
    subst (λ (geometry : Geometry). AreUsed geometry.spec.children geometry.spec.spares (first_in c.places-before.result.used)) (sym c.in_ok-add.ensures.attached.same.geometry_is) c.places-before.ensures.used
