use Rattle.draid_slots.proofs.Tables.{if_ok_passed}
use Rattle.std.proofs.Common.{[], List, refl, sym, subst}
use Rattle.draid_names.specs.declared.arm.Arm.{Arm}
use Rattle.draid_slots.specs.declared.slot.Detached.{Detached}
use Rattle.draid_slots.specs.Table.{AreKept, AreSlots}
use Rattle.draid_slots.proofs.slots.Slots.of.Goals as goal

pub invariant_of-result : goal.invariant_of-result
invariant_of-result c =
    let slots = c.in_ok-slots.slots.items in
    let D : List Detached → Type 0 = λ detached. AreKept c.args.geometry c.args.perms c.args.metaslab slots detached in
    let S : List (List Arm) → Type 0 = λ arms. AreSlots c.args.geometry arms [] in
    subst D (sym c.new.ensures.items) (record {
      paired = c.in_ok-slots.ensures.paired;
      sound = record {
        layout = c.requires.layout;
        low = c.requires.metaslab;
        slots = subst S (sym c.in_ok-slots.ensures.arms) c.requires.arms;
      };
    })

pub returns-clause-of : goal.returns-clause-of
returns-clause-of c = record { geometry_is = refl; perms_are = refl; metaslab_is = refl }

pub returns-clause-arms : goal.returns-clause-arms
returns-clause-arms c = c.in_ok-slots.ensures.arms

pub returns-clause-logs : goal.returns-clause-logs
returns-clause-logs c = c.in_ok-slots.ensures.logs

pub returns-clause-detached : goal.returns-clause-detached
returns-clause-detached c = c.new.ensures.items

pub returns-in_err-slots-clause-of : goal.returns-in_err-slots-clause-of
returns-in_err-slots-clause-of c = if_ok_passed _ c.from_residual.result _ c.from_residual.ensures.1

pub returns-in_err-slots-clause-arms : goal.returns-in_err-slots-clause-arms
returns-in_err-slots-clause-arms c = if_ok_passed _ c.from_residual.result _ c.from_residual.ensures.1

pub returns-in_err-slots-clause-logs : goal.returns-in_err-slots-clause-logs
returns-in_err-slots-clause-logs c = if_ok_passed _ c.from_residual.result _ c.from_residual.ensures.1

pub returns-in_err-slots-clause-detached : goal.returns-in_err-slots-clause-detached
returns-in_err-slots-clause-detached c = if_ok_passed _ c.from_residual.result _ c.from_residual.ensures.1
