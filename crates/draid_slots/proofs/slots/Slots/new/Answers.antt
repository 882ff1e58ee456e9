use Rattle.draid_slots.proofs.Tables.{if_ok_passed}
use Rattle.std.proofs.Common.{List, map, refl, sym, ◌∙◌, subst}
use Rattle.std.proofs.lemmas.List.{length-map}
use Rattle.draid_slots.specs.declared.slot.Detached.{Detached}
use Rattle.draid_slots.specs.Table.{AreKept, arms_in}
use Rattle.draid_slots.proofs.Spares.{new_slots}
use Rattle.draid_slots.proofs.slots.Slots.new.Goals as goal

pub invariant_of-result : goal.invariant_of-result
invariant_of-result c =
    let slots = c.in_ok-slots.slots.items in
    let D : List Detached → Type 0 = λ detached. AreKept c.args.geometry c.args.perms c.args.metaslab slots detached in
    subst D (sym c.new.ensures.items) (record {
      paired = c.in_ok-slots.ensures.paired;
      sound = record {
        layout = c.requires.layout;
        low = c.requires.metaslab;
        slots = new_slots c.args.geometry (map arms_in slots) (length-map slots arms_in ∙ c.in_ok-slots.ensures.count) c.in_ok-slots.ensures.arms;
      };
    })

pub returns-clause-of : goal.returns-clause-of
returns-clause-of c = record { geometry_is = refl; perms_are = refl; metaslab_is = refl }

pub returns-clause-new : goal.returns-clause-new
returns-clause-new c = record {
  count = length-map c.in_ok-slots.slots.items arms_in ∙ c.in_ok-slots.ensures.count;
  arms_are = c.in_ok-slots.ensures.arms;
  missed_none = c.in_ok-slots.ensures.logs;
  detached_none = c.new.ensures.items;
}

pub returns-in_err-slots-clause-of : goal.returns-in_err-slots-clause-of
returns-in_err-slots-clause-of c = if_ok_passed _ c.from_residual.result _ c.from_residual.ensures.1

pub returns-in_err-slots-clause-new : goal.returns-in_err-slots-clause-new
returns-in_err-slots-clause-new c = if_ok_passed _ c.from_residual.result _ c.from_residual.ensures.1
