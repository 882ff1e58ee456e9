use Rattle.std.proofs.Common.{◌≤◌, List, map, length, sym, subst}
use Rattle.std.specs.Prelude.{All, IfNone, slice_get, slice_index_or, []}
use Rattle.draid_names.specs.declared.arm.ArmAt.{ArmAt}
use Rattle.draid_slots.specs.declared.slot.Slot.{Slot}
use Rattle.draid_slots.specs.Table.{IsArmOf, SlotTable, arm_at, arms_in}
use Rattle.draid_slots.proofs.Settled.{each_slot}
use Rattle.draid_slots.proofs.slots.Slots.find.Goals as goal

pub find_arm-requires-clause-arms : goal.find_arm-requires-clause-arms
find_arm-requires-clause-arms c =
    let A : List Slot → Type 0 = λ slots. All (λ (slot : Slot). length (arms_in slot) ≤ 3) slots in
    subst A (sym c.deref.ensures.value) (λ k d below. (each_slot c.self.inside.geometry c.self.inside.slots.items c.self.inside.detached.items k d c.self.invariant.sound.slots below).most)

pub returns-clause-none : goal.returns-clause-none
returns-clause-none c =
    let F : List Slot → Type 0 = λ slots. IfNone c.find_arm.result ((at : ArmAt) → ¬ (IsArmOf c.args.kind c.args.number (slice_get (slice_index_or (map arms_in slots) at.slot []) at.arm))) in
    let T : SlotTable → Type 0 = λ t. IfNone c.find_arm.result ((at : ArmAt) → ¬ (IsArmOf c.args.kind c.args.number (arm_at t at))) in
    subst T c.self.view_is (subst F c.deref.ensures.value c.find_arm.ensures.none)
