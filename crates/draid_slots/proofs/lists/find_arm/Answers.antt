use Rattle.std.proofs.Common.{◌≡◌, ◌≤◌, [], List, length, map, get_or, arith, ap, sym, ◌∙◌, subst, inl, inr}
use Rattle.std.specs.Prelude.{slice_get}
use Rattle.std.proofs.Math.ListN.{get_or-eq_default}
use Rattle.std.proofs.lemmas.Bool.{cases_eq, cases_lt}
use Rattle.std.proofs.lemmas.List.{get_or-map, length-map}
use Rattle.std.proofs.lemmas.Option.{slice_get_past}
use Rattle.draid_names.specs.declared.arm.Arm.{Arm}
use Rattle.draid_slots.specs.Table.{IsArmOf, arms_in}
use Rattle.draid_slots.proofs.Settled.{none_some}
use Rattle.draid_slots.proofs.lists.find_arm.Goals as goal

pub loop-slot-preserved : goal.loop-slot-preserved
loop-slot-preserved c = λ at below h. elim (cases_eq at.slot c.loop-slot.slot) [
  | inl same ↦
      let arms : get_or (map arms_in c.args.slots.now) at.slot [] ≡ c.deref.result.now =
      ap (λ k. get_or (map arms_in c.args.slots.now) k []) same
      ∙ get_or-map arms_in c.args.slots.now c.loop-slot.slot c.index-slots-slot.result [] (omega arith)
      ∙ sym c.deref.ensures.value in
      let P : List Arm → Type 0 = λ arms. IsArmOf c.args.kind c.args.number (slice_get arms at.arm) in
      c.in_default.ensures.none at.arm (subst P arms h)
  | inr differs ↦ c.loop-slot.invariant at (omega arith) h
]

pub returns-clause-none : goal.returns-clause-none
returns-clause-none c = λ at h. elim (cases_lt at.slot (length c.args.slots.now)) [
  | inl below ↦ c.loop-slot.invariant at (omega arith) h
  | inr past ↦
      let out : length (map arms_in c.args.slots.now) ≤ at.slot = omega (arith, length-map c.args.slots.now arms_in) in
      let none = ap (λ xs. slice_get xs at.arm) (get_or-eq_default (map arms_in c.args.slots.now) [] out) in
      none_some _ h.0 (sym (none ∙ slice_get_past [] at.arm (omega arith)) ∙ h.1)
]

pub offset_bounds-slots-slot : goal.offset_bounds-slots-slot
offset_bounds-slots-slot c = omega arith

pub bounds-slots-slot : goal.bounds-slots-slot
bounds-slots-slot c = omega arith

pub overflow_cast-result : goal.overflow_cast-result
overflow_cast-result c = omega arith
