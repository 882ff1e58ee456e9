-- Where the arm of a name is.
use Rattle.std.proofs.Common.{◌≡◌, ◌<◌, ◌∙◌, inl, inr, [], ℕ, Option, Some, None, IfNone, arith, refl, sym, ap, length}
use Rattle.std.specs.Prelude.{slice_get}
use Rattle.std.proofs.lemmas.Bool.{cases_lt}
use Rattle.std.proofs.lemmas.List.{get_or_past}
use Rattle.draid_names.specs.declared.arm.ArmAt.{ArmAt}
use Rattle.draid_names.specs.declared.arm.ArmKind.{ArmKind}
use Rattle.draid_machine.specs.declared.names.ArmName.{ArmName}
use Rattle.draid_machine.specs.Names.{named}
use Rattle.draid_machine.proofs.Small.{none_some}
use Rattle.draid_slots.specs.States.{name_of}
use Rattle.draid_slots.specs.Table.{IsArmOf, IsTable, SlotTable, arm_at}
use Rattle.draid_disks.specs.Disks.{IsNamed}
use Rattle.draid_pool.proofs.Arms.{same_names}

none_too : (o : Option ArmAt) (P Q : Type 0) → (P → Q) → IfNone o P → IfNone o Q
none_too None P Q f p = f p
none_too (Some at) P Q f p = tt

-- no arm has the name where none is of its kind and number
pub none_called : (slots : SlotTable) (k : ArmKind) (number : ℕ) (name : ArmName) (o : Option ArmAt) → name ≡ named k number → IfNone o ((at : ArmAt) → IsArmOf k number (arm_at slots at) → ⊥)
    → IfNone o ((at : ArmAt) → IsNamed slots at name → ⊥)
none_called slots k number name o is = none_too o ((at : ArmAt) → IsArmOf k number (arm_at slots at) → ⊥) ((at : ArmAt) → IsNamed slots at name → ⊥) (λ none at called.
    (let same : name_of called.0 ≡ named k number = called.2 ∙ is in
    let parts = same_names called.0.kind k called.0.number number same in
    none at (called.0, called.1, parts.0, parts.1)))

-- an arm is in one of the slots
pub slot_of : (slots : SlotTable) (at : ArmAt) (name : ArmName) → IsTable slots → IsNamed slots at name → at.slot < slots.geometry.spec.children
slot_of slots at name sound called = elim (cases_lt at.slot (length slots.arms)) [
  | inl less ↦ (let count = sound.slots.children in omega (arith, less, count))
  | inr past ↦ absurd (none_some None called.0 refl (ap (λ arms. slice_get arms at.arm) (sym (get_or_past slots.arms at.slot [] past)) ∙ called.1))
]
