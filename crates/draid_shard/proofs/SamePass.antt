-- A pass is as it was where the slots have the same arms.
use Rattle.std.proofs.Common.{◌≡◌, ◌<◌, ℕ, List, [], Option, Some, None, IfSome, sym, subst, length, ◌∷◌, refl, slice_get}
use Rattle.std.specs.Prelude.{slice_index_or, option_map}
use Rattle.std.proofs.lemmas.List.Elements.{All-weaker}
use Rattle.draid_names.specs.declared.arm.Arm.{Arm}
use Rattle.draid_names.specs.declared.arm.ArmAt.{ArmAt}
use Rattle.draid_pass.specs.declared.pass.Pass.{Pass}
use Rattle.draid_slots.specs.Table.{SlotTable, arms_of}
use Rattle.draid_slots.specs.States.{HoldsPass, name_of, names_at, pass_in}
use Rattle.draid_machine.specs.declared.names.ArmName.{ArmName}

pub names_same : (old new : SlotTable) (ats : List ArmAt) → new.arms ≡ old.arms → names_at new ats ≡ names_at old ats
names_same old new [] same = refl
names_same old new (at ∷ ats) same =
    λ i. elim (slice_get (slice_index_or (same i) at.slot []) at.arm) as (λ o. List ArmName) [ None ↦ names_same old new ats same i | Some arm ↦ name_of arm ∷ names_same old new ats same i ]

pub pass_same : (old new : SlotTable) (p : Option Pass) → new.arms ≡ old.arms → option_map (pass_in old) p ≡ option_map (pass_in new) p
pass_same old new None same = refl
pass_same old new (Some p) same = λ i. Some (record {
  number = p.number;
  kind = p.kind;
  targets = sym (names_same old new p.targets.items same) i;
  max = p.max;
  next = p.at;
  errors = p.errors;
  running = p.running;
})

-- it is held as before
pub pass_held : (slots new : SlotTable) (last : ℕ) (pass : Option Pass) → new.arms ≡ slots.arms → IfSome pass (HoldsPass slots last) → IfSome pass (HoldsPass new last)
pass_held slots new last None same held = tt
pass_held slots new last (Some p) same held = record {
  current = record {
    number = held.current.number;
    targets = All-weaker (λ (place : ArmAt). place.arm < length (arms_of slots place.slot)) (λ (place : ArmAt). place.arm < length (arms_of new place.slot))
        (λ place less. subst (λ (all : List (List Arm)). place.arm < length (slice_index_or all place.slot [])) (sym same) less) p.targets.items held.current.targets;
  };
  ascending = held.ascending;
  some_max = held.some_max;
}
