use Rattle.draid_slots.proofs.Tables.{if_ok_passed}
use Rattle.draid_slots.proofs.Tables.{if_ok_passed}
use Rattle.std.proofs.Common.{◌≡◌, ◌≤◌, ◌<◌, ◌∷◌, ◌++◌, [], List, map, length, arith, ap, sym, refl, ◌∙◌, subst, Vec, Global}
use Rattle.std.specs.Prelude.{All, remove}
use Rattle.std.proofs.lemmas.List.{get_or-map, length-map}
use Rattle.std.proofs.lemmas.List.Elements.{All-append}
use Rattle.draid_names.specs.declared.arm.Arm.{Arm}
use Rattle.draid_ranges.specs.Numbers.{Numbers}
use Rattle.draid_slots.specs.declared.slot.Slot.{Slot}
use Rattle.draid_slots.specs.Table.{IsPaired, arms_in, arms_listed, logs_in, logs_listed}
use Rattle.draid_slots.proofs.Mapped.{all_moved, none_left, All-rest, moved, one}
use Rattle.draid_slots.proofs.lists.slots_of.Goals as goal

arms_rest : (lists : List (Vec (Arm × Numbers) Global)) → remove (arms_listed lists) 0 ≡ arms_listed (remove lists 0)
arms_rest [] = refl
arms_rest (x ∷ xs) = refl

pub loop-alloc-preserved : goal.loop-alloc-preserved
loop-alloc-preserved c =
    let front = c.loop-alloc.slots.items in
    let rest = c.loop-alloc.listed.items in
    let slot : Slot = c.in_ok-slot_of.field-0 in
    let list : Vec (Arm × Numbers) Global = c.remove.result in
    let some : 0 < length rest = omega arith in
    let P : List Slot → Type 0 = λ slots. All IsPaired slots in
    let S : List (List Arm) → Type 0 = λ lists. All (λ arms. length arms ≤ 3) lists in
    let A : List (Vec (Arm × Numbers) Global) → List Slot → Type 0 = λ lists slots. map arms_in slots ++ arms_listed lists ≡ arms_listed c.args.listed.items in
    let L : List (Vec (Arm × Numbers) Global) → List Slot → Type 0 = λ lists slots. map logs_in slots ++ logs_listed lists ≡ logs_listed c.args.listed.items in
    let pushed = c.in_ok-push.ensures.items in
    let removed = c.remove.ensures.items in
    record {
      paired = subst P (sym pushed) (All-append IsPaired front (slot ∷ []) c.loop-alloc.invariant.paired (one IsPaired slot c.in_ok-slot_of.ensures.paired));
      short = subst S (ap arms_listed (sym removed)) (subst S (arms_rest rest) (All-rest (λ arms. length arms ≤ 3) (arms_listed rest) c.loop-alloc.invariant.short));
      arms = subst (A c.remove.new.self.items) (sym pushed) (subst (λ lists. A lists (front ++ slot ∷ [])) (sym removed)
          (moved arms_in (λ (list : Vec (Arm × Numbers) Global). map (λ (pair : Arm × Numbers). pair.0) list.items) front slot rest list _ some c.loop-alloc.invariant.arms
          (c.in_ok-slot_of.ensures.arms ∙ ap (λ (list : Vec (Arm × Numbers) Global). map (λ (pair : Arm × Numbers). pair.0) list.items) c.remove.ensures.value)));
      logs = subst (L c.remove.new.self.items) (sym pushed) (subst (λ lists. L lists (front ++ slot ∷ [])) (sym removed)
          (moved logs_in (λ (list : Vec (Arm × Numbers) Global). map (λ (pair : Arm × Numbers). pair.1) list.items) front slot rest list _ some c.loop-alloc.invariant.logs
          (c.in_ok-slot_of.ensures.logs ∙ ap (λ (list : Vec (Arm × Numbers) Global). map (λ (pair : Arm × Numbers). pair.1) list.items) c.remove.ensures.value)));
    }

pub slot_of-requires : goal.slot_of-requires
slot_of-requires c =
    let rest = c.loop-alloc.listed.items in
    let list : Vec (Arm × Numbers) Global = c.remove.result in
    let some : 0 < length rest = omega arith in
    let f : Vec (Arm × Numbers) Global → List Arm = λ list. map (λ (pair : Arm × Numbers). pair.0) list.items in
    let here = c.loop-alloc.invariant.short 0 [] (omega (arith, length-map rest f)) in
    let is = get_or-map f rest 0 list [] some ∙ ap f (sym c.remove.ensures.value) in
    omega (arith, here, ap length is, length-map list.items (λ (pair : Arm × Numbers). pair.0))

pub returns-in_err-slot_of-clause-paired : goal.returns-in_err-slot_of-clause-paired
returns-in_err-slot_of-clause-paired c = if_ok_passed _ c.from_residual-in_err-slot_of.result _ c.from_residual-in_err-slot_of.ensures.1

pub returns-in_err-slot_of-clause-arms : goal.returns-in_err-slot_of-clause-arms
returns-in_err-slot_of-clause-arms c = if_ok_passed _ c.from_residual-in_err-slot_of.result _ c.from_residual-in_err-slot_of.ensures.1

pub returns-in_err-slot_of-clause-logs : goal.returns-in_err-slot_of-clause-logs
returns-in_err-slot_of-clause-logs c = if_ok_passed _ c.from_residual-in_err-slot_of.result _ c.from_residual-in_err-slot_of.ensures.1

pub returns-in_err-push-clause-paired : goal.returns-in_err-push-clause-paired
returns-in_err-push-clause-paired c = if_ok_passed _ c.from_residual-in_err-push.result _ c.from_residual-in_err-push.ensures.1

pub returns-in_err-push-clause-arms : goal.returns-in_err-push-clause-arms
returns-in_err-push-clause-arms c = if_ok_passed _ c.from_residual-in_err-push.result _ c.from_residual-in_err-push.ensures.1

pub returns-in_err-push-clause-logs : goal.returns-in_err-push-clause-logs
returns-in_err-push-clause-logs c = if_ok_passed _ c.from_residual-in_err-push.result _ c.from_residual-in_err-push.ensures.1

pub returns-clause-paired : goal.returns-clause-paired
returns-clause-paired c = c.loop-alloc.invariant.paired

pub returns-clause-arms : goal.returns-clause-arms
returns-clause-arms c =
    let none = none_left _ _ c.is_empty.ensures c.loop-alloc-test.false in
    all_moved (λ (list : Vec (Arm × Numbers) Global). map (λ (pair : Arm × Numbers). pair.0) list.items) c.loop-alloc.listed.items (map arms_in c.loop-alloc.slots.items) _ (omega (arith, none, c.loop-alloc.listed.ok.0))
    c.loop-alloc.invariant.arms

pub returns-clause-logs : goal.returns-clause-logs
returns-clause-logs c =
    let none = none_left _ _ c.is_empty.ensures c.loop-alloc-test.false in
    all_moved (λ (list : Vec (Arm × Numbers) Global). map (λ (pair : Arm × Numbers). pair.1) list.items) c.loop-alloc.listed.items (map logs_in c.loop-alloc.slots.items) _ (omega (arith, none, c.loop-alloc.listed.ok.0))
    c.loop-alloc.invariant.logs

pub loop-alloc-smaller : goal.loop-alloc-smaller
loop-alloc-smaller c = let left = c.remove.ensures.len in omega (arith, left, c.remove.new.self.ok.0, c.loop-alloc.listed.ok.0)

pub returns-in_err-slots-clause-paired : goal.returns-in_err-slots-clause-paired
returns-in_err-slots-clause-paired c = if_ok_passed _ c.from_residual.result _ c.from_residual.ensures.1

pub returns-in_err-slots-clause-arms : goal.returns-in_err-slots-clause-arms
returns-in_err-slots-clause-arms c = if_ok_passed _ c.from_residual.result _ c.from_residual.ensures.1

pub returns-in_err-slots-clause-logs : goal.returns-in_err-slots-clause-logs
returns-in_err-slots-clause-logs c = if_ok_passed _ c.from_residual.result _ c.from_residual.ensures.1
