use Rattle.draid_slots.proofs.Tables.{on_err_always}
use Rattle.draid_slots.proofs.Tables.{on_ok_passed}
use Rattle.std.proofs.Common.{◌≡◌, ◌<◌, ◌+◌, ◌-◌, ◌∷◌, ◌++◌, [], ℕ, true, List, length, map, set, get_or, arith, refl, sym, ap, ◌∙◌, subst}
use Rattle.std.specs.Prelude.{remove, vec_len, vec_capacity}
use Rattle.std.proofs.lemmas.List.{length-map, length-set, map-set}
use Rattle.std.proofs.lemmas.List.Elements.{All-set}
use Rattle.draid_names.specs.declared.arm.Arm.{Arm}
use Rattle.draid_slots.specs.declared.slot.Detached.{Detached}
use Rattle.draid_slots.specs.declared.slot.Slot.{Slot}
use Rattle.draid_slots.specs.Changes.{Detaches}
use Rattle.draid_slots.specs.Faults.{MayDetach}
use Rattle.draid_names.specs.Spares.{IsArm}
use Rattle.draid_slots.specs.Moves.{ArmsWere}
use Rattle.draid_slots.specs.Table.{AreOf, IsPaired, SlotTable, arms_in, first_spares, has_spare, next_rooms, table_of}
use Rattle.draid_slots.proofs.Moves.{detached_from}
use Rattle.draid_slots.proofs.Settled.{arm_settled}
use Rattle.draid_slots.proofs.Spares.{gone_of, less_once, one_less}
use Rattle.draid_slots.proofs.Tables.{IsPlace, its_place, slot_there}
use Rattle.draid_slots.proofs.slots.Slots.take.Goals as goal

pub index_mut-requires : goal.index_mut-requires
index_mut-requires c =
    let s = c.self.inside in
    let slots = s.slots.items in
    let t : SlotTable = table_of s.geometry s.perms s.metaslab slots s.detached.items (next_rooms s.next.items) (vec_capacity s.detached - vec_len s.detached) in
    let M : SlotTable → Type 0 = λ t. MayDetach t c.args.at in
    let may : MayDetach t c.args.at = subst M (sym c.self.view_is) c.in_ok-may_detach.ensures.allowed in
    let below = slot_there (map arms_in slots) c.args.at.slot c.args.at.arm may.there in
    omega (arith, below, length-map slots arms_in, s.slots.ok.0)

pub remove_arm-arm-requires-clause-paired : goal.remove_arm-arm-requires-clause-paired
remove_arm-arm-requires-clause-paired c =
    let s = c.self.inside in
    let slots = s.slots.items in
    let t : SlotTable = table_of s.geometry s.perms s.metaslab slots s.detached.items (next_rooms s.next.items) (vec_capacity s.detached - vec_len s.detached) in
    let M : SlotTable → Type 0 = λ t. MayDetach t c.args.at in
    let may : MayDetach t c.args.at = subst M (sym c.self.view_is) c.in_ok-may_detach.ensures.allowed in
    let old : Slot = c.index_mut.result.now in
    let place : IsPlace slots c.args.at old = its_place slots c.args.at old c.self.invariant.paired may.there c.index_mut.ensures.value in
    place.paired

pub remove_arm-arm-requires-clause-there : goal.remove_arm-arm-requires-clause-there
remove_arm-arm-requires-clause-there c =
    let s = c.self.inside in
    let slots = s.slots.items in
    let t : SlotTable = table_of s.geometry s.perms s.metaslab slots s.detached.items (next_rooms s.next.items) (vec_capacity s.detached - vec_len s.detached) in
    let M : SlotTable → Type 0 = λ t. MayDetach t c.args.at in
    let may : MayDetach t c.args.at = subst M (sym c.self.view_is) c.in_ok-may_detach.ensures.allowed in
    let old : Slot = c.index_mut.result.now in
    let place : IsPlace slots c.args.at old = its_place slots c.args.at old c.self.invariant.paired may.there c.index_mut.ensures.value in
    place.arm_within

pub push_reserved-requires : goal.push_reserved-requires
push_reserved-requires c =
    let s = c.self.inside in
    let P : SlotTable → Type 0 = λ t. 0 < t.places in
    let room : 0 < vec_capacity s.detached - vec_len s.detached = subst P (sym c.self.view_is) c.requires.room in
    omega (arith, room)

pub returns-clause-allowed : goal.returns-clause-allowed
returns-clause-allowed c = c.in_ok-may_detach.ensures.allowed

pub returns-clause-count : goal.returns-clause-count
returns-clause-count c =
    let s = c.self.inside in
    let slots = s.slots.items in
    let new : Slot = c.remove_arm-arm.new.slot in
    let L : SlotTable → Type 0 = λ t. length (map arms_in (set slots c.args.at.slot new)) ≡ length t.arms in
    subst L c.self.view_is (length-map (set slots c.args.at.slot new) arms_in ∙ length-set slots c.args.at.slot new ∙ sym (length-map slots arms_in))

pub invariant_of-self : goal.invariant_of-self
invariant_of-self c =
    let s = c.self.inside in
    let slots = s.slots.items in
    let old : Slot = c.index_mut.result.now in
    let new : Slot = c.remove_arm-arm.new.slot in
    let arm : Arm = c.remove_arm-arm.result in
    let t : SlotTable = table_of s.geometry s.perms s.metaslab slots s.detached.items (next_rooms s.next.items) (vec_capacity s.detached - vec_len s.detached) in
    let M : SlotTable → Type 0 = λ t. MayDetach t c.args.at in
    let may : MayDetach t c.args.at = subst M (sym c.self.view_is) c.in_ok-may_detach.ensures.allowed in
    let place : IsPlace slots c.args.at old = its_place slots c.args.at old c.self.invariant.paired may.there c.index_mut.ensures.value in
    let within : c.args.at.slot < length (map arms_in slots) = (let below = place.slot_within in omega (arith, length-map slots arms_in)) in
    let sound = c.self.invariant.sound in
    let is : arm ≡ get_or (get_or (map arms_in slots) c.args.at.slot []) c.args.at.arm arm = c.remove_arm-arm.ensures.arm ∙ ap (λ xs. get_or xs c.args.at.arm arm) (sym place.arms_are) in
    let S : List (List Arm) → List Detached → Type 0 = λ arms detached. AreOf s.geometry s.perms s.metaslab arms detached in
    let same : map arms_in (set slots c.args.at.slot new) ≡ set (map arms_in slots) c.args.at.slot (remove (get_or (map arms_in slots) c.args.at.slot []) c.args.at.arm) =
    map-set arms_in slots c.args.at.slot new ∙ ap (λ xs. set (map arms_in slots) c.args.at.slot xs) (c.remove_arm-arm.ensures.arms ∙ ap (λ xs. remove xs c.args.at.arm) (sym place.arms_are)) in
    let sound_now : AreOf s.geometry s.perms s.metaslab (set (map arms_in slots) c.args.at.slot (remove (get_or (map arms_in slots) c.args.at.slot []) c.args.at.arm)) (s.detached.items ++ gone_of arm c.args.at.slot c.args.group ∷ []) =
    record {
      layout = sound.layout;
      low = sound.low;
      slots = one_less s.geometry (map arms_in slots) s.detached.items c.args.at.slot c.args.at.arm c.args.group arm within may.there is may.leaf_beside sound.slots;
    } in
    record {
      paired = All-set IsPaired slots c.args.at.slot new c.remove_arm-arm.ensures.paired c.self.invariant.paired;
      sound = subst (S (map arms_in (set slots c.args.at.slot new))) (sym c.push_reserved.ensures.items) (subst (λ arms. S arms (s.detached.items ++ gone_of arm c.args.at.slot c.args.group ∷ [])) (sym same) sound_now);
    }

pub returns-clause-detached : goal.returns-clause-detached
returns-clause-detached c =
    let s = c.self.inside in
    let slots = s.slots.items in
    let old : Slot = c.index_mut.result.now in
    let new : Slot = c.remove_arm-arm.new.slot in
    let arm : Arm = c.remove_arm-arm.result in
    let gone = c.push_reserved.new.self in
    let t : SlotTable = table_of s.geometry s.perms s.metaslab slots s.detached.items (next_rooms s.next.items) (vec_capacity s.detached - vec_len s.detached) in
    let M : SlotTable → Type 0 = λ t. MayDetach t c.args.at in
    let may : MayDetach t c.args.at = subst M (sym c.self.view_is) c.in_ok-may_detach.ensures.allowed in
    let place : IsPlace slots c.args.at old = its_place slots c.args.at old c.self.invariant.paired may.there c.index_mut.ensures.value in
    let P : SlotTable → Type 0 = λ t. 0 < t.places in
    let room : 0 < vec_capacity s.detached - vec_len s.detached = subst P (sym c.self.view_is) c.requires.room in
    let len = c.push_reserved.ensures.len in
    let capacity = c.push_reserved.ensures.capacity in
    let left : (vec_capacity gone - vec_len gone) + 1 ≡ vec_capacity s.detached - vec_len s.detached = omega arith in
    let D : SlotTable → Type 0 = λ t.
    Detaches t (table_of s.geometry s.perms s.metaslab (set slots c.args.at.slot new) gone.items (next_rooms s.next.items) (vec_capacity gone - vec_len gone)) c.args.at c.args.group in
    subst D c.self.view_is
    (detached_from s.geometry s.perms s.metaslab slots s.detached.items gone.items (next_rooms s.next.items) (vec_capacity s.detached - vec_len s.detached) (vec_capacity gone - vec_len gone) c.args.at old new arm c.args.group
    place c.remove_arm-arm.ensures.arms c.remove_arm-arm.ensures.logs c.remove_arm-arm.ensures.arm c.push_reserved.ensures.items left)

pub returns-clause-chains : goal.returns-clause-chains
returns-clause-chains c =
    let s = c.self.inside in
    let slots = s.slots.items in
    let old : Slot = c.index_mut.result.now in
    let new : Slot = c.remove_arm-arm.new.slot in
    let arm : Arm = c.remove_arm-arm.result in
    let gone = c.push_reserved.new.self in
    let t : SlotTable = table_of s.geometry s.perms s.metaslab slots s.detached.items (next_rooms s.next.items) (vec_capacity s.detached - vec_len s.detached) in
    let now : SlotTable = table_of s.geometry s.perms s.metaslab (set slots c.args.at.slot new) gone.items (next_rooms s.next.items) (vec_capacity gone - vec_len gone) in
    let M : SlotTable → Type 0 = λ t. MayDetach t c.args.at in
    let may : MayDetach t c.args.at = subst M (sym c.self.view_is) c.in_ok-may_detach.ensures.allowed in
    let place : IsPlace slots c.args.at old = its_place slots c.args.at old c.self.invariant.paired may.there c.index_mut.ensures.value in
    let within : c.args.at.slot < length (map arms_in slots) = (let below = place.slot_within in omega (arith, length-map slots arms_in)) in
    let are = c.self.invariant.sound.slots in
    let is : arm ≡ get_or (get_or (map arms_in slots) c.args.at.slot []) c.args.at.arm arm = c.remove_arm-arm.ensures.arm ∙ ap (λ xs. get_or xs c.args.at.arm arm) (sym place.arms_are) in
    let same : map arms_in (set slots c.args.at.slot new) ≡ set (map arms_in slots) c.args.at.slot (remove (get_or (map arms_in slots) c.args.at.slot []) c.args.at.arm) =
    map-set arms_in slots c.args.at.slot new ∙ ap (λ xs. set (map arms_in slots) c.args.at.slot xs) (c.remove_arm-arm.ensures.arms ∙ ap (λ xs. remove xs c.args.at.arm) (sym place.arms_are)) in
    let all = one_less s.geometry (map arms_in slots) s.detached.items c.args.at.slot c.args.at.arm c.args.group arm within may.there is may.leaf_beside are in
    let P : List (List Arm) → Type 0 = λ arms. (slot spare : ℕ) → has_spare (get_or arms slot []) spare ≡ true → IsArm s.geometry.spec.children s.geometry.spec.spares (first_spares t) slot spare in
    let O : SlotTable → Type 0 = λ t. ArmsWere t now in
    subst O c.self.view_is (subst P (sym same) (λ slot spare h.
    arm_settled s.geometry _ (map arms_in slots) _ (first_spares t) slot spare all (λ k. refl)
    (λ other there. less_once s.geometry (map arms_in slots) s.detached.items c.args.at.slot c.args.at.arm c.args.group arm within may.there is are spare slot other h there) h))

pub same-self : goal.same-self
same-self c = refl

pub returns-in_err-may_detach-clause-allowed : goal.returns-in_err-may_detach-clause-allowed
returns-in_err-may_detach-clause-allowed c = on_ok_passed _ c.from_residual.result _ c.from_residual.ensures.1

pub returns-in_err-may_detach-clause-detached : goal.returns-in_err-may_detach-clause-detached
returns-in_err-may_detach-clause-detached c = on_ok_passed _ c.from_residual.result _ c.from_residual.ensures.1

pub returns-in_err-may_detach-clause-count : goal.returns-in_err-may_detach-clause-count
returns-in_err-may_detach-clause-count c = on_ok_passed _ c.from_residual.result _ c.from_residual.ensures.1

pub returns-in_err-may_detach-clause-chains : goal.returns-in_err-may_detach-clause-chains
returns-in_err-may_detach-clause-chains c = on_ok_passed _ c.from_residual.result _ c.from_residual.ensures.1

pub returns-in_err-may_detach-clause-same : goal.returns-in_err-may_detach-clause-same
returns-in_err-may_detach-clause-same c = on_err_always c.from_residual.result _ refl

pub overflow_cast-at : goal.overflow_cast-at
overflow_cast-at c = omega arith

pub overflow_cast-at-2 : goal.overflow_cast-at-2
overflow_cast-at-2 c = omega arith
