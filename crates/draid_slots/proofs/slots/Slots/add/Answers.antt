use Rattle.draid_slots.proofs.Tables.{on_ok_passed, on_err_always}
use Rattle.std.proofs.Common.{◌≡◌, ◌<◌, ◌≤◌, ◌+◌, ◌-◌, ◌∷◌, ◌++◌, [], ℕ, true, List, length, map, set, get_or, arith, refl, sym, ap, ◌∙◌, subst}
use Rattle.std.specs.Prelude.{All, vec_len, vec_capacity}
use Rattle.std.proofs.lemmas.List.{length-map, length-set, get_or-map, map-set}
use Rattle.std.proofs.lemmas.List.Elements.{All-set}
use Rattle.draid_names.specs.declared.arm.Arm.{Arm}
use Rattle.draid_ranges.specs.Numbers.{Numbers}
use Rattle.draid_slots.specs.declared.slot.Slot.{Slot}
use Rattle.draid_slots.specs.Changes.{Attaches}
use Rattle.draid_slots.specs.Faults.{MayAttach}
use Rattle.draid_names.specs.Spares.{IsArm}
use Rattle.draid_slots.specs.Moves.{ArmsWere}
use Rattle.draid_slots.specs.Table.{AreOf, IsPaired, SlotTable, arms_in, first_spares, has_spare, logs_in, next_rooms, table_of}
use Rattle.draid_slots.proofs.Moves.{attached}
use Rattle.draid_slots.proofs.Rooms.{last_room, rooms_append}
use Rattle.draid_slots.proofs.Settled.{arm_settled}
use Rattle.draid_slots.proofs.Spares.{more_once, one_more}
use Rattle.draid_slots.proofs.slots.Slots.add.Goals as goal

pub index_mut-requires : goal.index_mut-requires
index_mut-requires c =
    let s = c.self.inside in
    let slots = s.slots.items in
    let t : SlotTable = table_of s.geometry s.perms s.metaslab slots s.detached.items (next_rooms s.next.items) (vec_capacity s.detached - vec_len s.detached) in
    let M : SlotTable → Type 0 = λ t. MayAttach t c.args.slot c.args.arm in
    let may : MayAttach t c.args.slot c.args.arm = subst M (sym c.self.view_is) c.in_ok-may_attach.ensures.allowed in
    let within : c.args.slot < length (map arms_in slots) = (let there = may.known.slot_there in let many = c.self.invariant.sound.slots.children in omega arith) in
    let below : c.args.slot < length slots = omega (arith, length-map slots arms_in) in
    omega (arith, below, s.slots.ok.0)

pub add_arm-requires-clause-paired : goal.add_arm-requires-clause-paired
add_arm-requires-clause-paired c =
    let s = c.self.inside in
    let slots = s.slots.items in
    let t : SlotTable = table_of s.geometry s.perms s.metaslab slots s.detached.items (next_rooms s.next.items) (vec_capacity s.detached - vec_len s.detached) in
    let M : SlotTable → Type 0 = λ t. MayAttach t c.args.slot c.args.arm in
    let may : MayAttach t c.args.slot c.args.arm = subst M (sym c.self.view_is) c.in_ok-may_attach.ensures.allowed in
    let within : c.args.slot < length (map arms_in slots) = (let there = may.known.slot_there in let many = c.self.invariant.sound.slots.children in omega arith) in
    let below : c.args.slot < length slots = omega (arith, length-map slots arms_in) in
    subst IsPaired (sym c.index_mut.ensures.value) (c.self.invariant.paired c.args.slot c.index_mut.result.now below)

pub add_arm-requires-clause-room : goal.add_arm-requires-clause-room
add_arm-requires-clause-room c =
    let s = c.self.inside in
    let slots = s.slots.items in
    let t : SlotTable = table_of s.geometry s.perms s.metaslab slots s.detached.items (next_rooms s.next.items) (vec_capacity s.detached - vec_len s.detached) in
    let M : SlotTable → Type 0 = λ t. MayAttach t c.args.slot c.args.arm in
    let may : MayAttach t c.args.slot c.args.arm = subst M (sym c.self.view_is) c.in_ok-may_attach.ensures.allowed in
    let within : c.args.slot < length (map arms_in slots) = (let there = may.known.slot_there in let many = c.self.invariant.sound.slots.children in omega arith) in
    let below : c.args.slot < length slots = omega (arith, length-map slots arms_in) in
    let old : Slot = c.index_mut.result.now in
    let R : List Arm → Type 0 = λ arms. length arms < 3 in
    subst R (get_or-map arms_in slots c.args.slot old [] below ∙ ap arms_in (sym c.index_mut.ensures.value)) may.some_room

pub returns-clause-allowed : goal.returns-clause-allowed
returns-clause-allowed c = c.in_ok-may_attach.ensures.allowed

pub returns-clause-count : goal.returns-clause-count
returns-clause-count c =
    let s = c.self.inside in
    let slots = s.slots.items in
    let new : Slot = c.add_arm.new.slot in
    let L : SlotTable → Type 0 = λ t. length (map arms_in (set slots c.args.slot new)) ≡ length t.arms in
    subst L c.self.view_is (length-map (set slots c.args.slot new) arms_in ∙ length-set slots c.args.slot new ∙ sym (length-map slots arms_in))

pub invariant_of-self : goal.invariant_of-self
invariant_of-self c =
    let s = c.self.inside in
    let slots = s.slots.items in
    let old : Slot = c.index_mut.result.now in
    let new : Slot = c.add_arm.new.slot in
    let arm : Arm = record c.args.arm { fresh = true } in
    let t : SlotTable = table_of s.geometry s.perms s.metaslab slots s.detached.items (next_rooms s.next.items) (vec_capacity s.detached - vec_len s.detached) in
    let M : SlotTable → Type 0 = λ t. MayAttach t c.args.slot c.args.arm in
    let may : MayAttach t c.args.slot c.args.arm = subst M (sym c.self.view_is) c.in_ok-may_attach.ensures.allowed in
    let within : c.args.slot < length (map arms_in slots) = (let there = may.known.slot_there in let many = c.self.invariant.sound.slots.children in omega arith) in
    let below : c.args.slot < length slots = omega (arith, length-map slots arms_in) in
    let arms_are : get_or (map arms_in slots) c.args.slot [] ≡ arms_in old = get_or-map arms_in slots c.args.slot old [] below ∙ ap arms_in (sym c.index_mut.ensures.value) in
    let sound = c.self.invariant.sound in
    let S : List (List Arm) → Type 0 = λ arms. AreOf s.geometry s.perms s.metaslab arms s.detached.items in
    let same : map arms_in (set slots c.args.slot new) ≡ set (map arms_in slots) c.args.slot (get_or (map arms_in slots) c.args.slot [] ++ arm ∷ []) =
    map-set arms_in slots c.args.slot new ∙ ap (λ xs. set (map arms_in slots) c.args.slot xs) (c.add_arm.ensures.arms ∙ ap (λ xs. xs ++ arm ∷ []) (sym arms_are)) in
    record {
      paired = All-set IsPaired slots c.args.slot new c.add_arm.ensures.paired c.self.invariant.paired;
      sound = subst S (sym same) (record {
        layout = sound.layout;
        low = sound.low;
        slots = one_more s.geometry (map arms_in slots) s.detached.items c.args.slot arm within may.some_room may.known.spare_there may.idle sound.slots;
      });
    }

pub returns-clause-attached : goal.returns-clause-attached
returns-clause-attached c =
    let s = c.self.inside in
    let slots = s.slots.items in
    let old : Slot = c.index_mut.result.now in
    let new : Slot = c.add_arm.new.slot in
    let log : Numbers = c.fill.new.self in
    let t : SlotTable = table_of s.geometry s.perms s.metaslab slots s.detached.items (next_rooms s.next.items) (vec_capacity s.detached - vec_len s.detached) in
    let now : SlotTable = table_of s.geometry s.perms s.metaslab (set slots c.args.slot new) s.detached.items (next_rooms c.pop.new.self.items) (vec_capacity s.detached - vec_len s.detached) in
    let M : SlotTable → Type 0 = λ t. MayAttach t c.args.slot c.args.arm in
    let may : MayAttach t c.args.slot c.args.arm = subst M (sym c.self.view_is) c.in_ok-may_attach.ensures.allowed in
    let within : c.args.slot < length (map arms_in slots) = (let there = may.known.slot_there in let many = c.self.invariant.sound.slots.children in omega arith) in
    let below : c.args.slot < length slots = omega (arith, length-map slots arms_in) in
    let arms_are : get_or (map arms_in slots) c.args.slot [] ≡ arms_in old = get_or-map arms_in slots c.args.slot old [] below ∙ ap arms_in (sym c.index_mut.ensures.value) in
    let logs_are : get_or (map logs_in slots) c.args.slot [] ≡ logs_in old = get_or-map logs_in slots c.args.slot old [] below ∙ ap logs_in (sym c.index_mut.ensures.value) in
    let paired : IsPaired old = subst IsPaired (sym c.index_mut.ensures.value) (c.self.invariant.paired c.args.slot old below) in
    let left = c.fill.ensures.left in
    let room : c.in-Some.log.room ≤ log.room + 1 = omega arith in
    let A : SlotTable → Type 0 = λ t. Attaches t now c.args.slot c.args.arm c.args.upto in
    subst A c.self.view_is
    (attached s.geometry s.perms s.metaslab slots s.detached.items (next_rooms s.next.items) (next_rooms c.pop.new.self.items) c.in-Some.log.room (vec_capacity s.detached - vec_len s.detached) c.args.slot old new c.args.arm log c.args.upto
    below arms_are logs_are paired.same c.add_arm.ensures.arms c.add_arm.ensures.logs c.fill.ensures.members (rooms_append s.next.items c.pop.new.self.items c.in-Some.log c.in-Some.ensures.items) room)

pub fill-requires-clause-room : goal.fill-requires-clause-room
fill-requires-clause-room c =
    let R : SlotTable → Type 0 = λ t. All (λ (room : ℕ). 0 < room) t.next in
    last_room c.self.inside.next.items c.pop.new.self.items c.in-Some.log c.in-Some.ensures.items (subst R (sym c.self.view_is) c.requires.log)

pub returns-clause-chains : goal.returns-clause-chains
returns-clause-chains c =
    let s = c.self.inside in
    let slots = s.slots.items in
    let old : Slot = c.index_mut.result.now in
    let new : Slot = c.add_arm.new.slot in
    let arm : Arm = record c.args.arm { fresh = true } in
    let t : SlotTable = table_of s.geometry s.perms s.metaslab slots s.detached.items (next_rooms s.next.items) (vec_capacity s.detached - vec_len s.detached) in
    let now : SlotTable = table_of s.geometry s.perms s.metaslab (set slots c.args.slot new) s.detached.items (next_rooms c.pop.new.self.items) (vec_capacity s.detached - vec_len s.detached) in
    let M : SlotTable → Type 0 = λ t. MayAttach t c.args.slot c.args.arm in
    let may : MayAttach t c.args.slot c.args.arm = subst M (sym c.self.view_is) c.in_ok-may_attach.ensures.allowed in
    let within : c.args.slot < length (map arms_in slots) = (let there = may.known.slot_there in let many = c.self.invariant.sound.slots.children in omega arith) in
    let below : c.args.slot < length slots = omega (arith, length-map slots arms_in) in
    let arms_are : get_or (map arms_in slots) c.args.slot [] ≡ arms_in old = get_or-map arms_in slots c.args.slot old [] below ∙ ap arms_in (sym c.index_mut.ensures.value) in
    let are = c.self.invariant.sound.slots in
    let same : map arms_in (set slots c.args.slot new) ≡ set (map arms_in slots) c.args.slot (get_or (map arms_in slots) c.args.slot [] ++ arm ∷ []) =
    map-set arms_in slots c.args.slot new ∙ ap (λ xs. set (map arms_in slots) c.args.slot xs) (c.add_arm.ensures.arms ∙ ap (λ xs. xs ++ arm ∷ []) (sym arms_are)) in
    let all = one_more s.geometry (map arms_in slots) s.detached.items c.args.slot arm within may.some_room may.known.spare_there may.idle are in
    let P : List (List Arm) → Type 0 = λ arms. (slot spare : ℕ) → has_spare (get_or arms slot []) spare ≡ true → IsArm s.geometry.spec.children s.geometry.spec.spares (first_spares t) slot spare in
    let O : SlotTable → Type 0 = λ t. ArmsWere t now in
    subst O c.self.view_is (subst P (sym same) (λ slot spare h.
    arm_settled s.geometry _ (map arms_in slots) s.detached.items (first_spares t) slot spare all (λ k. refl)
    (λ other there. more_once s.geometry (map arms_in slots) s.detached.items c.args.slot arm within may.idle are spare slot other h there) h))

pub returns-in_err-may_attach-clause-allowed : goal.returns-in_err-may_attach-clause-allowed
returns-in_err-may_attach-clause-allowed c = on_ok_passed _ c.from_residual.result _ c.from_residual.ensures.1

pub returns-in_err-may_attach-clause-attached : goal.returns-in_err-may_attach-clause-attached
returns-in_err-may_attach-clause-attached c = on_ok_passed _ c.from_residual.result _ c.from_residual.ensures.1

pub returns-in_err-may_attach-clause-count : goal.returns-in_err-may_attach-clause-count
returns-in_err-may_attach-clause-count c = on_ok_passed _ c.from_residual.result _ c.from_residual.ensures.1

pub returns-in_err-may_attach-clause-chains : goal.returns-in_err-may_attach-clause-chains
returns-in_err-may_attach-clause-chains c = on_ok_passed _ c.from_residual.result _ c.from_residual.ensures.1

pub returns-in_err-may_attach-clause-same : goal.returns-in_err-may_attach-clause-same
returns-in_err-may_attach-clause-same c = on_err_always c.from_residual.result _ refl

pub fill-requires-clause-range : goal.fill-requires-clause-range
fill-requires-clause-range c = c.requires.range

pub same-self : goal.same-self
same-self c = refl
