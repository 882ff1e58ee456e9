use Rattle.draid_slots.proofs.Spares.{spares_below}
use Rattle.std.proofs.Common.{◌≡◌, ◌<◌, ◌-◌, [], true, List, Some, length, map, get_or, arith, sym, ap, ◌∙◌, subst}
use Rattle.std.specs.Prelude.{cond, vec_len, vec_capacity}
use Rattle.std.proofs.lemmas.List.{get_or-map, length-map}
use Rattle.draid_names.specs.declared.arm.Arm.{Arm}
use Rattle.draid_slots.specs.declared.slot.Slot.{Slot}
use Rattle.draid_slots.specs.Reading.{first_leaf, holder, holder_of, spare_slot}
use Rattle.draid_slots.specs.Table.{IsThere, SlotTable, arms_in, arms_of, has_leaf, has_spare, next_rooms, table_of}
use Rattle.draid_slots.proofs.Settled.{its_own}
use Rattle.draid_slots.proofs.Tables.{IsPlace, arm_found, its_place, slot_there}
use Rattle.draid_slots.proofs.slots.Slots.holder.Goals as goal

pub index-requires : goal.index-requires
index-requires c =
    let s = c.self.inside in
    let slots = s.slots.items in
    let T : SlotTable → Type 0 = λ t. IsThere t c.args.at in
    let there : c.args.at.arm < length (get_or (map arms_in slots) c.args.at.slot []) = subst T (sym c.self.view_is) c.requires.there in
    let below = slot_there (map arms_in slots) c.args.at.slot c.args.at.arm there in
    omega (arith, below, length-map slots arms_in, s.slots.ok.0)

pub index-arm-requires : goal.index-arm-requires
index-arm-requires c =
    let s = c.self.inside in
    let slots = s.slots.items in
    let T : SlotTable → Type 0 = λ t. IsThere t c.args.at in
    let there : c.args.at.arm < length (get_or (map arms_in slots) c.args.at.slot []) = subst T (sym c.self.view_is) c.requires.there in
    let slot : Slot = c.index.result.now in
    let place : IsPlace slots c.args.at slot = its_place slots c.args.at slot c.self.invariant.paired there c.index.ensures in
    let below = place.arm_within in
    omega (arith, below, slot.arms.ok.0)

pub returns-then-is_leaf : goal.returns-then-is_leaf
returns-then-is_leaf c =
    let s = c.self.inside in
    let slots = s.slots.items in
    let slot : Slot = c.index.result.now in
    let arm : Arm = c.index-arm.result.now in
    let T : SlotTable → Type 0 = λ t. IsThere t c.args.at in
    let H : SlotTable → Type 0 = λ t. holder t c.args.at c.args.slice ≡ Some arm in
    let place : IsPlace slots c.args.at slot = its_place slots c.args.at slot c.self.invariant.paired (subst T (sym c.self.view_is) c.requires.there) c.index.ensures in
    let t : SlotTable = table_of s.geometry s.perms s.metaslab slots s.detached.items (next_rooms s.next.items) (vec_capacity s.detached - vec_len s.detached) in
    subst H c.self.view_is
    (ap (holder_of t c.args.at.slot c.args.slice) (arm_found slots c.args.at slot arm place c.index-arm.ensures)
    ∙ ap (λ b. cond b (Some arm) (first_leaf (arms_of t (spare_slot t c.args.at.slot arm.number c.args.slice)))) (sym c.is_leaf.ensures ∙ c.if-is_leaf.true))

pub keeping_slot-child-requires-clause-arm : goal.keeping_slot-child-requires-clause-arm
keeping_slot-child-requires-clause-arm c =
    let s = c.self.inside in
    let slots = s.slots.items in
    let slot : Slot = c.index.result.now in
    let arm : Arm = c.index-arm.result.now in
    let T : SlotTable → Type 0 = λ t. IsThere t c.args.at in
    let H : SlotTable → Type 0 = λ t. has_spare (arms_of t c.args.at.slot) arm.number ≡ true in
    let place : IsPlace slots c.args.at slot = its_place slots c.args.at slot c.self.invariant.paired (subst T (sym c.self.view_is) c.requires.there) c.index.ensures in
    subst H c.self.view_is
    (ap (λ arms. has_spare arms arm.number) place.arms_are
    ∙ its_own slot.arms.items c.args.at.arm arm place.arm_within c.index-arm.ensures (sym c.is_leaf.ensures ∙ c.if-is_leaf.false))

pub keeping_slot-child-requires-clause-spare : goal.keeping_slot-child-requires-clause-spare
keeping_slot-child-requires-clause-spare c =
    let s = c.self.inside in
    let slots = s.slots.items in
    let slot : Slot = c.index.result.now in
    let arm : Arm = c.index-arm.result.now in
    let T : SlotTable → Type 0 = λ t. IsThere t c.args.at in
    let B : SlotTable → Type 0 = λ t. arm.number < t.geometry.spec.spares in
    let place : IsPlace slots c.args.at slot = its_place slots c.args.at slot c.self.invariant.paired (subst T (sym c.self.view_is) c.requires.there) c.index.ensures in
    subst B c.self.view_is
    (spares_below s.geometry (map arms_in slots) s.detached.items c.args.at.slot arm.number c.self.invariant.sound.slots
    (ap (λ arms. has_spare arms arm.number) place.arms_are
    ∙ its_own slot.arms.items c.args.at.arm arm place.arm_within c.index-arm.ensures (sym c.is_leaf.ensures ∙ c.if-is_leaf.false)))

pub first_leaf-requires : goal.first_leaf-requires
first_leaf-requires c =
    let s = c.self.inside in
    let slots = s.slots.items in
    let sound = c.self.invariant.sound in
    let N : SlotTable → Type 0 = λ t. c.keeping_slot-child.result < t.geometry.spec.children in
    let below : c.keeping_slot-child.result < s.geometry.spec.children = subst N (sym c.self.view_is) c.keeping_slot-child.ensures.below in
    let many = sound.slots.children in
    let within : c.keeping_slot-child.result < length (map arms_in slots) = omega arith in
    let is = sound.slots.each c.keeping_slot-child.result [] within in
    let H : List Arm → Type 0 = λ arms. has_leaf arms ≡ true in
    subst H (get_or-map arms_in slots c.keeping_slot-child.result c.index-2.result.now [] (omega (arith, within, length-map slots arms_in)) ∙ ap arms_in (sym c.index-2.ensures) ∙ sym c.deref.ensures.value) is.leaf

pub returns : goal.returns
returns c =
    let s = c.self.inside in
    let slots = s.slots.items in
    let slot : Slot = c.index.result.now in
    let arm : Arm = c.index-arm.result.now in
    let T : SlotTable → Type 0 = λ t. IsThere t c.args.at in
    let H : SlotTable → Type 0 = λ t. holder t c.args.at c.args.slice ≡ Some c.first_leaf.result in
    let place : IsPlace slots c.args.at slot = its_place slots c.args.at slot c.self.invariant.paired (subst T (sym c.self.view_is) c.requires.there) c.index.ensures in
    let t : SlotTable = table_of s.geometry s.perms s.metaslab slots s.detached.items (next_rooms s.next.items) (vec_capacity s.detached - vec_len s.detached) in
    let sound = c.self.invariant.sound in
    let N : SlotTable → Type 0 = λ t. c.keeping_slot-child.result < t.geometry.spec.children in
    let below : c.keeping_slot-child.result < s.geometry.spec.children = subst N (sym c.self.view_is) c.keeping_slot-child.ensures.below in
    let many = sound.slots.children in
    let within : c.keeping_slot-child.result < length (map arms_in slots) = omega arith in
    let C : SlotTable → Type 0 = λ t. c.keeping_slot-child.result ≡ spare_slot t c.args.at.slot arm.number c.args.slice in
    let child : c.keeping_slot-child.result ≡ spare_slot t c.args.at.slot arm.number c.args.slice =
    subst C (sym c.self.view_is) c.keeping_slot-child.ensures.slot in
    let arms : arms_of t c.keeping_slot-child.result ≡ c.deref.result.now =
    get_or-map arms_in slots c.keeping_slot-child.result c.index-2.result.now [] (omega (arith, within, length-map slots arms_in)) ∙ ap arms_in (sym c.index-2.ensures) ∙ sym c.deref.ensures.value in
    subst H c.self.view_is
    (ap (holder_of t c.args.at.slot c.args.slice) (arm_found slots c.args.at slot arm place c.index-arm.ensures)
    ∙ ap (λ b. cond b (Some arm) (first_leaf (arms_of t (spare_slot t c.args.at.slot arm.number c.args.slice)))) (sym c.is_leaf.ensures ∙ c.if-is_leaf.false)
    ∙ ap (λ k. first_leaf (arms_of t k)) (sym child)
    ∙ ap first_leaf arms
    ∙ c.first_leaf.ensures)

pub keeping_slot-child-requires-clause-slice : goal.keeping_slot-child-requires-clause-slice
keeping_slot-child-requires-clause-slice c = c.requires.slice

pub overflow_cast-arm : goal.overflow_cast-arm
overflow_cast-arm c =
    let s = c.self.inside in
    let slots = s.slots.items in
    let slot : Slot = c.index.result.now in
    let arm : Arm = c.index-arm.result.now in
    let T : SlotTable → Type 0 = λ t. IsThere t c.args.at in
    let place : IsPlace slots c.args.at slot = its_place slots c.args.at slot c.self.invariant.paired (subst T (sym c.self.view_is) c.requires.there) c.index.ensures in
    let sound = c.self.invariant.sound in
    let below = spares_below s.geometry (map arms_in slots) s.detached.items c.args.at.slot arm.number sound.slots
    (ap (λ arms. has_spare arms arm.number) place.arms_are
    ∙ its_own slot.arms.items c.args.at.arm arm place.arm_within c.index-arm.ensures (sym c.is_leaf.ensures ∙ c.if-is_leaf.false)) in
    let most = sound.layout.geometry_is.spec.most_spares in
    omega (arith, below, most)

pub overflow_cast-child : goal.overflow_cast-child
overflow_cast-child c =
    let s = c.self.inside in
    let N : SlotTable → Type 0 = λ t. c.keeping_slot-child.result < t.geometry.spec.children in
    let below : c.keeping_slot-child.result < s.geometry.spec.children = subst N (sym c.self.view_is) c.keeping_slot-child.ensures.below in
    let most = c.self.invariant.sound.layout.geometry_is.spec.most_children in
    omega (arith, below, most)

pub index-requires-2 : goal.index-requires-2
index-requires-2 c =
    let s = c.self.inside in
    let N : SlotTable → Type 0 = λ t. c.keeping_slot-child.result < t.geometry.spec.children in
    let below : c.keeping_slot-child.result < s.geometry.spec.children = subst N (sym c.self.view_is) c.keeping_slot-child.ensures.below in
    let many = c.self.invariant.sound.slots.children in
    omega (arith, below, many, length-map s.slots.items arms_in, s.slots.ok.0)
