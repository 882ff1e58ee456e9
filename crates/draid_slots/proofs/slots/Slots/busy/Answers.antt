use Rattle.std.proofs.Common.{length, ap, false, arith, ◌≡◌, [], ℕ, true, List, map, get_or, subst}
use Rattle.std.specs.Prelude.{IfNone, IfSome}
use Rattle.draid_slots.specs.declared.slot.Detached.{Detached}
use Rattle.draid_slots.specs.declared.slot.Slot.{Slot}
use Rattle.draid_slots.specs.Table.{SlotTable, arms_in, has_spare, holds_spare, was_spare_of}
use Rattle.draid_slots.proofs.Spares.{held_neither, held_left, held_right}
use Rattle.draid_slots.proofs.Tables.{if_none, few_slots, if_some}
use Rattle.draid_slots.proofs.slots.Slots.busy.Goals as goal

pub returns-in-Some-clause-only : goal.returns-in-Some-clause-only
returns-in-Some-clause-only c =
    let s = c.self.inside in
    let P : SlotTable → Type 0 = λ t. (other : ℕ) → holds_spare t c.args.spare other ≡ true → other ≡ c.in-Some.slot in
    let S : List Slot → Type 0 = λ slots. has_spare (get_or (map arms_in slots) c.in-Some.slot []) c.args.spare ≡ true in
    let here = held_left (map arms_in s.slots.items) s.detached.items c.args.spare c.in-Some.slot (subst S c.deref.ensures.value c.in-Some.ensures.has) in
    subst P c.self.view_is (λ other held. c.self.invariant.sound.slots.once c.args.spare other c.in-Some.slot held here)

pub returns-clause-only : goal.returns-clause-only
returns-clause-only c =
    let s = c.self.inside in
    let P : SlotTable → Type 0 = λ t. IfSome c.last_slot_of.result (λ slot. (other : ℕ) → holds_spare t c.args.spare other ≡ true → other ≡ slot) in
    let D : List Detached → Type 0 = λ detached. IfSome c.last_slot_of.result (λ slot. was_spare_of detached c.args.spare slot ≡ true) in
    subst P c.self.view_is
    (if_some c.last_slot_of.result (λ slot. was_spare_of s.detached.items c.args.spare slot ≡ true) _
    (λ slot was other held. c.self.invariant.sound.slots.once c.args.spare other slot held (held_right (map arms_in s.slots.items) s.detached.items c.args.spare slot was))
    (subst D c.deref-2.ensures.value c.last_slot_of.ensures.was))

pub slot_with-requires : goal.slot_with-requires
slot_with-requires c =
    let s = c.self.inside in
    let few = few_slots s.geometry s.perms s.metaslab s.slots.items s.detached.items c.self.invariant in
    omega (arith, few, ap length c.deref.ensures.value)

pub returns-in-Some-clause-holds : goal.returns-in-Some-clause-holds
returns-in-Some-clause-holds c =
    let s = c.self.inside in
    let H : SlotTable → Type 0 = λ t. holds_spare t c.args.spare c.in-Some.slot ≡ true in
    let S : List Slot → Type 0 = λ slots. has_spare (get_or (map arms_in slots) c.in-Some.slot []) c.args.spare ≡ true in
    subst H c.self.view_is (held_left (map arms_in s.slots.items) s.detached.items c.args.spare c.in-Some.slot (subst S c.deref.ensures.value c.in-Some.ensures.has))

pub returns-clause-holds : goal.returns-clause-holds
returns-clause-holds c =
    let s = c.self.inside in
    let P : SlotTable → Type 0 = λ t. IfSome c.last_slot_of.result (λ slot. holds_spare t c.args.spare slot ≡ true) in
    let D : List Detached → Type 0 = λ detached. IfSome c.last_slot_of.result (λ slot. was_spare_of detached c.args.spare slot ≡ true) in
    subst P c.self.view_is
    (if_some c.last_slot_of.result (λ slot. was_spare_of s.detached.items c.args.spare slot ≡ true) _
    (λ slot was. held_right (map arms_in s.slots.items) s.detached.items c.args.spare slot was) (subst D c.deref-2.ensures.value c.last_slot_of.ensures.was))

pub returns-clause-none : goal.returns-clause-none
returns-clause-none c =
    let s = c.self.inside in
    let P : SlotTable → Type 0 = λ t. IfNone c.last_slot_of.result ((slot : ℕ) → holds_spare t c.args.spare slot ≡ false) in
    let S : List Slot → Type 0 = λ slots. (slot : ℕ) → has_spare (get_or (map arms_in slots) slot []) c.args.spare ≡ false in
    let D : List Detached → Type 0 = λ detached. IfNone c.last_slot_of.result ((slot : ℕ) → was_spare_of detached c.args.spare slot ≡ false) in
    let none : S s.slots.items = subst S c.deref.ensures.value c.in_default.ensures.none in
    subst P c.self.view_is
    (if_none c.last_slot_of.result ((slot : ℕ) → was_spare_of s.detached.items c.args.spare slot ≡ false) _
    (λ gone slot. held_neither (map arms_in s.slots.items) s.detached.items c.args.spare slot (none slot) (gone slot)) (subst D c.deref-2.ensures.value c.last_slot_of.ensures.none))
