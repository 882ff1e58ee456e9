use Rattle.std.proofs.Common.{◌≡◌, ◌<◌, ◌-◌, ℕ, [], true, map, length, arith, sym, ap, ◌∙◌, subst}
use Rattle.std.specs.Prelude.{remove, vec_len, vec_capacity}
use Rattle.std.proofs.lemmas.Bool.{false≢true}
use Rattle.std.proofs.lemmas.List.{get_or-map, length-map}
use Rattle.draid_names.specs.declared.refusal.SlotFault.TheVariants.{LogNotEmpty}
use Rattle.draid_slots.specs.declared.slot.Slot.{Slot}
use Rattle.draid_slots.specs.Faults.{IsDetachRefused, IsLeastCount, MayDetach, HasLeafBeside}
use Rattle.draid_slots.specs.Table.{IsPaired, IsThere, SlotTable, arms_in, arms_of, has_leaf, next_rooms, table_of}
use Rattle.draid_slots.proofs.Refusals.{least_logged, one_beside, whole_beside}
use Rattle.draid_slots.proofs.Tables.{IsPlace, its_place, slot_there}
use Rattle.draid_slots.proofs.slots.Slots.may_detach.Goals as goal

pub unreachable-requires : goal.unreachable-requires
unreachable-requires c =
    let slot : Slot = c.index-slot.result.now in
    let beside : has_leaf (remove slot.arms.items c.args.at.arm) ≡ true =
    ap (λ arms. has_leaf (remove arms c.args.at.arm)) (sym c.deref.ensures.value) ∙ sym c.has_leaf_beside.ensures ∙ c.if-not-has_leaf_beside.false in
    let many = c.self.invariant.sound.slots.children in
    let slots = c.self.inside.slots.items in
    let within : c.args.at.slot < length slots = omega (arith, length-map slots arms_in) in
    let paired : IsPaired slot = subst IsPaired (sym c.index-slot.ensures) (c.self.invariant.paired c.args.at.slot slot within) in
    let same : length c.deref-2.result.now ≡ length slot.arms.items = ap length c.deref-2.ensures.value ∙ paired.same in
    one_beside slot.arms.items c.args.at.arm (length c.deref-2.result.now) (omega arith) beside same c.in-None.ensures.none

pub returns-in-Some-eq0-clause-allowed : goal.returns-in-Some-eq0-clause-allowed
returns-in-Some-eq0-clause-allowed c =
    let s = c.self.inside in
    let slots = s.slots.items in
    let slot : Slot = c.index-slot.result.now in
    let t : SlotTable = table_of s.geometry s.perms s.metaslab slots s.detached.items (next_rooms s.next.items) (vec_capacity s.detached - vec_len s.detached) in
    let many = c.self.invariant.sound.slots.children in
    let within : c.args.at.slot < length slots = omega (arith, length-map slots arms_in) in
    let arms : arms_of t c.args.at.slot ≡ slot.arms.items = get_or-map arms_in slots c.args.at.slot slot [] within ∙ ap arms_in (sym c.index-slot.ensures) in
    let there : IsThere t c.args.at = omega (arith, ap length arms) in
    let place : IsPlace slots c.args.at slot = its_place slots c.args.at slot c.self.invariant.paired there c.index-slot.ensures in
    let beside : HasLeafBeside t c.args.at =
    ap (λ arms. has_leaf (remove arms c.args.at.arm)) (arms ∙ sym c.deref.ensures.value) ∙ sym c.has_leaf_beside.ensures ∙ c.if-not-has_leaf_beside.false in
    let M : SlotTable → Type 0 = λ t. MayDetach t c.args.at in
    let L : ℕ → Type 0 = λ n. IsLeastCount c.deref-2.result.now c.args.at.arm (length c.deref-2.result.now) n in
    let whole = whole_beside s.geometry s.perms s.metaslab slots s.detached.items (next_rooms s.next.items) (vec_capacity s.detached - vec_len s.detached) c.args.at slot
    c.deref-2.result.now place c.deref-2.ensures.value (subst L c.in-Some-eq0.field-0-test c.in-Some-eq0.ensures.least) in
    subst M c.self.view_is (record { there = there; leaf_beside = beside; missed_none = whole })

pub returns-in-Some-clause-refused : goal.returns-in-Some-clause-refused
returns-in-Some-clause-refused c =
    let s = c.self.inside in
    let slots = s.slots.items in
    let slot : Slot = c.index-slot.result.now in
    let t : SlotTable = table_of s.geometry s.perms s.metaslab slots s.detached.items (next_rooms s.next.items) (vec_capacity s.detached - vec_len s.detached) in
    let many = c.self.invariant.sound.slots.children in
    let within : c.args.at.slot < length slots = omega (arith, length-map slots arms_in) in
    let arms : arms_of t c.args.at.slot ≡ slot.arms.items = get_or-map arms_in slots c.args.at.slot slot [] within ∙ ap arms_in (sym c.index-slot.ensures) in
    let there : IsThere t c.args.at = omega (arith, ap length arms) in
    let place : IsPlace slots c.args.at slot = its_place slots c.args.at slot c.self.invariant.paired there c.index-slot.ensures in
    let beside : HasLeafBeside t c.args.at =
    ap (λ arms. has_leaf (remove arms c.args.at.arm)) (arms ∙ sym c.deref.ensures.value) ∙ sym c.has_leaf_beside.ensures ∙ c.if-not-has_leaf_beside.false in
    let M : SlotTable → Type 0 = λ t. IsDetachRefused t c.args.at (LogNotEmpty c.in-Some.groups) in
    let least = least_logged s.geometry s.perms s.metaslab slots s.detached.items (next_rooms s.next.items) (vec_capacity s.detached - vec_len s.detached) c.args.at slot
    c.deref-2.result.now c.in-Some.groups place c.deref-2.ensures.value c.in-Some.ensures.least in
    subst M c.self.view_is (there, beside, (let nonzero = c.in-Some.groups-test.1 in omega arith), least)

pub returns-in-Some-eq0-clause-refused : goal.returns-in-Some-eq0-clause-refused
returns-in-Some-eq0-clause-refused c = tt

pub returns-in-Some-clause-allowed : goal.returns-in-Some-clause-allowed
returns-in-Some-clause-allowed c = tt

pub returns-then-at-self-clause-allowed : goal.returns-then-at-self-clause-allowed
returns-then-at-self-clause-allowed c = tt

pub returns-then-at-self-clause-refused : goal.returns-then-at-self-clause-refused
returns-then-at-self-clause-refused c = λ there.
    let T : SlotTable → Type 0 = λ t. IsThere t c.args.at in
    let slots = c.self.inside.slots.items in
    let within = slot_there (map arms_in slots) c.args.at.slot c.args.at.arm (subst T (sym c.self.view_is) there) in
    let many = c.self.invariant.sound.slots.children in
    let past = c.if-at-self.true in
    absurd (omega (arith, within, many, past))

pub returns-then-at-len : goal.returns-then-at-len
returns-then-at-len c = record {
  allowed = tt;
  refused = λ there.
      let T : SlotTable → Type 0 = λ t. IsThere t c.args.at in
      let slots = c.self.inside.slots.items in
      let slot : Slot = c.index-slot.result.now in
      let many = c.self.invariant.sound.slots.children in
      let within : c.args.at.slot < length slots = omega (arith, length-map slots arms_in) in
      let arms = get_or-map arms_in slots c.args.at.slot slot [] within ∙ ap arms_in (sym c.index-slot.ensures) in
      let inside = subst T (sym c.self.view_is) there in
      absurd (omega (arith, inside, ap length arms, slot.arms.ok.0, c.len.ensures));
}

pub returns-then-not-has_leaf_beside : goal.returns-then-not-has_leaf_beside
returns-then-not-has_leaf_beside c =
    let s = c.self.inside in
    let slots = s.slots.items in
    let slot : Slot = c.index-slot.result.now in
    let t : SlotTable = table_of s.geometry s.perms s.metaslab slots s.detached.items (next_rooms s.next.items) (vec_capacity s.detached - vec_len s.detached) in
    let many = c.self.invariant.sound.slots.children in
    let within : c.args.at.slot < length slots = omega (arith, length-map slots arms_in) in
    let arms : arms_of t c.args.at.slot ≡ slot.arms.items = get_or-map arms_in slots c.args.at.slot slot [] within ∙ ap arms_in (sym c.index-slot.ensures) in
    let there : IsThere t c.args.at = omega (arith, ap length arms, slot.arms.ok.0, c.len.ensures) in
    let none = λ (beside : HasLeafBeside t c.args.at).
    false≢true (sym c.if-not-has_leaf_beside.true ∙ c.has_leaf_beside.ensures ∙ ap (λ arms. has_leaf (remove arms c.args.at.arm)) (c.deref.ensures.value ∙ sym arms) ∙ beside) in
    let M : SlotTable → Type 0 = λ t. IsThere t c.args.at × (HasLeafBeside t c.args.at → ⊥) in
    record { allowed = tt; refused = subst M c.self.view_is (there, none) }

pub overflow_cast-at : goal.overflow_cast-at
overflow_cast-at c = omega arith

pub overflow_cast-at-2 : goal.overflow_cast-at-2
overflow_cast-at-2 c = omega arith

pub overflow_cast-at-3 : goal.overflow_cast-at-3
overflow_cast-at-3 c = omega arith

pub has_leaf_beside-requires : goal.has_leaf_beside-requires
has_leaf_beside-requires c = omega arith

pub overflow_cast-at-4 : goal.overflow_cast-at-4
overflow_cast-at-4 c = omega arith
