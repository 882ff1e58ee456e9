use Rattle.draid_slots.proofs.Tables.{few_slots}
use Rattle.std.proofs.Common.{length, ap, false, ◌≡◌, ◌<◌, ℕ, [], true, List, map, get_or, arith, sym, ◌∙◌, subst, inl, inr}
use Rattle.std.proofs.lemmas.Bool.{cases_eq, false≢true}
use Rattle.draid_slots.specs.declared.slot.Slot.{Slot}
use Rattle.draid_slots.specs.Moves.{LiesElsewhere}
use Rattle.draid_slots.specs.Table.{SlotTable, arms_in, arms_of, has_spare}
use Rattle.draid_slots.proofs.Spares.{held_left}
use Rattle.draid_slots.proofs.slots.Slots.moves.Goals as goal

pub moves_in-requires-clause-before_arm : goal.moves_in-requires-clause-before_arm
moves_in-requires-clause-before_arm c =
    let slots = c.self.inside.slots.items in
    let F : List Slot → Type 0 = λ slots. has_spare (get_or (map arms_in slots) c.in-Some.slot []) c.args.spare ≡ true in
    let H : SlotTable → Type 0 = λ t. has_spare (arms_of t c.in-Some.slot) c.args.spare ≡ true in
    c.requires.before_arm c.in-Some.slot (subst H c.self.view_is (subst F c.deref.ensures.value c.in-Some.ensures.has))

pub moves_in-requires-clause-now_arm : goal.moves_in-requires-clause-now_arm
moves_in-requires-clause-now_arm c =
    let slots = c.self.inside.slots.items in
    let F : List Slot → Type 0 = λ slots. has_spare (get_or (map arms_in slots) c.in-Some.slot []) c.args.spare ≡ true in
    let H : SlotTable → Type 0 = λ t. has_spare (arms_of t c.in-Some.slot) c.args.spare ≡ true in
    c.requires.now_arm c.in-Some.slot (subst H c.self.view_is (subst F c.deref.ensures.value c.in-Some.ensures.has))

pub returns-clause-stays : goal.returns-clause-stays
returns-clause-stays c = λ same lies.
    let s = c.self.inside in
    let H : SlotTable → Type 0 = λ t. has_spare (arms_of t lies.slot) c.args.spare ≡ true in
    let B : SlotTable → Type 0 = λ t. lies.slice < t.geometry.props.slices in
    let F : List Slot → Type 0 = λ slots. has_spare (get_or (map arms_in slots) c.in-Some.slot []) c.args.spare ≡ true in
    let there = held_left (map arms_in s.slots.items) s.detached.items c.args.spare lies.slot (subst H (sym c.self.view_is) lies.arm_is) in
    let here = held_left (map arms_in s.slots.items) s.detached.items c.args.spare c.in-Some.slot (subst F c.deref.ensures.value c.in-Some.ensures.has) in
    let one : lies.slot ≡ c.in-Some.slot = c.self.invariant.sound.slots.once c.args.spare lies.slot c.in-Some.slot there here in
    let below : lies.slice < s.geometry.props.slices = subst B (sym c.self.view_is) lies.slice_is in
    let L : ℕ → Type 0 = λ slot. LiesElsewhere c.args.before.now c.args.now.now c.args.self.now slot c.args.spare lies.slice in
    let end = c.from-slice-end.ensures in
    c.loop-slice.invariant lies.slice (omega arith) (subst L one lies.elsewhere)

pub loop-slice-preserved : goal.loop-slice-preserved
loop-slice-preserved c = λ slice below lies. elim (cases_eq slice c.loop-slice.slice) [
  | inl same ↦
      let L : ℕ → Type 0 = λ n. LiesElsewhere c.args.before.now c.args.now.now c.args.self.now c.in-Some.slot c.args.spare n in
      false≢true (sym c.if-moves_in.false ∙ c.moves_in.ensures.1 (subst L same lies))
  | inr other ↦ c.loop-slice.invariant slice (omega arith) lies
]

pub moves_in-requires-clause-before : goal.moves_in-requires-clause-before
moves_in-requires-clause-before c = c.requires.before

pub moves_in-requires-clause-before_past : goal.moves_in-requires-clause-before_past
moves_in-requires-clause-before_past c = c.requires.before_past

pub moves_in-requires-clause-now : goal.moves_in-requires-clause-now
moves_in-requires-clause-now c = c.requires.now

pub moves_in-requires-clause-now_past : goal.moves_in-requires-clause-now_past
moves_in-requires-clause-now_past c = c.requires.now_past

pub moves_in-requires-clause-slice : goal.moves_in-requires-clause-slice
moves_in-requires-clause-slice c =
    let B : SlotTable → Type 0 = λ t. c.loop-slice.slice < t.geometry.props.slices in
    let end = c.from-slice-end.ensures in
    let test = c.loop-slice-test.true in
    subst B c.self.view_is (omega (arith, end, test))

pub slot_with-requires : goal.slot_with-requires
slot_with-requires c =
    let s = c.self.inside in
    let few = few_slots s.geometry s.perms s.metaslab s.slots.items s.detached.items c.self.invariant in
    omega (arith, few, ap length c.deref.ensures.value)

pub returns-in_default-clause-moves : goal.returns-in_default-clause-moves
returns-in_default-clause-moves c is = absurd (false≢true is)

pub returns-in_default-clause-stays : goal.returns-in_default-clause-stays
returns-in_default-clause-stays c is lies =
    let s = c.self.inside in
    let H : SlotTable → Type 0 = λ t. has_spare (arms_of t lies.slot) c.args.spare ≡ true in
    let F : List Slot → Type 0 = λ slots. (slot : ℕ) → has_spare (get_or (map arms_in slots) slot []) c.args.spare ≡ false in
    let none : F s.slots.items = subst F c.deref.ensures.value c.in_default.ensures.none in
    false≢true (sym (none lies.slot) ∙ subst H (sym c.self.view_is) lies.arm_is)

pub returns-then-moves_in-clause-moves : goal.returns-then-moves_in-clause-moves
returns-then-moves_in-clause-moves c is =
    let slots = c.self.inside.slots.items in
    let F : List Slot → Type 0 = λ slots. has_spare (get_or (map arms_in slots) c.in-Some.slot []) c.args.spare ≡ true in
    let H : SlotTable → Type 0 = λ t. has_spare (arms_of t c.in-Some.slot) c.args.spare ≡ true in
    let B : SlotTable → Type 0 = λ t. c.loop-slice.slice < t.geometry.props.slices in
    let end = c.from-slice-end.ensures in
    let test = c.loop-slice-test.true in
    record {
      slot = c.in-Some.slot;
      slice = c.loop-slice.slice;
      arm_is = subst H c.self.view_is (subst F c.deref.ensures.value c.in-Some.ensures.has);
      slice_is = subst B c.self.view_is (omega (arith, end, test));
      elsewhere = c.moves_in.ensures.0 c.if-moves_in.true;
    }

pub returns-then-moves_in-clause-stays : goal.returns-then-moves_in-clause-stays
returns-then-moves_in-clause-stays c is = absurd (false≢true (sym is))

pub returns-clause-moves : goal.returns-clause-moves
returns-clause-moves c is = absurd (false≢true is)
