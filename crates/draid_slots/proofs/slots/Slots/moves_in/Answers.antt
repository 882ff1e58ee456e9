use Rattle.std.proofs.Common.{arith}
use Rattle.std.proofs.Common.{◌<◌, ◌≡◌, ◌≢◌, ◌*◌, ◌+◌, ℕ, true, eqb, get_or, ap, ap₂, sym, subst, ◌∙◌}
use Rattle.std.specs.Prelude.{not}
use Rattle.std.proofs.lemmas.Bool.{eq-eqb, false≢true, ne_eqb}
use Rattle.draid_chain.specs.Used.{HasColumn}
use Rattle.draid_slots.specs.Moves.{LiesElsewhere}
use Rattle.draid_slots.specs.Reading.{pool_slice}
use Rattle.draid_slots.specs.Table.{SlotTable}
use Rattle.draid_slots.proofs.slots.Slots.moves_in.Goals as goal

differ : (a b x y : ℕ) → a ≡ x → b ≡ y → not (eqb a b) ≡ true → x ≢ y
differ a b x y a_is b_is test same = false≢true (sym (ap not (eq-eqb a b (a_is ∙ same ∙ sym b_is))) ∙ test)

told : (a b x y : ℕ) → a ≡ x → b ≡ y → x ≢ y → not (eqb a b) ≡ true
told a b x y a_is b_is differs = ap not (ne_eqb a b (λ same. differs (sym a_is ∙ same ∙ b_is)))

pub returns : goal.returns
returns c =
    let s = c.self.inside in
    let N : ℕ → Type 0 = λ n. HasColumn s.perms s.geometry.spec.spares n c.args.slot in
    let H : SlotTable → Type 0 = λ t. HasColumn t.perms t.geometry.spec.spares (pool_slice t c.args.slice) c.args.slot in
    let slice = ap₂ (λ m n. m * n + c.args.slice) c.from.ensures c.from-2.ensures in
    let column : H c.args.self.now = subst H c.self.view_is (subst N slice (c.has_column.ensures.column.0 c.if-not-has_column.false)) in
    let old = ap (λ k. get_or c.args.before.now.leaves k 0) c.spare_slot-old.ensures.slot in
    let new = ap (λ k. get_or c.args.now.now.leaves k 0) c.spare_slot-new.ensures.slot in
    (λ test. record { column = column; differs = differ _ _ _ _ old new test }, λ lies. told _ _ _ _ old new lies.differs)

pub returns-then-not-has_column : goal.returns-then-not-has_column
returns-then-not-has_column c =
    let s = c.self.inside in
    let N : ℕ → Type 0 = λ n. HasColumn s.perms s.geometry.spec.spares n c.args.slot in
    let H : SlotTable → Type 0 = λ t. HasColumn t.perms t.geometry.spec.spares (pool_slice t c.args.slice) c.args.slot in
    let slice = ap₂ (λ m n. m * n + c.args.slice) c.from.ensures c.from-2.ensures in
    let none = λ (lies : LiesElsewhere c.args.before.now c.args.now.now c.args.self.now c.args.slot c.args.spare c.args.slice).
    false≢true (sym c.if-not-has_column.true ∙ c.has_column.ensures.column.1 (subst N (sym slice) (subst H (sym c.self.view_is) lies.column))) in
    (λ test. absurd (false≢true test), λ lies. absurd (none lies))

pub spare_slot-old-requires : goal.spare_slot-old-requires
spare_slot-old-requires c = record {
  used = c.requires.before;
  arm = c.requires.before_arm;
  past = c.requires.before_past;
  slice = c.requires.slice;
}

pub spare_slot-new-requires : goal.spare_slot-new-requires
spare_slot-new-requires c = record {
  used = c.requires.now;
  arm = c.requires.now_arm;
  past = c.requires.now_past;
  slice = c.requires.slice;
}

pub has_column-requires-clause-geometry : goal.has_column-requires-clause-geometry
has_column-requires-clause-geometry c = c.self.invariant.sound.layout.geometry_is

pub has_column-requires-clause-children : goal.has_column-requires-clause-children
has_column-requires-clause-children c = c.self.invariant.sound.layout.perms_are.children

pub has_column-requires-clause-slot : goal.has_column-requires-clause-slot
has_column-requires-clause-slot c =
    let S : SlotTable → Type 0 = λ t. c.args.slot < t.geometry.spec.children in
    subst S (sym c.self.view_is) c.requires.now_arm.slot_is

pub overflow_cast-result : goal.overflow_cast-result
overflow_cast-result c = omega arith

pub offset_bounds-before-old : goal.offset_bounds-before-old
offset_bounds-before-old c = omega arith

pub overflow_cast-result-2 : goal.overflow_cast-result-2
overflow_cast-result-2 c = omega arith

pub offset_bounds-now-new : goal.offset_bounds-now-new
offset_bounds-now-new c = omega arith
