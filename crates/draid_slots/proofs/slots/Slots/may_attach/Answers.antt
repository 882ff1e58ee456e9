use Rattle.draid_names.specs.declared.arm.ArmKind.TheVariants.{Leaf, Spare}
use Rattle.draid_slots.proofs.slots.Slots.may_attach.Goals.{else-not-is_leaf, then-not-is_leaf+in_ok-is_idle}
use Rattle.std.proofs.lemmas.Bool.{false≢true}
use Rattle.draid_names.specs.declared.refusal.SlotFault.{SlotFault}
use Rattle.draid_slots.specs.Faults.{IsSpareRefused, IsAttachRefused}
use Rattle.draid_names.specs.declared.arm.Arm.{Arm}
use Rattle.draid_names.specs.declared.arm.ArmKind.{ArmKind}
use Rattle.std.proofs.Common.{refl, inr, inl, ◌∙◌, true, length, false, arith, ◌≡◌, sym, ap, subst, ℕ, ◌<◌}
use Rattle.draid_slots.proofs.Tables.{if_err_passed, on_ok_passed}
use Rattle.draid_slots.specs.Table.{is_spare_kind, is_leaf_kind, SlotTable}
use Rattle.draid_slots.proofs.slots.Slots.may_attach.Goals as goal

-- a spare that can't come isn't attached
refused : (table : SlotTable) (slot : ℕ) (arm : Arm) (fault : SlotFault) → slot < table.geometry.spec.children → is_spare_kind arm.kind ≡ true → IsSpareRefused table arm.number fault
    → IsAttachRefused table slot arm fault
refused table slot arm fault there spare (inl gone) = subst (IsAttachRefused table slot arm) (sym gone.0) (λ known. let past = gone.1 in let below = known.spare_there spare in omega (arith, below, past))
refused table slot arm fault there spare (inr busy) = subst (IsAttachRefused table slot arm) (sym busy.1) (record { slot_there = there; spare_there = λ _. busy.2 }, spare, busy.3)

is_spare : (kind : ArmKind) → is_leaf_kind kind ≡ false → is_spare_kind kind ≡ true
is_spare Leaf is = absurd (false≢true (sym is))
is_spare Spare is = refl

is_no_spare : (kind : ArmKind) → is_leaf_kind kind ≡ true → is_spare_kind kind ≡ true → ⊥
is_no_spare Leaf is spare = false≢true spare
is_no_spare Spare is spare = false≢true is

pub returns-then-slot-self-clause-refused : goal.returns-then-slot-self-clause-refused
returns-then-slot-self-clause-refused c known =
    let S : SlotTable → Type 0 = λ t. c.args.slot < t.geometry.spec.children in
    let there : c.args.slot < c.self.inside.geometry.spec.children = subst S (sym c.self.view_is) known.slot_there in
    let past = c.if-slot-self.true in
    omega (arith, there, past)

pub returns-in_err-is_idle-clause-allowed : goal.returns-in_err-is_idle-clause-allowed
returns-in_err-is_idle-clause-allowed c = on_ok_passed _ c.from_residual.result _ c.from_residual.ensures.1

pub arms-arms-requires : goal.arms-arms-requires
arms-arms-requires c =
    let S : SlotTable → Type 0 = λ t. c.args.slot < t.geometry.spec.children in
    subst S c.self.view_is c.if-slot-self.false

pub returns-in_err-is_idle-clause-refused : goal.returns-in_err-is_idle-clause-refused
returns-in_err-is_idle-clause-refused c =
    let S : SlotTable → Type 0 = λ t. c.args.slot < t.geometry.spec.children in
    if_err_passed _ c.from_residual.result _ c.from_residual.ensures.1 (λ e is. subst (IsAttachRefused c.args.self.now c.args.slot c.args.arm) (sym is)
    (refused c.args.self.now c.args.slot c.args.arm _ (subst S c.self.view_is c.if-slot-self.false) (is_spare c.args.arm.kind (sym c.is_leaf.ensures ∙ c.if-not-is_leaf.true)) c.in_err-is_idle.ensures.refused))

pub returns-then-arms-ge-MOST_ARMS-clause-refused : goal.returns-then-arms-ge-MOST_ARMS-clause-refused
returns-then-arms-ge-MOST_ARMS-clause-refused c =
    let S : SlotTable → Type 0 = λ t. c.args.slot < t.geometry.spec.children in
    let there : c.args.slot < c.args.self.now.geometry.spec.children = subst S c.self.view_is c.if-slot-self.false in
    let many = c.if-arms-ge-MOST_ARMS.true in
    let same = ap length c.arms-arms.ensures.arms in
    elim c.if-not-is_leaf.branch [
      | then-not-is_leaf+in_ok-is_idle w ↦ (record { slot_there = there; spare_there = λ _. w.in_ok-is_idle.ensures.known }, λ _. w.in_ok-is_idle.ensures.idle, omega (arith, many, same), same)
      | else-not-is_leaf w ↦ (
        record { slot_there = there; spare_there = λ spare. absurd (is_no_spare c.args.arm.kind (sym c.is_leaf.ensures ∙ w.if-not-is_leaf.false) spare) },
        λ spare. absurd (is_no_spare c.args.arm.kind (sym c.is_leaf.ensures ∙ w.if-not-is_leaf.false) spare),
        omega (arith, many, same),
        same,
      )
    ]

pub returns-clause-allowed : goal.returns-clause-allowed
returns-clause-allowed c =
    let S : SlotTable → Type 0 = λ t. c.args.slot < t.geometry.spec.children in
    let there : c.args.slot < c.args.self.now.geometry.spec.children = subst S c.self.view_is c.if-slot-self.false in
    let few = c.if-arms-ge-MOST_ARMS.false in
    let same = ap length c.arms-arms.ensures.arms in
    elim c.if-not-is_leaf.branch [
      | then-not-is_leaf+in_ok-is_idle w ↦ record {
        known = record { slot_there = there; spare_there = λ _. w.in_ok-is_idle.ensures.known };
        idle = λ _. w.in_ok-is_idle.ensures.idle;
        some_room = omega (arith, few, same);
      }
      | else-not-is_leaf w ↦
          let other = is_no_spare c.args.arm.kind (sym c.is_leaf.ensures ∙ w.if-not-is_leaf.false) in
          record {
            known = record { slot_there = there; spare_there = λ spare. absurd (other spare) };
            idle = λ spare. absurd (other spare);
            some_room = omega (arith, few, same);
          }
    ]
