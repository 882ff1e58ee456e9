-- What a rebuild makes of readings that aren't in doubt isn't in doubt.
use Rattle.std.proofs.Common.{◌≡◌, ◌+◌, ◌&&◌, ◌||◌, not, ℕ, zero, suc, Bool, true, false, nat_lt, List, Option, Some, None, is_none, if◌then◌else◌, refl, sym, ◌∙◌, ap, ap₂, subst, arith}
use Rattle.std.proofs.lemmas.Bool.Decides.{nat_tests}
use Rattle.draid_machine.specs.declared.names.ArmName.{ArmName}
use Rattle.draid_machine.specs.declared.names.Held.{Held}
use Rattle.draid_machine.specs.declared.names.Segment.{Segment}
use Rattle.draid_machine.specs.Names.{any_below, key_eq}
use Rattle.draid_machine.specs.State.{Layout, Pass, Loan, State}
use Rattle.draid_machine.specs.Arms.{fails, leaf_at, passes}
use Rattle.draid_machine.specs.After.{is_chosen_aside, is_mended, is_source_aside, land_stripe_state, mend_state, pass_over, unsourced}
use Rattle.draid_machine.specs.Step.{LandStripeStep}
use Rattle.draid_machine.specs.Mended.{IsMade, IsTrusted}
use Rattle.draid_machine.proofs.Small.{equal, key_refl, some_injective, true_both}

none_below : (n : ℕ) (p : ℕ → Bool) → ((c : ℕ) → p c ≡ false) → any_below n p ≡ false
none_below zero p none = refl
none_below (suc n) p none = ap₂ (λ a b. a || b) (none_below n p none) (none n)

module _ (l : Layout) (w : State) (n : Loan) (s : Segment) (trusted : IsTrusted l w n s) where
  at_leaf : (c : ℕ) (m : ArmName) (o : Option ℕ) → n.chosen c ≡ Some m → leaf_at l w.core.order m n.stripe ≡ o
      → passes o (λ leaf. w.aside (record { key = s.key; column = c; arm = m; leaf = leaf; row = s.row })) ≡ false
  at_leaf c m None chosen at = refl
  at_leaf c m (Some leaf) chosen at = trusted.readings c m leaf chosen at

  at_column : (c : ℕ) (o : Option ArmName) → n.chosen c ≡ o → is_chosen_aside l w n s c o ≡ false
  at_column c None chosen = refl
  at_column c (Some m) chosen = at_leaf c m (leaf_at l w.core.order m n.stripe) chosen refl

  no_doubt : is_source_aside l w n s ≡ false
  no_doubt = by (is_none (n.chosen s.column))
    where
      by : (b : Bool) → (if b then any_below l.columns (λ c. is_chosen_aside l w n s c (n.chosen c)) else is_chosen_aside l w n s s.column (n.chosen s.column)) ≡ false
      by true = none_below l.columns (λ c. is_chosen_aside l w n s c (n.chosen c)) (λ c. at_column c (n.chosen c) refl)
      by false = at_column s.column (n.chosen s.column) refl

-- the segments of a stripe that is mended
made : (l : Layout) (w : State) (p : Pass) (n : Loan) (h : Held) (failed : List ℕ) (s : Segment) → IsTrusted l w n s → is_mended l w.core p n h s ≡ true → fails l w.core failed s.arm n.stripe ≡ false
    → ((land_stripe_state l w p n h failed).present s ≡ true) × ((land_stripe_state l w p n h failed).aside s ≡ false)
made l w p n h failed s trusted mended written = (
  ap (λ b. (if b then pass_over w p 1 (n.stripe + 1) else mend_state l w p n h failed).present s) few
      ∙ ap (λ b. if b then not (fails l w.core failed s.arm n.stripe) else w.present s) mended ∙ ap not written,
  ap (λ b. (if b then pass_over w p 1 (n.stripe + 1) else mend_state l w p n h failed).aside s) few
      ∙ ap (λ b. if b then is_source_aside l w n s && not (fails l w.core failed s.arm n.stripe) else w.aside s) mended
      ∙ ap (λ b. b && not (fails l w.core failed s.arm n.stripe)) (no_doubt l w n s trusted),
)
  where
    few : nat_lt l.parity (unsourced l n) ≡ false
    few = let e = trusted.enough in grind (arith, nat_tests, e)

pub doubt_ends : (l : Layout) (w new : State) (pass serial : ℕ) (failed : List ℕ) (n : Loan) (s : Segment) → LandStripeStep l w pass serial failed new → w.loan ≡ Some n → IsMade l w n failed s → IsTrusted l w n s
    → (new.present s ≡ true) × (new.aside s ≡ false)
doubt_ends l w new pass serial failed n s step lent is trusted =
    subst (λ (v : State). (v.present s ≡ true) × (v.aside s ≡ false)) (sym (step.made ∙ same))
    (made l w is.p n is.h failed s trusted mended is.written)
  where
    which : step.n ≡ n
    which = some_injective step.n n (sym step.counts.loan ∙ lent)

    block : step.h ≡ is.h
    block = some_injective step.h is.h (sym step.counts.found ∙ ap (λ (x : Loan). w.core.held x.key) which ∙ is.held)

    same : land_stripe_state l w step.p step.n step.h failed ≡ land_stripe_state l w is.p n is.h failed
    same = λ i. land_stripe_state l w (some_injective step.p is.p (sym step.counts.pass_is ∙ is.pass) i) (which i) (block i) failed

    mended : is_mended l w.core is.p n is.h s ≡ true
    mended =
        true_both _ _
        (true_both _ _
        (true_both _ _ (true_both _ _ (subst (λ k. key_eq n.key k ≡ true) is.key (key_refl n.key)) (equal (is.h.first + s.row) n.stripe is.stripe)) is.target) is.on)
        is.answers
