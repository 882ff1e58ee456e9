-- The leaves on which targets lie are flushed one after another.
use Rattle.std.proofs.Common.{◌≡◌, ◌++◌, ◌∷◌, [], ◌+◌, ◌&&◌, not, ◌∙◌, ℕ, suc, Bool, true, false, List, Option, Some, None, IsSome, arith, refl, sym, ap, inl, inr, if◌then◌else◌}
use Rattle.std.specs.Prelude.{is_some}
use Rattle.std.proofs.lemmas.Bool.{true≢false}
use Rattle.draid_names.specs.declared.arm.Arm.{Arm}
use Rattle.draid_names.specs.declared.arm.ArmAt.{ArmAt}
use Rattle.draid_names.specs.declared.arm.ArmKind.{ArmKind}
use Rattle.draid_names.specs.declared.arm.ArmKind.TheVariants as kind
use Rattle.draid_rack.specs.Rack.{Shape}
use Rattle.draid_machine.proofs.Small.{bool_cases, both_true, none_some, some_injective}
use Rattle.draid_shard.specs.Fits.{HasLeaves}
use Rattle.draid_slots.specs.Table.{SlotTable, arm_at, is_leaf, is_leaf_kind}
use Rattle.draid_passing.specs.Flushing.{bears_target, due_below, due_leaf, listed, place_no}

append_nil : (xs : List ℕ) → xs ++ [] ≡ xs
append_nil [] = refl
append_nil (x ∷ xs) = ap (λ ys. x ∷ ys) (append_nil xs)

next : (k : ℕ) → k + 1 ≡ suc k
next k = omega arith

module _ (slots : SlotTable) (targets : List ArmAt) where
  pub none_more : (k : ℕ) → due_leaf slots targets (arm_at slots (place_no k)) ≡ None → due_below slots targets (k + 1) ≡ due_below slots targets k
  none_more k none = ap (due_below slots targets) (next k) ∙ ap (λ o. due_below slots targets k ++ listed o) none ∙ append_nil (due_below slots targets k)

  pub some_more : (k leaf : ℕ) → due_leaf slots targets (arm_at slots (place_no k)) ≡ Some leaf → due_below slots targets (k + 1) ≡ due_below slots targets k ++ leaf ∷ []
  some_more k leaf some = ap (due_below slots targets) (next k) ∙ ap (λ o. due_below slots targets k ++ listed o) some

  -- the arm that such a leaf is
  pub record IsDue (o : Option Arm) (leaf : ℕ) : Type 0 where
    pub arm : Arm
    pub there : o ≡ Some arm
    pub kind_is : arm.kind ≡ kind.Leaf
    pub number_is : arm.number ≡ leaf
    pub online : arm.offline ≡ false
    pub bears : bears_target slots targets leaf ≡ true

  leaf_kind : (k : ArmKind) → is_leaf_kind k ≡ true → k ≡ kind.Leaf
  leaf_kind kind.Leaf is = refl
  leaf_kind kind.Spare is = absurd (true≢false (sym is))

  not_true : (b : Bool) → not b ≡ true → b ≡ false
  not_true true is = absurd (true≢false (sym is))
  not_true false is = refl

  pub due_is : (o : Option Arm) (leaf : ℕ) → due_leaf slots targets o ≡ Some leaf → IsDue o leaf
  due_is None leaf is = absurd (none_some None leaf refl is)
  due_is (Some arm) leaf is = elim (bool_cases (is_leaf arm && (not arm.offline && bears_target slots targets arm.number))) [
    | inl all ↦
        let one = both_true (is_leaf arm) (not arm.offline && bears_target slots targets arm.number) all in
        let two = both_true (not arm.offline) (bears_target slots targets arm.number) one.1 in
        let number : arm.number ≡ leaf = some_injective arm.number leaf (sym (ap (λ b. if b then Some arm.number else None) all) ∙ is) in
        record {
          arm = arm;
          there = refl;
          kind_is = leaf_kind arm.kind one.0;
          number_is = number;
          online = not_true arm.offline two.0;
          bears = ap (bears_target slots targets) (sym number) ∙ two.1;
        }
    | inr none ↦ absurd (none_some None leaf refl (sym (ap (λ b. if b then Some arm.number else None) none) ∙ is))
  ]

  -- the rack has it
  pub due_there : (shape : Shape) (at : ArmAt) (leaf : ℕ) → HasLeaves shape slots.geometry slots → due_leaf slots targets (arm_at slots at) ≡ Some leaf → IsSome (shape.leaves leaf)
  due_there shape at leaf has is =
      let d = due_is (arm_at slots at) leaf is in
      ap is_some (has.leaves leaf (inl (at, d.arm, d.there, d.kind_is, d.number_is)))
