-- Leaves that are no arms go.
use Rattle.std.proofs.Common.{◌≡◌, ◌==◌, not, ℕ, Bool, true, false, List, [], Option, Some, None, IfNone, is_some, if◌then◌else◌, refl, sym, ◌∙◌, ap, arith, slice_index_or, eqb-true}
use Rattle.std.specs.List.{list_any}
use Rattle.std.proofs.lemmas.Bool.{true≢false}
use Rattle.std.proofs.lemmas.Bool.Decides.{nat_tests}
use Rattle.draid_names.specs.declared.arm.Arm.{Arm}
use Rattle.draid_names.specs.declared.arm.ArmAt.{ArmAt}
use Rattle.draid_names.specs.declared.arm.ArmKind.{ArmKind}
use Rattle.draid_names.specs.declared.arm.ArmKind.TheVariants.{Leaf, Spare}
use Rattle.draid_machine.proofs.Small.{both_true}
use Rattle.draid_rack.specs.Rack.{CountsOthers}
use Rattle.draid_slots.specs.Table.{IsArmOf, SlotTable, arm_at, is_leaf_kind, is_leaf_of}
use Rattle.draid_stable.specs.Images.{none_told}
use Rattle.draid_stable.specs.Opening.{KeepsCounts, has_leaf_arm}
use Rattle.draid_slots.proofs.Somewhere.{any_where}
use Rattle.draid_stable.proofs.Settled.{get_is}

pub none_of : {A : Type 0} (o : Option A) (P : Type 0) → is_some o ≡ false → IfNone o P → P
none_of None P is p = p
none_of (Some x) P is p = absurd (true≢false is)

pub not_named : (b : Bool) → b ≡ false → not b ≡ true
not_named true is = absurd (true≢false is)
not_named false is = refl

leaf_is : (k : ArmKind) → is_leaf_kind k ≡ true → k ≡ Leaf
leaf_is Leaf is = refl
leaf_is Spare is = absurd (true≢false (sym is))

-- an arm that is the leaf
pub the_arm : (leaf : ℕ) (arm : Arm) → is_leaf_of leaf arm ≡ true → (arm.kind ≡ Leaf) × (arm.number ≡ leaf)
the_arm leaf arm is = let z = both_true (is_leaf_kind arm.kind) (arm.number == leaf) is in (leaf_is arm.kind z.0, eqb-true arm.number leaf z.1)

pub no_arm : (table : SlotTable) (leaf : ℕ) → ((at : ArmAt) → ¬ (IsArmOf Leaf leaf (arm_at table at))) → has_leaf_arm table leaf ≡ false
no_arm table leaf never = by (has_leaf_arm table leaf) refl
  where
    no : has_leaf_arm table leaf ≡ true → ⊥
    no any =
        let slot = any_where (list_any (is_leaf_of leaf)) table.arms [] any in
        let arms : List Arm = slice_index_or table.arms slot.0 [] in
        let arm = any_where (is_leaf_of leaf) arms none_told.0 slot.2 in
        let the : Arm = slice_index_or arms arm.0 none_told.0 in
        let is = the_arm leaf the arm.2 in
        never (record { slot = slot.0; arm = arm.0 }) (the, get_is arms arm.0 none_told.0 arm.1, is.0, is.1)

    by : (b : Bool) → has_leaf_arm table leaf ≡ b → b ≡ false
    by true is = absurd (no is)
    by false is = refl

pub kept_leaf : (arm : ℕ → Bool) (leaves : ℕ → Option ℕ) (leaf other : ℕ) → arm leaf ≡ false → arm other ≡ true → (if other == leaf then None else leaves other) ≡ leaves other
kept_leaf arm leaves leaf other gone is = by (other == leaf) refl
  where
    by : (b : Bool) → (other == leaf) ≡ b → (if b then None else leaves other) ≡ leaves other
    by true same = absurd (true≢false (sym is ∙ ap arm (eqb-true other leaf same) ∙ gone))
    by false same = refl

-- where the leaf that went is no arm
pub counts_kept : (table : SlotTable) (leaf : ℕ) (old new : Option ℕ → ℕ) → has_leaf_arm table leaf ≡ false → CountsOthers leaf old new → KeepsCounts table old new
counts_kept table leaf old new gone later = record {
  own = later None (λ same. absurd (cc));
  leaves = λ other named. later (Some other) (λ same. (let is : other ≡ leaf = cc in absurd (true≢false (sym named ∙ (ap (has_leaf_arm table) is ∙ gone)))));
}
