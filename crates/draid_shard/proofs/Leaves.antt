-- The leaves that a shard has.
use Rattle.std.proofs.Common.{◌≡◌, ◌==◌, ◌&&◌, ℕ, zero, suc, true, false, List, [], ◌∷◌, Option, Some, None, arith, refl, subst, inl, inr}
use Rattle.std.specs.Prelude.{Contains, IfNone, is_some}
use Rattle.std.specs.List.{list_any}
use Rattle.draid_names.specs.declared.arm.ArmAt.{ArmAt}
use Rattle.draid_names.specs.declared.arm.ArmKind.{ArmKind}
use Rattle.draid_names.specs.declared.arm.ArmKind.TheVariants as kind
use Rattle.draid_machine.specs.declared.names.ArmName.TheVariants.{Leaf}
use Rattle.draid_machine.specs.State as machine
use Rattle.draid_machine.proofs.Small.{absurd_test, both_true, either_true, is_equal}
use Rattle.draid_slots.specs.declared.slot.Detached.{Detached}
use Rattle.draid_slots.specs.Table.{IsArmOf, SlotTable, arm_at, is_leaf_kind, is_leaving}
use Rattle.draid_shard.specs.Fits.{IsLeaf}
use Rattle.draid_slots.specs.States.{HasSlots, arm_in}
use Rattle.draid_machine.specs.Names.{named}

leaf_kind : (k : ArmKind) → is_leaf_kind k ≡ true → k ≡ kind.Leaf
leaf_kind kind.Leaf is = refl
leaf_kind kind.Spare is = absurd_test false is refl

-- a leaf that was detached
pub record IsLeaving (list : List Detached) (leaf : ℕ) : Type 0 where
  pub gone : Detached
  pub among : Contains list gone
  pub kind_is : gone.kind ≡ kind.Leaf
  pub number_is : gone.number ≡ leaf

pub leaving_there : (list : List Detached) (leaf : ℕ) → list_any (λ (gone : Detached). is_leaf_kind gone.kind && (gone.number == leaf)) list ≡ true → IsLeaving list leaf
leaving_there [] leaf is = absurd_test false is refl
leaving_there (x ∷ list) leaf is = elim (either_true (is_leaf_kind x.kind && (x.number == leaf)) (list_any (λ (gone : Detached). is_leaf_kind gone.kind && (gone.number == leaf)) list) is) [
  | inl here ↦ (let both = both_true (is_leaf_kind x.kind) (x.number == leaf) here in
      record { gone = x; among = (zero, omega arith, refl); kind_is = leaf_kind x.kind both.0; number_is = is_equal x.number leaf both.1 })
  | inr behind ↦ (let z = leaving_there list leaf behind in
      record { gone = z.gone; among = (let a = z.among in (suc a.0, (let less = a.1 in omega (arith, less)), a.2)); kind_is = z.kind_is; number_is = z.number_is })
]

-- a leaf that is no arm is leaving
pub leaves_on : (slots : SlotTable) (leaf : ℕ) (o : Option ArmAt) → is_some o ≡ false → IfNone o ((at : ArmAt) → IsArmOf kind.Leaf leaf (arm_at slots at) → ⊥) → IsLeaf slots leaf → is_leaving slots leaf ≡ true
leaves_on slots leaf (Some at) some none is = absurd (cc)
leaves_on slots leaf None some none (inl it) = absurd (none it.0 (it.1, it.2, it.3, it.4))
leaves_on slots leaf None some none (inr gone) = gone

-- the state has it
pub leaf_found : (slots : SlotTable) (q : machine.Core) (leaf : ℕ) → HasSlots slots q → IsLeaf slots leaf → (a : machine.Arm) × (q.arm (Leaf leaf) ≡ Some a)
leaf_found slots q leaf has (inl it) =
    (arm_in slots it.0 it.1, subst (λ n. q.arm (Leaf n) ≡ Some (arm_in slots it.0 it.1)) it.4 (subst (λ k. q.arm (named k it.1.number) ≡ Some (arm_in slots it.0 it.1)) it.3 (has.arms it.0 it.1 it.2)))
leaf_found slots q leaf has (inr gone) =
    let z = leaving_there slots.detached leaf gone in
    let was = has.detached z.gone z.among in
    (was.arm, subst (λ n. q.arm (Leaf n) ≡ Some was.arm) z.number_is (subst (λ k. q.arm (named k z.gone.number) ≡ Some was.arm) z.kind_is was.there))
