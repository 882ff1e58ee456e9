-- Slots that have the same arms, before a change and behind it.
use Rattle.std.proofs.Common.{◌≡◌, ◌<◌, ◌∙◌, ℕ, zero, suc, false, List, [], ◌∷◌, ◌++◌, Some, None, arith, refl, sym, ap, subst, inl, inr, length, map, slice_get}
use Rattle.std.specs.Prelude.{option_map, remove}
use Rattle.std.proofs.lemmas.Bool.{cases_eq}
use Rattle.std.proofs.lemmas.List.{length-map}
use Rattle.draid_names.specs.declared.arm.Arm.{Arm}
use Rattle.draid_names.specs.declared.arm.ArmAt.{ArmAt}
use Rattle.draid_machine.proofs.Small.{none_some, some_injective}
use Rattle.draid_slots.specs.Table.{SlotTable, arm_at, arms_of}
use Rattle.draid_shard.specs.Alike.{AreSameArms, IsSameArm, ShareArms}
use Rattle.draid_disks.specs.Disks.{HasAttached, HasDetached, plain, plain_arms}

-- ---- the arms of a slot
pub plains_same : (ps qs : List Arm) → AreSameArms ps qs → map plain ps ≡ map plain qs
plains_same [] [] same = refl
plains_same [] (q ∷ qs) same = (let many = same.many in absurd (omega (arith, many)))
plains_same (p ∷ ps) [] same = (let many = same.many in absurd (omega (arith, many)))
plains_same (p ∷ ps) (q ∷ qs) same =
    let first = same.each zero p q refl refl in
    let head : plain p ≡ plain q = (λ i. record { kind = first.kind_is i; number = first.number_is i; offline = first.offline_is i; fresh = false }) in
    let rest : map plain ps ≡ map plain qs = plains_same ps qs (record { many = (let many = same.many in omega (arith, many)); each = λ k x y at also. same.each (suc k) x y at also }) in
    λ i. head i ∷ rest i

get_plain : (xs : List Arm) (k : ℕ) (x : Arm) → slice_get xs k ≡ Some x → slice_get (map plain xs) k ≡ Some (plain x)
get_plain [] k x at = absurd (none_some None x refl at)
get_plain (y ∷ ys) zero x at = ap (λ o. option_map plain o) at
get_plain (y ∷ ys) (suc k) x at = get_plain ys k x at

pub same_plains : (ps qs : List Arm) → map plain ps ≡ map plain qs → AreSameArms ps qs
same_plains ps qs is = record {
  many = sym (length-map ps plain) ∙ ap length is ∙ length-map qs plain;
  each = λ k p q at also.
      (let one : plain p ≡ plain q = some_injective (plain p) (plain q) (sym (get_plain ps k p at) ∙ ap (λ xs. slice_get xs k) is ∙ get_plain qs k q also) in
      record { kind_is = ap (λ (x : Arm). x.kind) one; number_is = ap (λ (x : Arm). x.number) one; offline_is = ap (λ (x : Arm). x.offline) one });
}

-- ---- behind an attachment
pub share_attached : (a b c d : SlotTable) (slot : ℕ) (arm : Arm) → c.geometry ≡ a.geometry → d.geometry ≡ b.geometry → ShareArms a b → HasAttached a c slot arm → HasAttached b d slot arm → ShareArms c d
share_attached a b c d slot arm same also share one other = record {
  arms = record {
    children = ap (λ g. g.spec.children) also ∙ share.arms.children ∙ sym (ap (λ g. g.spec.children) same);
    slots = λ s low. same_plains (arms_of c s) (arms_of d s) (elim (cases_eq s slot) [
      | inl here ↦ ap (plain_arms c) here ∙ one.here ∙ ap (λ xs. xs ++ arm ∷ []) (before slot (subst (λ n. n < a.geometry.spec.children) here (below s low))) ∙ sym other.here ∙ ap (plain_arms d) (sym here)
      | inr apart ↦ one.others s apart ∙ before s (below s low) ∙ sym (other.others s apart)
    ]);
  };
  detached = other.detached_stay ∙ share.detached ∙ sym one.detached_stay;
} where
  below : (s : ℕ) → s < c.geometry.spec.children → s < a.geometry.spec.children
  below s low = subst (λ g. s < g.spec.children) same low

  before : (s : ℕ) → s < a.geometry.spec.children → plain_arms a s ≡ plain_arms b s
  before s low = plains_same (arms_of a s) (arms_of b s) (share.arms.slots s low)

-- ---- behind a detachment
pub share_detached : (a b c d : SlotTable) (at : ArmAt) (group : ℕ) (x y : Arm) → c.geometry ≡ a.geometry → d.geometry ≡ b.geometry → at.slot < a.geometry.spec.children → arm_at a at ≡ Some x → arm_at b at ≡ Some y → ShareArms a b → HasDetached a c at group
    → HasDetached b d at group → ShareArms c d
share_detached a b c d at group x y same also slot_low is_x is_y share one other = record {
  arms = record {
    children = ap (λ g. g.spec.children) also ∙ share.arms.children ∙ sym (ap (λ g. g.spec.children) same);
    slots = λ s low. same_plains (arms_of c s) (arms_of d s) (elim (cases_eq s at.slot) [
      | inl here ↦ ap (plain_arms c) here ∙ one.here ∙ ap (λ xs. remove xs at.arm) (before at.slot slot_low) ∙ sym other.here ∙ ap (plain_arms d) (sym here)
      | inr apart ↦ one.others s apart ∙ before s (below s low) ∙ sym (other.others s apart)
    ]);
  };
  detached = other.gone y is_y ∙ same_gone ∙ sym (one.gone x is_x);
} where
  below : (s : ℕ) → s < c.geometry.spec.children → s < a.geometry.spec.children
  below s low = subst (λ g. s < g.spec.children) same low

  before : (s : ℕ) → s < a.geometry.spec.children → plain_arms a s ≡ plain_arms b s
  before s low = plains_same (arms_of a s) (arms_of b s) (share.arms.slots s low)

  arm_is : IsSameArm x y
  arm_is = (share.arms.slots at.slot slot_low).each at.arm x y is_x is_y

  same_gone : b.detached ++ record { kind = y.kind; number = y.number; slot = at.slot; group = group; offline = y.offline } ∷ []
      ≡ a.detached ++ record { kind = x.kind; number = x.number; slot = at.slot; group = group; offline = x.offline } ∷ []
  same_gone = λ i. share.detached i ++ record { kind = sym arm_is.kind_is i; number = sym arm_is.number_is i; slot = at.slot; group = group; offline = sym arm_is.offline_is i } ∷ []
