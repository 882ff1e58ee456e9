-- The names of a pass's targets.
use Rattle.std.proofs.Common.{◌≡◌, ◌∙◌, ℕ, zero, suc, true, false, List, [], ◌∷◌, Option, Some, None, refl, sym, ap, subst, inl, inr, slice_get}
use Rattle.std.specs.Prelude.{All}
use Rattle.std.proofs.lemmas.List.Elements.{All-head, All-tail}
use Rattle.draid_names.specs.declared.arm.Arm.{Arm}
use Rattle.draid_names.specs.declared.arm.ArmAt.{ArmAt}
use Rattle.draid_machine.specs.Names.{has_name, name_eq}
use Rattle.draid_machine.specs.declared.names.ArmName.{ArmName}
use Rattle.draid_machine.proofs.Small.{absurd_test, either_true, name_refl, name_true, some_same, true_left, true_right}
use Rattle.draid_slots.specs.States.{name_of, names_at}
use Rattle.draid_slots.specs.Table.{IsThere, SlotTable, arm_at}
use Rattle.draid_mend.specs.Targets.{AreThere}

head : (rest : List ArmName) → Option Arm → List ArmName
head rest None = rest
head rest (Some a) = name_of a ∷ rest

pub record IsNamedAt (slots : SlotTable) (targets : List ArmAt) (n : ArmName) : Type 0 where
  pub k : ℕ
  pub at : ArmAt
  pub a : Arm
  pub listed : slice_get targets k ≡ Some at
  pub there : arm_at slots at ≡ Some a
  pub name : name_of a ≡ n

module _ (slots : SlotTable) where
  names_are : (t : ArmAt) (ts : List ArmAt) → names_at slots (t ∷ ts) ≡ head (names_at slots ts) (arm_at slots t)
  unfolding head
  names_are t ts = by (arm_at slots t) where
    by : (o : Option Arm) → (elim o as (λ o. List ArmName) [ None ↦ names_at slots ts | Some arm ↦ name_of arm ∷ names_at slots ts ]) ≡ head (names_at slots ts) o
    by None = refl
    by (Some a) = refl

  later : (t : ArmAt) (ts : List ArmAt) (n : ArmName) → IsNamedAt slots ts n → IsNamedAt slots (t ∷ ts) n
  later t ts n z = record { k = suc z.k; at = z.at; a = z.a; listed = z.listed; there = z.there; name = z.name }

  pub name_at : (ts : List ArmAt) (n : ArmName) → has_name (names_at slots ts) n ≡ true → IsNamedAt slots ts n
  unfolding head
  name_at [] n is = absurd_test false is refl
  name_at (t ∷ ts) n is = by (name_at ts n) (arm_at slots t) refl (sym (ap (λ ns. has_name ns n) (names_are t ts)) ∙ is)
    where
      by : (has_name (names_at slots ts) n ≡ true → IsNamedAt slots ts n) → (o : Option Arm) → arm_at slots t ≡ o → has_name (head (names_at slots ts) o) n ≡ true → IsNamedAt slots (t ∷ ts) n
      by rest None e is = later t ts n (rest is)
      by rest (Some a) e is = elim (either_true (name_eq (name_of a) n) (has_name (names_at slots ts) n) is) [
        | inl here ↦ record { k = zero; at = t; a = a; listed = refl; there = e; name = name_true (name_of a) n here }
        | inr more ↦ later t ts n (rest more)
      ]

  pub name_in : (ts : List ArmAt) (k : ℕ) (at : ArmAt) (a : Arm) → slice_get ts k ≡ Some at → arm_at slots at ≡ Some a → has_name (names_at slots ts) (name_of a) ≡ true
  unfolding head
  name_in [] k at a is there = absurd (cc)
  name_in (t ∷ ts) zero at a is there =
      let e : arm_at slots t ≡ Some a = ap (arm_at slots) (some_same (Some t) t at refl is) ∙ there in
      ap (λ ns. has_name ns (name_of a)) (names_are t ts) ∙ subst (λ o. has_name (head (names_at slots ts) o) (name_of a) ≡ true) (sym e) (true_left (name_eq (name_of a) (name_of a)) (has_name (names_at slots ts) (name_of a)) (name_refl (name_of a)))
  name_in (t ∷ ts) (suc k) at a is there = ap (λ ns. has_name ns (name_of a)) (names_are t ts) ∙ by (arm_at slots t) (name_in ts k at a is there)
    where
      by : (o : Option Arm) → has_name (names_at slots ts) (name_of a) ≡ true → has_name (head (names_at slots ts) o) (name_of a) ≡ true
      by None e = e
      by (Some b) e = true_right (name_eq (name_of b) (name_of a)) (has_name (names_at slots ts) (name_of a)) e

-- ---- places that are there

pub all_there : (slots : SlotTable) (targets : List ArmAt) → All (IsThere slots) targets → AreThere slots targets
all_there slots [] all k at is = absurd (cc)
all_there slots (t ∷ ts) all zero at is = subst (IsThere slots) (some_same (Some t) t at refl is) (All-head (IsThere slots) t ts all)
all_there slots (t ∷ ts) all (suc k) at is = all_there slots ts (All-tail (IsThere slots) t ts all) k at is
