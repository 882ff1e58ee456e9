-- Whether a landing is whole is decided.
use Rattle.std.proofs.Common.{arith, ◌≡◌, ◌<◌, ℕ, zero, suc, Bool, true, false, List, [], ◌∷◌, refl, subst, inl, inr}
use Rattle.std.proofs.lemmas.Bool.{cases_lt}
use Rattle.draid_machine.specs.Arms.{answers, fails, is_clean}
use Rattle.draid_machine.specs.Names.{has_name, name_eq}
use Rattle.draid_machine.specs.State as machine
use Rattle.draid_machine.specs.Step.{IsWhole}
use Rattle.draid_machine.specs.declared.names.ArmName.{ArmName}
use Rattle.draid_machine.specs.declared.names.Held.{Held}
use Rattle.draid_machine.proofs.Small.{absurd_test, bool_cases, either_true, name_refl, name_true, true_left, true_right}

-- a decision of a fact
pub record Decision (P : Type 0) : Type 0 where
  pub is : Bool
  pub yes : is ≡ true → P
  pub no : is ≡ false → P → ⊥

decided : {P : Type 0} → P → Decision P
decided p = record { is = true; yes = λ e. p; no = λ e q. absurd_test true refl e }

denied : {P : Type 0} → (P → ⊥) → Decision P
denied out = record { is = false; yes = λ e. absurd_test false e refl; no = λ e. out }

pub same_decision : {P : Type 0} (a b : Bool) → (a ≡ true → P) → (a ≡ false → P → ⊥) → (b ≡ true → P) → (b ≡ false → P → ⊥) → a ≡ b
same_decision true true ya na yb nb = refl
same_decision true false ya na yb nb = absurd (nb refl (ya refl))
same_decision false true ya na yb nb = absurd (na refl (yb refl))
same_decision false false ya na yb nb = refl

module _ (l : machine.Layout) (q : machine.Core) (h : Held) (failed : List ℕ) where
  abbrev IsFine : ArmName → Type 0
  IsFine n = is_clean q h.birth n ≡ true → (answers l q n h.first ≡ true) × (fails l q failed n h.first ≡ false)

  abbrev AreAll : List ArmName → Type 0
  AreAll ns = (n : ArmName) → has_name ns n ≡ true → IsFine n

  abbrev AreBelow : ℕ → Type 0
  AreBelow count = (c : ℕ) → c < count → AreAll (q.order (l.slot_of h.first c))

  one : (n : ArmName) → Decision (IsFine n)
  one n = elim (bool_cases (is_clean q h.birth n)) [
    | inr dirty ↦ decided (λ clean. absurd_test (is_clean q h.birth n) clean dirty)
    | inl clean ↦ elim (bool_cases (answers l q n h.first)) [
      | inr silent ↦ denied (λ all. absurd_test (answers l q n h.first) (all clean).0 silent)
      | inl answers ↦ elim (bool_cases (fails l q failed n h.first)) [
        | inl bad ↦ denied (λ all. absurd_test (fails l q failed n h.first) bad (all clean).1)
        | inr good ↦ decided (λ clean. (answers, good))
      ]
    ]
  ]

  all : (ns : List ArmName) → Decision (AreAll ns)
  all [] = decided (λ n has. absurd_test false has refl)
  all (m ∷ ns) = by (one m) (all ns)
    where
      by : Decision (IsFine m) → Decision (AreAll ns) → Decision (AreAll (m ∷ ns))
      by a b = elim (bool_cases a.is) [
        | inr out ↦ denied (λ every. a.no out (every m (true_left (name_eq m m) (has_name ns m) (name_refl m))))
        | inl fine ↦ elim (bool_cases b.is) [
          | inr out ↦ denied (λ every. b.no out (λ n has. every n (true_right (name_eq m n) (has_name ns n) has)))
          | inl rest ↦ decided (λ n has. elim (either_true (name_eq m n) (has_name ns n) has) [
            | inl here ↦ subst IsFine (name_true m n here) (a.yes fine)
            | inr later ↦ b.yes rest n later
          ])
        ]
      ]

  below : (count : ℕ) → Decision (AreBelow count)
  below zero = decided (λ c less. absurd (omega (arith, less)))
  below (suc count) = by (below count) (all (q.order (l.slot_of h.first count)))
    where
      by : Decision (AreBelow count) → Decision (AreAll (q.order (l.slot_of h.first count))) → Decision (AreBelow (suc count))
      by a b = elim (bool_cases a.is) [
        | inr out ↦ denied (λ every. a.no out (λ c less. every c (omega (arith, less))))
        | inl fine ↦ elim (bool_cases b.is) [
          | inr out ↦ denied (λ every. b.no out (every count (omega arith)))
          | inl last ↦ decided (λ c less. elim (cases_lt c count) [
            | inl before ↦ a.yes fine c before
            | inr past ↦ (let here : count ≡ c = omega (arith, less, past) in subst (λ c. AreAll (q.order (l.slot_of h.first c))) here (b.yes last))
          ])
        ]
      ]

  pub whole_decided : Decision (IsWhole l q h failed)
  whole_decided = let d = below l.columns in record {
    is = d.is;
    yes = λ e c n less has clean. d.yes e c less n has clean;
    no = λ e whole. d.no e (λ c less n has clean. whole c n less has clean);
  }
