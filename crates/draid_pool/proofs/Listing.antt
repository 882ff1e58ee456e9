-- How many of a list are so.
use Rattle.std.proofs.Common.{◌≡◌, ◌+◌, ◌++◌, ◌⊎◌, inl, inr, ℕ, List, [], ◌∷◌, Option, Some, None, refl, sym, ap, subst}
use Rattle.draid_session.specs.Looks.{CountIs}
use Rattle.draid_shard.specs.declared.fault.Shut.{Shut}
use Rattle.draid_shard.specs.declared.fault.Shut.TheVariants as shut
use Rattle.draid_pool.specs.Looking.{CountsOne}

count_more : {A : Type 0} (P : A → Type 0) (xs : List A) (x : A) (n : ℕ) → P x → CountIs P xs n → CountIs P (xs ++ x ∷ []) (n + 1)
count_more P [] x n is counted = inl (is, n, refl, counted)
count_more P (y ∷ xs) x n is counted = elim counted [
  | inl z ↦ inl (z.0, z.1 + 1, ap (λ k. k + 1) z.2, count_more P xs x z.1 is z.3)
  | inr z ↦ inr (z.0, count_more P xs x n is z.1)
]

count_not : {A : Type 0} (P : A → Type 0) (xs : List A) (x : A) (n : ℕ) → (P x → ⊥) → CountIs P xs n → CountIs P (xs ++ x ∷ []) n
count_not P [] x n other counted = inr (other, counted)
count_not P (y ∷ xs) x n other counted = elim counted [
  | inl z ↦ inl (z.0, z.1, z.2, count_not P xs x z.1 other z.3)
  | inr z ↦ inr (z.0, count_not P xs x n other z.1)
]

pub is_reason : (reason : Option Shut) (why : Shut) → (reason ≡ Some why) ⊎ (reason ≡ Some why → ⊥)
is_reason None why = inr (λ same. absurd (cc))
is_reason (Some shut.Disabled) shut.Disabled = inl refl
is_reason (Some shut.Disabled) shut.Full = inr (λ same. absurd (cc))
is_reason (Some shut.Disabled) shut.Worn = inr (λ same. absurd (cc))
is_reason (Some shut.Full) shut.Disabled = inr (λ same. absurd (cc))
is_reason (Some shut.Full) shut.Full = inl refl
is_reason (Some shut.Full) shut.Worn = inr (λ same. absurd (cc))
is_reason (Some shut.Worn) shut.Disabled = inr (λ same. absurd (cc))
is_reason (Some shut.Worn) shut.Full = inr (λ same. absurd (cc))
is_reason (Some shut.Worn) shut.Worn = inl refl

-- one more of a list, where it is so just where this is the reason
pub count_one : {V : Type 0} (P : V → Type 0) (views : List V) (v : V) (reason : Option Shut) (why : Shut) (old new : ℕ) → CountsOne reason why old new → (reason ≡ Some why → P v) × ((reason ≡ Some why → ⊥) → P v → ⊥) → CountIs P views old
    → CountIs P (views ++ v ∷ []) new
count_one P views v reason why old new counts so counted = elim (is_reason reason why) [
  | inl is ↦ subst (CountIs P (views ++ v ∷ [])) (sym (counts.more is)) (count_more P views v old (so.0 is) counted)
  | inr other ↦ subst (CountIs P (views ++ v ∷ [])) (sym (counts.same other)) (count_not P views v old (so.1 other) counted)
]
