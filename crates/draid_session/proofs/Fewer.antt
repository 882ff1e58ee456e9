-- Numbers of a list, each of which takes one of another list for itself, are no more than these.
use Rattle.std.proofs.Common.{◌≡◌, ◌∙◌, ◌+◌, ◌<◌, ◌≤◌, ◌⊎◌, ℕ, zero, suc, List, [], ◌∷◌, All, length, inl, inr, refl, sym, ap, subst, arith}
use Rattle.std.specs.Prelude.{⊤, Contains}
use Rattle.std.specs.List.{AllPairs}
use Rattle.std.specs.List.Sorted.{IsStrictlyIncreasing}
use Rattle.std.proofs.lemmas.List.Kept.{AllPairs-from_increasing}

-- a list has a number
abbrev pub Has : List ℕ → ℕ → Type 0
Has [] x = ⊥
Has (y ∷ ys) x = (y ≡ x) ⊎ Has ys x

pub to_has : (xs : List ℕ) (x : ℕ) → Contains xs x → Has xs x
to_has [] x (k, less, is) = absurd (omega (arith, less))
to_has (y ∷ ys) x (zero, less, is) = inl is
to_has (y ∷ ys) x (suc k, less, is) = inr (to_has ys x (k, omega (arith, less), is))

pub all_has : (P : ℕ → Type 0) (xs : List ℕ) (x : ℕ) → All P xs → Has xs x → P x
all_has P [] x all at = absurd at
all_has P (y ∷ ys) x all (inl is) = subst P is (all zero y (omega arith))
all_has P (y ∷ ys) x all (inr at) = all_has P ys x (λ k d less. all (suc k) d (omega (arith, less))) at

-- a list without a number that it has
abbrev without : (xs : List ℕ) (x : ℕ) → Has xs x → List ℕ
without [] x at = []
without (y ∷ ys) x (inl is) = ys
without (y ∷ ys) x (inr at) = y ∷ without ys x at

one_less : (xs : List ℕ) (x : ℕ) (at : Has xs x) → length xs ≡ suc (length (without xs x at))
one_less [] x at = absurd at
one_less (y ∷ ys) x (inl is) = refl
one_less (y ∷ ys) x (inr at) = ap suc (one_less ys x at)

has_still : (xs : List ℕ) (x z : ℕ) (at : Has xs x) → Has xs z → (z ≡ x → ⊥) → Has (without xs x at) z
has_still [] x z at there other = absurd at
has_still (y ∷ ys) x z (inl is) (inl same) other = absurd (other (sym same ∙ is))
has_still (y ∷ ys) x z (inl is) (inr there) other = there
has_still (y ∷ ys) x z (inr at) (inl same) other = inl same
has_still (y ∷ ys) x z (inr at) (inr there) other = inr (has_still ys x z at there other)

-- no number stands in a list twice
abbrev pub AreOnce : List ℕ → Type 0
AreOnce [] = ⊤
AreOnce (x ∷ xs) = ((z : ℕ) → Has xs z → x ≡ z → ⊥) × AreOnce xs

pairs_once : (xs : List ℕ) → AllPairs (λ x y. x < y) xs → AreOnce xs
pairs_once [] pairs = tt
pairs_once (x ∷ xs) pairs = (
  λ z at same. (let less : x < z = all_has (λ z. x < z) xs z (λ k d inside. pairs zero (suc k) d (omega arith) (omega (arith, inside))) at in omega (arith, less, same)),
  pairs_once xs (λ i j d less inside. pairs (suc i) (suc j) d (omega (arith, less)) (omega (arith, inside))),
)

pub increasing_once : (xs : List ℕ) → IsStrictlyIncreasing xs → AreOnce xs
increasing_once xs rise = pairs_once xs (AllPairs-from_increasing xs rise)

-- Each takes a number of the one list or of the other, and no two take the same.
module _ (P Q : ℕ → ℕ → Type 0) (one : (c d s : ℕ) → P c s → P d s → c ≡ d) (two : (c d s : ℕ) → Q c s → Q d s → c ≡ d) where
  abbrev pub Takes : List ℕ → List ℕ → ℕ → Type 0
  Takes ss ms c = ((s : ℕ) × Has ss s × P c s) ⊎ ((m : ℕ) × Has ms m × Q c m)

  pub fewer : (cs ss ms : List ℕ) → AreOnce cs → ((c : ℕ) → Has cs c → Takes ss ms c) → length cs ≤ length ss + length ms
  fewer [] ss ms once all = omega arith
  fewer (c ∷ cs) ss ms once all = elim (all c (inl refl)) [
    | inl (s, at, p) ↦ (
        let rest = fewer cs (without ss s at) ms once.1 (λ d there. elim (all d (inr there)) [
          | inl (t, in_there, q) ↦ inl (t, has_still ss s t at in_there (λ same. once.0 d there (one c d s p (subst (P d) same q))), q)
          | inr other ↦ inr other
        ]) in
        let long = one_less ss s at in
        omega (arith, rest, long))
    | inr (m, at, p) ↦ (
        let rest = fewer cs ss (without ms m at) once.1 (λ d there. elim (all d (inr there)) [
          | inl other ↦ inl other
          | inr (t, in_there, q) ↦ inr (t, has_still ms m t at in_there (λ same. once.0 d there (two c d m p (subst (Q d) same q))), q)
        ]) in
        let long = one_less ms m at in
        omega (arith, rest, long))
  ]
