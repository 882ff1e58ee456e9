-- Ascending lists.
use Rattle.std.proofs.Common.{◌≡◌, ◌≤◌, ◌<◌, ◌+◌, ◌∙◌, ℕ, zero, suc, List, Some, arith, refl, sym, ap, subst, inl, inr, length, get_or}
use Rattle.std.specs.Prelude.{Contains}
use Rattle.std.specs.List.Sorted.{IsStrictlyIncreasing}
use Rattle.std.proofs.lemmas.Bool.{cases_lt}
use Rattle.std.proofs.lemmas.List.Elements.{Contains-get_or}
use Rattle.std.proofs.lemmas.Option.{get_or_from_slice_get, slice_get-get_or}

monotone : (ys : List ℕ) → IsStrictlyIncreasing ys → (j i : ℕ) → j ≤ i → i < length ys → get_or ys j 0 ≤ get_or ys i 0
monotone ys up j zero before inside = let same : j ≡ 0 = omega (arith, before) in subst (λ k. get_or ys k 0 ≤ get_or ys 0 0) (sym same) (omega arith)
monotone ys up j (suc i) before inside = elim (cases_lt i j) [
  | inl lt ↦ (let same : j ≡ suc i = omega (arith, before, lt) in subst (λ k. get_or ys k 0 ≤ get_or ys (suc i) 0) (sym same) (omega arith))
  | inr ge ↦
      let rest = monotone ys up j i ge (omega (arith, inside)) in
      let next : i + 1 ≡ suc i = omega arith in
      let step = subst (λ k. get_or ys i 0 < get_or ys k 0) next (up i (omega (arith, inside))) in
      omega (arith, rest, step)
]

module _ (xs ys : List ℕ) (rise : IsStrictlyIncreasing xs) (up : IsStrictlyIncreasing ys) (all : (i : ℕ) → Contains xs i → Contains ys i) where
  found : (k : ℕ) → k < length xs → (j : ℕ) × (j < length ys) × (get_or ys j 0 ≡ get_or xs k 0)
  found k below =
      let z = all (get_or xs k 0) (Contains-get_or xs k 0 below) in
      (z.0, z.1, get_or_from_slice_get ys z.0 (get_or xs k 0) 0 (slice_get-get_or ys z.0 (get_or xs k 0) z.1 ∙ ap Some z.2))

  later : (k : ℕ) → k < length xs → (j : ℕ) → j < length ys → get_or ys j 0 ≡ get_or xs k 0 → k ≤ j
  later zero below j inside is = omega arith
  later (suc k) below j inside is =
      let z = found k (omega (arith, below)) in
      let before = later k (omega (arith, below)) z.0 z.1 z.2 in
      let next : k + 1 ≡ suc k = omega arith in
      let step = subst (λ n. get_or xs k 0 < get_or xs n 0) next (rise k (omega (arith, below))) in
      elim (cases_lt z.0 j) [
        | inl lt ↦ omega (arith, before, lt)
        | inr ge ↦ (let low = monotone ys up j z.0 ge z.1 in let a = z.2 in absurd (omega (arith, step, a, is, low)))
      ]

  pub fewer : length xs ≤ length ys
  fewer = by (length xs) refl
    where
      by : (n : ℕ) → length xs ≡ n → length xs ≤ length ys
      by zero is = omega (arith, is)
      by (suc n) is =
          let z = found n (omega (arith, is)) in
          let low = later n (omega (arith, is)) z.0 z.1 z.2 in
          let high = z.1 in
          omega (arith, is, low, high)
