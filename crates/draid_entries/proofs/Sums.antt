-- Sums over the numbers below a bound.
use Rattle.std.proofs.Common.{◌≡◌, ◌+◌, ◌<◌, ℕ, zero, suc, arith, refl, ap, inl, inr}
use Rattle.std.proofs.lemmas.Bool.{cases_lt}
use Rattle.draid_entries.specs.Entries.{sum_below}

-- numbers that are the same have the same sum
pub sum_same : (f g : ℕ → ℕ) (n : ℕ) → ((k : ℕ) → k < n → g k ≡ f k) → sum_below g n ≡ sum_below f n
unfolding sum_below
sum_same f g zero same = refl
sum_same f g (suc n) same = let before = sum_same f g n (λ k lt. same k (omega arith)) in let last = same n (omega arith) in omega (arith, before, last)

-- a sum in which one number is another
pub sum_set : (f g : ℕ → ℕ) (n at : ℕ) → at < n → ((k : ℕ) → (k ≡ at → ⊥) → g k ≡ f k) → sum_below g n + f at ≡ sum_below f n + g at
unfolding sum_below
sum_set f g zero at lt same = absurd (omega (arith, lt))
sum_set f g (suc n) at lt same = elim (cases_lt at n) [
  | inl lower ↦
      let before = sum_set f g n at lower same in
      let last = same n (λ e. omega (arith, e, lower)) in
      omega (arith, before, last)
  | inr here ↦ own (omega (arith, lt, here))
] where
  own : at ≡ n → sum_below g n + g n + f at ≡ sum_below f n + f n + g at
  own e =
      let before = sum_same f g n (λ k less. same k (λ k_is. omega (arith, k_is, e, less))) in
      let a : f at ≡ f n = ap f e in
      let b : g at ≡ g n = ap g e in
      omega (arith, before, a, b)

pub sum_none : (f : ℕ → ℕ) (n : ℕ) → ((k : ℕ) → f k ≡ 0) → sum_below f n ≡ 0
unfolding sum_below
sum_none f zero none = refl
sum_none f (suc n) none = let before = sum_none f n none in let last = none n in omega (arith, before, last)
