-- Facts of each number below a bound, by computing.
use Rattle.std.proofs.Common.{◌≡◌, ℕ, zero, suc, ◌<◌, ◌⊎◌, Bool, true, false, ◌&&◌, ◌==◌, refl, sym, subst, inl, inr, arith}
use Rattle.std.proofs.lemmas.Bool.{cases_order, eqb-true}

-- the test passes at each number below n
abbrev pub passes_below : (ℕ → Bool) → ℕ → Bool
passes_below p zero = true
passes_below p (suc n) = p n && passes_below p n

both : (a b : Bool) → (a && b) ≡ true → (a ≡ true) × (b ≡ true)
both true b h = (refl, h)
both false b h = cc

pub passes_at : (p : ℕ → Bool) (n : ℕ) → passes_below p n ≡ true → (i : ℕ) → i < n → p i ≡ true
passes_at p zero h i below = absurd (omega arith)
passes_at p (suc n) h i below = at_last (passes_at p n (both (p n) (passes_below p n) h).1 i) (cases_order i n)
  where
    at_last : (i < n → p i ≡ true) → (i ≡ n) ⊎ ((i < n) ⊎ (n < i)) → p i ≡ true
    at_last lower (inl e) = subst (λ x. p x ≡ true) (sym e) (both (p n) (passes_below p n) h).0
    at_last lower (inr (inl l)) = lower l
    at_last lower (inr (inr g)) = let no : ⊥ = omega arith in absurd no

-- two numbers are the same at each place below n
pub same_at : (f g : ℕ → ℕ) (n : ℕ) → passes_below (λ i. f i == g i) n ≡ true → (i : ℕ) → i < n → f i ≡ g i
same_at f g n h i below = eqb-true (f i) (g i) (passes_at (λ j. f j == g j) n h i below)
