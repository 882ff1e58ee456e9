use Rattle.std.specs.Prelude.{◌≡◌, ◌==◌, ◌⊎◌, ℕ, Bool, true, false}
use Rattle.std.specs.Coded.{Coded-set, coded_ℕ}
use mathlib.Core.Logic.{inl, inr}
use mathlib.Core.Path.{◌∙◌, refl, sym, ap, subst}

-- a fact of one truth value alone
abbrev pub only_false : Bool → Type 0
only_false true = ⊥
only_false false = Unit {0}

-- one of two numbers that differ: in one way at most
pub either_prop : (a b n : ℕ) → (a == b) ≡ false → (b == b) ≡ true → IsProp ((n ≡ a) ⊎ (n ≡ b))
either_prop a b n differ same (inl x) (inl y) = ap inl (Coded-set coded_ℕ n a x y)
either_prop a b n differ same (inl x) (inr y) = absurd (subst only_false (sym differ ∙ ap (λ k. k == b) (sym x ∙ y) ∙ same) tt)
either_prop a b n differ same (inr x) (inl y) = absurd (subst only_false (sym differ ∙ ap (λ k. k == b) (sym y ∙ x) ∙ same) tt)
either_prop a b n differ same (inr x) (inr y) = ap inr (Coded-set coded_ℕ n b x y)

pub version_prop : (n : ℕ) → IsProp ((n ≡ 1) ⊎ (n ≡ 2))
version_prop n = either_prop 1 2 n refl refl

pub sector_prop : (n : ℕ) → IsProp ((n ≡ 512) ⊎ (n ≡ 4096))
sector_prop n = either_prop 512 4096 n refl refl
