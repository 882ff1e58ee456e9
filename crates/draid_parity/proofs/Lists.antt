-- Lists of bytes that were combined place by place, or written back.
use Rattle.std.proofs.Common.{◌≡◌, ℕ, zero, suc, List, [], ◌∷◌, ◌++◌, length, get_or, take, refl, sym, ap, arith}
use Rattle.std.specs.Simd.Lanes.{zip2}

-- what a slice of a whole list leaves there
pub written_back : (n : ℕ) (xs ys : List ℕ) → length xs ≡ n → take n (xs ++ ys) ≡ xs
written_back zero [] ys same = refl
written_back zero (x ∷ xs) ys same = absurd (omega arith)
written_back (suc n) [] ys same = absurd (omega arith)
written_back (suc n) (x ∷ xs) ys same = ap (λ l. x ∷ l) (written_back n xs ys (omega arith))

pub zip2_at : (f : ℕ → ℕ → ℕ) → f 0 0 ≡ 0 → (to from : List ℕ) → length to ≡ length from → (j : ℕ)
    → get_or (zip2 f to from) j 0 ≡ f (get_or to j 0) (get_or from j 0)
zip2_at f none [] [] same j = sym none
zip2_at f none [] (y ∷ ys) same j = absurd (omega arith)
zip2_at f none (x ∷ xs) [] same j = absurd (omega arith)
zip2_at f none (x ∷ xs) (y ∷ ys) same zero = refl
zip2_at f none (x ∷ xs) (y ∷ ys) same (suc j) = zip2_at f none xs ys (omega arith) j
