-- One place of a list, of which another value is set there.
use Rattle.std.proofs.Common.{◌≡◌, ◌∙◌, ℕ, zero, suc, List, [], ◌∷◌, Option, Some, refl, sym, ap, slice_set, length, arith, ◌<◌}
use Rattle.std.specs.Prelude.{slice_get}

pub get_set_same : {A : Type 0} (xs : List A) (m : ℕ) (x y : A) → slice_get xs m ≡ Some x → slice_get (slice_set xs m y) m ≡ Some y
get_set_same [] m x y there = absurd (cc)
get_set_same (z ∷ xs) zero x y there = refl
get_set_same (z ∷ xs) (suc m) x y there = get_set_same xs m x y there

pub get_set_other : {A : Type 0} (xs : List A) (m k : ℕ) (y : A) → (k ≡ m → ⊥) → slice_get (slice_set xs m y) k ≡ slice_get xs k
get_set_other [] m k y other = refl
get_set_other (z ∷ xs) zero zero y other = absurd (other refl)
get_set_other (z ∷ xs) zero (suc k) y other = refl
get_set_other (z ∷ xs) (suc m) zero y other = refl
get_set_other (z ∷ xs) (suc m) (suc k) y other = get_set_other xs m k y (λ same. other (ap suc same))

pub set_back : {A : Type 0} (xs : List A) (m : ℕ) (x : A) → slice_get xs m ≡ Some x → slice_set xs m x ≡ xs
set_back [] m x there = refl
set_back (z ∷ xs) zero x there = (let h : z ≡ x = cc in ap (λ w. w ∷ xs) (sym h))
set_back (z ∷ xs) (suc m) x there = ap (λ ys. z ∷ ys) (set_back xs m x there)

pub set_twice : {A : Type 0} (xs : List A) (m : ℕ) (x y : A) → slice_set (slice_set xs m x) m y ≡ slice_set xs m y
set_twice [] m x y = refl
set_twice (z ∷ xs) zero x y = refl
set_twice (z ∷ xs) (suc m) x y = ap (λ ys. z ∷ ys) (set_twice xs m x y)

pub some_of : {A : Type 0} (o : Option A) (x y : A) → o ≡ Some x → o ≡ Some y → x ≡ y
some_of o x y a b = (let h = sym a ∙ b in cc)

pub ext : {A B : Type 0} (f g : A → B) → ((x : A) → f x ≡ g x) → f ≡ g
ext f g h = λ i. λ x. h x i

-- what is at a place that is inside
pub present : {A : Type 0} (xs : List A) (m : ℕ) → m < length xs → (x : A) × (slice_get xs m ≡ Some x)
present [] m below = absurd (omega (arith, below))
present (x ∷ xs) zero below = (x, refl)
present (x ∷ xs) (suc m) below = present xs m (omega (arith, below))
