-- What is said of two lists place by place.
use Rattle.std.proofs.Common.{◌≡◌, ◌<◌, ◌≤◌, ◌+◌, ◌++◌, ◌∙◌, ℕ, zero, suc, List, [], ◌∷◌, Some, Contains, arith, refl, sym, ap, subst, get_or, length, take}
use Rattle.std.specs.Prelude.{slice_get}
use Rattle.std.specs.List.{AllZip}
use Rattle.std.proofs.Math.Seq.{take-suc}
use Rattle.std.proofs.lemmas.List.{take_all}
use Rattle.std.proofs.lemmas.Option.{get_or_from_slice_get, slice_get-get_or, slice_get_within}
use Rattle.draid_machine.proofs.Small.{none_some}

module _ {A B : Type 0} (P : A → B → Type 0) where
  pub zip_left : (xs : List A) (ys : List B) → AllZip P xs ys → (m : ℕ) (x : A) → slice_get xs m ≡ Some x → (y : B) × (slice_get ys m ≡ Some y) × P x y
  zip_left [] ys zip m x at = absurd (none_some (slice_get [] m) x refl at)
  zip_left (z ∷ xs) [] zip m x at = absurd zip
  zip_left (z ∷ xs) (y ∷ ys) zip zero x at = (y, refl, subst (λ (w : A). P w y) (let same : z ≡ x = cc in same) zip.0)
  zip_left (z ∷ xs) (y ∷ ys) zip (suc m) x at = zip_left xs ys zip.1 m x at

  pub zip_right : (xs : List A) (ys : List B) → AllZip P xs ys → (m : ℕ) (y : B) → slice_get ys m ≡ Some y → (x : A) × (slice_get xs m ≡ Some x) × P x y
  zip_right xs [] zip m y at = absurd (none_some (slice_get [] m) y refl at)
  zip_right [] (z ∷ ys) zip m y at = absurd zip
  zip_right (x ∷ xs) (z ∷ ys) zip zero y at = (x, refl, subst (λ (w : B). P x w) (let same : z ≡ y = cc in same) zip.0)
  zip_right (x ∷ xs) (z ∷ ys) zip (suc m) y at = zip_right xs ys zip.1 m y at

  pub zip_long : (xs : List A) (ys : List B) → AllZip P xs ys → length ys ≡ length xs
  zip_long [] [] zip = refl
  zip_long [] (y ∷ ys) zip = absurd zip
  zip_long (x ∷ xs) [] zip = absurd zip
  zip_long (x ∷ xs) (y ∷ ys) zip = ap suc (zip_long xs ys zip.1)

  pub zip_end : (xs : List A) (ys : List B) (x : A) (y : B) → AllZip P xs ys → P x y → AllZip P (xs ++ x ∷ []) (ys ++ y ∷ [])
  zip_end [] [] x y zip is = (is, tt)
  zip_end [] (z ∷ ys) x y zip is = absurd zip
  zip_end (z ∷ xs) [] x y zip is = absurd zip
  zip_end (w ∷ xs) (z ∷ ys) x y zip is = (zip.0, zip_end xs ys x y zip.1 is)

  pub zip_none : (xs : List A) (ys : List B) → ys ≡ [] → AllZip P (take 0 xs) ys
  zip_none xs ys none = subst (λ (zs : List B). AllZip P (take 0 xs) zs) (sym none) tt

  -- one place more
  pub zip_more : (xs : List A) (k : ℕ) (ys : List B) (x : A) (y : B) → k < length xs → x ≡ get_or xs k x → P x y → AllZip P (take k xs) ys → AllZip P (take (k + 1) xs) (ys ++ y ∷ [])
  zip_more xs k ys x y below here is zip = subst (λ (zs : List A). AllZip P zs (ys ++ y ∷ [])) (sym (step (k + 1) (omega arith))) (zip_end (take k xs) ys x y zip is)
    where
      step : (n : ℕ) → n ≡ suc k → take n xs ≡ take k xs ++ x ∷ []
      step n same = ap (λ (j : ℕ). take j xs) same ∙ take-suc xs k x below ∙ ap (λ (w : A). take k xs ++ w ∷ []) (sym here)

  pub zip_all : (xs : List A) (k : ℕ) (ys : List B) → length xs ≤ k → AllZip P (take k xs) ys → AllZip P xs ys
  zip_all xs k ys end zip = subst (λ (zs : List A). AllZip P zs ys) (take_all k xs end) zip

-- an element by its place
pub found_at : {A : Type 0} (xs : List A) (x : A) → Contains xs x → (m : ℕ) × (slice_get xs m ≡ Some x)
found_at xs x c = (c.0, slice_get-get_or xs c.0 x c.1 ∙ ap Some c.2)

pub contains_at : {A : Type 0} (xs : List A) (m : ℕ) (x : A) → slice_get xs m ≡ Some x → Contains xs x
contains_at xs m x at = (m, slice_get_within xs m x at, get_or_from_slice_get xs m x x at)
