-- An element that passes a test stands at some place.
use Rattle.std.proofs.Common.{◌≡◌, ◌<◌, ◌||◌, suc, ℕ, Bool, true, false, List, [], ◌∷◌, arith, refl, sym, length}
use Rattle.std.specs.Prelude.{slice_index_or}
use Rattle.std.specs.List.{list_any}
use Rattle.std.proofs.lemmas.Bool.{true≢false}

pub any_where : {X : Type 0} (p : X → Bool) (xs : List X) (d : X) → list_any p xs ≡ true → (k : ℕ) × (k < length xs) × (p (slice_index_or xs k d) ≡ true)
any_where p [] d any = absurd (true≢false (sym any))
any_where p (x ∷ xs) d any = by (p x) refl any (any_where p xs d)
  where
    by : (b : Bool) → p x ≡ b → (b || list_any p xs) ≡ true → (list_any p xs ≡ true → (k : ℕ) × (k < length xs) × (p (slice_index_or xs k d) ≡ true))
        → (k : ℕ) × (k < length (x ∷ xs)) × (p (slice_index_or (x ∷ xs) k d) ≡ true)
    by true is any rest = (0, omega arith, is)
    by false is any rest = let z = rest any in (suc z.0, (let l = z.1 in omega (arith, l)), z.2)
