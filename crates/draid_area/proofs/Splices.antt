use Rattle.std.proofs.Common.{arith, rules, ◌≡◌, ◌≤◌, ◌<◌, ◌+◌, ◌-◌, ◌⊎◌, ℕ, true, false, List, [], ◌++◌, length, drop, replicate, slice_index_or}
use Rattle.std.proofs.lemmas.Bool.Decides.{nat_tests}
use Rattle.std.proofs.lemmas.List.{places, same_lists, take-append-drop}
use Rattle.std.specs.List.{splice}
use Rattle.draid_area.specs.Area.{within}

pub is_within : (at n i : ℕ) → within at n i ≡ true → (at ≤ i) × (i < at + n)
is_within at n i is = grind (arith, nat_tests)

is_outside : (at n i : ℕ) → within at n i ≡ false → (i < at) ⊎ (at + n ≤ i)
is_outside at n i is = grind (arith, nat_tests)

is_in : (at n i : ℕ) → at ≤ i → i < at + n → within at n i ≡ true
is_in at n i low high = grind (arith, nat_tests)

pub splice_before : {A : Type 0} (xs ys : List A) (at n i : ℕ) (d : A) → at ≤ length xs → i < at → slice_index_or (splice xs at (at + n) ys) i d ≡ slice_index_or xs i d
splice_before xs ys at n i d inside h = grind (arith, places)

pub splice_behind : {A : Type 0} (xs ys : List A) (at n i : ℕ) (d : A) → at ≤ length xs → n ≡ length ys → at + n ≤ i → slice_index_or (splice xs at (at + n) ys) i d ≡ slice_index_or xs i d
splice_behind xs ys at n i d inside is h = grind (arith, places)

pub splice_inside : {A : Type 0} (xs ys : List A) (at n i : ℕ) (d : A) → at ≤ length xs → n ≡ length ys → at ≤ i → i < at + n → slice_index_or (splice xs at (at + n) ys) i d ≡ slice_index_or ys (i - at) d
splice_inside xs ys at n i d inside is low high = grind (arith, places)

-- a byte outside of what was written
pub splice_outside : {A : Type 0} (xs ys : List A) (at n i : ℕ) (d : A) → at ≤ length xs → n ≡ length ys → within at n i ≡ false → slice_index_or (splice xs at (at + n) ys) i d ≡ slice_index_or xs i d
splice_outside xs ys at n i d inside is out = grind (arith, is_outside at n i out, splice_before xs ys at n i d inside, splice_behind xs ys at n i d inside is)

pub length-splice : {A : Type 0} (xs ys : List A) (at n : ℕ) → n ≡ length ys → length xs ≤ length (splice xs at (at + n) ys)
length-splice xs ys at n is = grind (arith, places)

pub splice_nothing : {A : Type 0} (xs : List A) (at : ℕ) → splice xs at (at + 0) [] ≡ xs
splice_nothing xs at = let e : at + 0 ≡ at = omega arith in rw e (take-append-drop at xs)

drop_padded : {A : Type 0} (v : A) (xs : List A) (m : ℕ) → drop m (xs ++ replicate (m - length xs) v) ≡ drop m xs
drop_padded v xs m = same_lists _ _ (search (rules, places)) (λ k d h. grind (arith, places))

-- what was added first is overwritten
pub splice_padded : {A : Type 0} (v : A) (xs ys : List A) (at n : ℕ) → at ≤ length xs → splice (xs ++ replicate (at + n - length xs) v) at (at + n) ys ≡ splice xs at (at + n) ys
splice_padded v xs ys at n inside = same_lists _ _ (search (rules, places)) (λ k d h. grind (arith, places))
