use Rattle.std.proofs.Common.{◌≡◌, ◌≢◌, ◌==◌, ◌<◌, ◌≤◌, ℕ, true, List, length, take, get_or, refl, sym, ◌∙◌, arith}
use Rattle.std.specs.Prelude.{swap}
use Rattle.std.specs.List.{range_with_len, list_any}
use Rattle.std.specs.List.Sorted.{IsPermutation}
use Rattle.std.proofs.lemmas.Bool.Decides.{nat_tests}
use Rattle.std.proofs.lemmas.List.{get_or-take, length-take-le}
use Rattle.std.proofs.lemmas.List.Edits.{Swapped, swapped_from_swap, length-swap}
use Rattle.std.proofs.lemmas.List.Folds.{list_any_at}
use Rattle.std.proofs.lemmas.List.FromFn.{length-range_with_len, get_or-range_with_len}
use Rattle.std.proofs.lemmas.List.Sorted.{IsPermutation-keeps, list_any-IsPermutation}
use Rattle.draid_perm.specs.Rows.{IsPermuted}

-- items below n, no two of them alike
pub record IsSpread (n : ℕ) (row : List ℕ) : Type 0 where
  pub below : (i : ℕ) → i < length row → get_or row i 0 < n
  pub apart : (i j : ℕ) → i < length row → j < length row → get_or row i 0 ≡ get_or row j 0 → i ≡ j

in_order : (n : ℕ) → IsSpread n (range_with_len 0 n)
in_order n = record {
  below = λ i within.
      let short : i < n = omega (arith, length-range_with_len 0 n) in
      omega (arith, get_or-range_with_len 0 n i 0 short);
  apart = λ i j within other same.
      let short : i < n = omega (arith, length-range_with_len 0 n) in
      let shorter : j < n = omega (arith, length-range_with_len 0 n) in
      omega (arith, get_or-range_with_len 0 n i 0 short, get_or-range_with_len 0 n j 0 shorter);
}

swapped_below : (f g : ℕ → ℕ) (a b n size : ℕ) → a < size → b < size → Swapped f g a b → ((i : ℕ) → i < size → f i < n) → (i : ℕ) → i < size → g i < n
swapped_below f g a b n size left right s below i within =
    let one : g a ≡ f b = s.0 in
    let two : g b ≡ f a = s.1 in
    let rest : (i ≢ a) → (i ≢ b) → g i ≡ f i = s.2 i in
    let fa : f a < n = below a left in
    let fb : f b < n = below b right in
    let fi : f i < n = below i within in
    grind arith

swapped_apart : (f g : ℕ → ℕ) (a b size : ℕ) → a < size → b < size → Swapped f g a b
    → ((i j : ℕ) → i < size → j < size → f i ≡ f j → i ≡ j) → (i j : ℕ) → i < size → j < size → g i ≡ g j → i ≡ j
swapped_apart f g a b size left right s apart i j within other same =
    let one : g a ≡ f b = s.0 in
    let two : g b ≡ f a = s.1 in
    let rest_i : (i ≢ a) → (i ≢ b) → g i ≡ f i = s.2 i in
    let rest_j : (j ≢ a) → (j ≢ b) → g j ≡ f j = s.2 j in
    let ab : f a ≡ f b → a ≡ b = apart a b left right in
    let aj : f a ≡ f j → a ≡ j = apart a j left other in
    let bj : f b ≡ f j → b ≡ j = apart b j right other in
    let ai : f a ≡ f i → a ≡ i = apart a i left within in
    let bi : f b ≡ f i → b ≡ i = apart b i right within in
    let ij : f i ≡ f j → i ≡ j = apart i j within other in
    grind arith

spread-swap : (n : ℕ) (row : List ℕ) (i j : ℕ) → i < length row → j < length row → IsSpread n row → IsSpread n (swap row i j)
spread-swap n row a b left right s =
    let same : length (swap row a b) ≡ length row = length-swap row a b in
    let moved : Swapped (λ i. get_or row i 0) (λ i. get_or (swap row a b) i 0) a b = swapped_from_swap row (swap row a b) a b 0 left right refl in
    record {
      below = λ i within. swapped_below (λ i. get_or row i 0) (λ i. get_or (swap row a b) i 0) a b n (length row) left right moved s.below i (omega arith);
      apart = λ i j within other. swapped_apart (λ i. get_or row i 0) (λ i. get_or (swap row a b) i 0) a b (length row) left right moved s.apart i j (omega arith) (omega arith);
    }

-- a row whose front is the first n numbers in another order
pub permuted : (n : ℕ) (row : List ℕ) → n ≤ length row → IsPermutation (range_with_len 0 n) (take n row) → IsPermuted n row
permuted n row long is =
    let s : IsSpread n (take n row) = IsPermutation-keeps (range_with_len 0 n) (λ l. IsSpread n l) (in_order n) (λ l i j. spread-swap n l i j) (take n row) is in
    let size : length (take n row) ≡ n = length-take-le n row long in
    record {
      below = λ i short.
          let item : get_or (take n row) i 0 < n = s.below i (omega arith) in
          omega (arith, get_or-take n row i 0 short);
      apart = λ i j short shorter same.
          s.apart i j (omega arith) (omega arith) (get_or-take n row i 0 short ∙ (same ∙ sym (get_or-take n row j 0 shorter)));
      onto = λ child short.
          let at : get_or (range_with_len 0 n) child 0 ≡ child = omega (arith, get_or-range_with_len 0 n child 0 short) in
          let there : list_any (λ item. item == child) (range_with_len 0 n) ≡ true
          = list_any_at (λ item. item == child) (range_with_len 0 n) child 0 (omega (arith, length-range_with_len 0 n)) (grind (arith, nat_tests)) in
          sym (list_any-IsPermutation (λ item. item == child) (range_with_len 0 n) (take n row) is) ∙ there;
    }
