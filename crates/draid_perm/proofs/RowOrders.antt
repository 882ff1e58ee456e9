use Rattle.std.proofs.Common.{◌≡◌, ◌+◌, ◌-◌, ◌*◌, ◌%◌, ◌<◌, ◌≤◌, ℕ, zero, suc, List, [], ◌∷◌, length, refl, ap, ◌∙◌, arith}
use Rattle.std.specs.Prelude.{swap}
use Rattle.std.specs.List.{range_with_len}
use Rattle.std.specs.List.Sorted.{IsPermutation}
use Rattle.std.proofs.Math.Nat.{mod-lt}
use Rattle.std.proofs.lemmas.List.Edits.{length-swap}
use Rattle.std.proofs.lemmas.List.FromFn.{length-range_with_len}
use Rattle.std.proofs.lemmas.List.Sorted.{IsPermutation-refl, IsPermutation-swap, IsPermutation-trans, length_permutation}
use Rattle.rand_core.specs.Steps.{first_words}
use Rattle.rand_xoshiro.specs.Xoroshiro128.{plus_plus}
use Rattle.draid_perm.specs.Rows.{base_row, row_start}
use Rattle.draid_perm.specs.Shuffle.{shuffled}
use Rattle.draid_perm.specs.Words.{after, seeded, row_words}

-- a shuffle puts the items in another order
shuffled_order : (words row : List ℕ) → length words < length row → IsPermutation row (shuffled words row)
shuffled_order [] row long = IsPermutation-refl row
shuffled_order (word ∷ words) row long =
    let last : length words + 1 < length row = omega arith in
    let less : word % (length words + 2) < length words + 2 = mod-lt word (omega arith) in
    let other : word % (length words + 2) < length row = omega arith in
    let same : length (swap row (length words + 1) (word % (length words + 2))) ≡ length row = length-swap row (length words + 1) (word % (length words + 2)) in
    IsPermutation-trans row (swap row (length words + 1) (word % (length words + 2))) (shuffled words (swap row (length words + 1) (word % (length words + 2))))
    (IsPermutation-swap row (swap row (length words + 1) (word % (length words + 2))) (length words + 1) (word % (length words + 2)) last other refl)
    (shuffled_order words (swap row (length words + 1) (word % (length words + 2))) (omega arith))

length-first_words : (count : ℕ) (state : List ℕ) → length (first_words plus_plus count state) ≡ count
unfolding first_words
length-first_words zero state = refl
length-first_words (suc count) state = ap suc (length-first_words count (plus_plus state).1)

start_order : (n seed row : ℕ) → 1 ≤ n → IsPermutation (range_with_len 0 n) (row_start n seed row)
unfolding row_start
start_order n seed zero some = IsPermutation-refl (range_with_len 0 n)
start_order n seed (suc row) some =
    let before : IsPermutation (range_with_len 0 n) (row_start n seed row) = start_order n seed row some in
    let size : length (row_start n seed row) ≡ n = length_permutation (range_with_len 0 n) (row_start n seed row) before ∙ length-range_with_len 0 n in
    let words : length (row_words n seed row) ≡ n - 1 = length-first_words (n - 1) (after (row * (n - 1)) (seeded seed)) in
    IsPermutation-trans (range_with_len 0 n) (row_start n seed row) (shuffled (row_words n seed row) (row_start n seed row)) before
    (shuffled_order (row_words n seed row) (row_start n seed row) (omega arith))

-- each base row has the children in another order
pub row_order : (n seed row : ℕ) → 1 ≤ n → IsPermutation (range_with_len 0 n) (base_row n seed row)
unfolding row_start
row_order n seed row some = start_order n seed (suc row) some
