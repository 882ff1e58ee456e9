use Rattle.std.proofs.Common.{◌≡◌, ◌≢◌, ◌+◌, ◌-◌, ◌*◌, ◌<◌, ◌≤◌, ℕ, zero, suc, List, [], ◌∷◌, length, take, drop, slice_index_or, slice_set, length-set, refl, sym, ap, ◌∙◌, subst, arith, ◌⊎◌, inl, inr}
use Rattle.std.specs.List.{range_with_len}
use Rattle.std.specs.List.Sorted.{IsPermutation}
use Rattle.std.proofs.lemmas.Grind.{get_or-set_at}
use Rattle.std.proofs.lemmas.List.{get_or-set_other}
use Rattle.std.proofs.lemmas.List.Sorted.{IsPermutation-refl, IsPermutation-trans}
use Rattle.rand_core.specs.Steps.{first_words}
use Rattle.rand_xoshiro.specs.Xoroshiro128.{plus_plus}
use Rattle.draid_perm.specs.Rows.{IsPermuted, base_row, row_start}
use Rattle.draid_perm.specs.Shuffle.{shuffled}
use Rattle.draid_perm.specs.Words.{after, seeded, row_words}
use Rattle.draid_perm.proofs.FillLemmas.{after-add}
use Rattle.draid_perm.proofs.Permuted.{permuted}

-- the rows so far, the row that the next one starts as, and the state of the generator
pub record AreSoFar (n seed count : ℕ) (row state : List ℕ) (rows : List (List ℕ)) : Type 0 where
  pub start : take n row ≡ row_start n seed count
  pub size : length row ≡ 64
  pub rest : drop n row ≡ range_with_len n (64 - n)
  pub now : state ≡ after (count * (n - 1)) (seeded seed)
  pub moved : IsPermutation (range_with_len 0 n) (take n row)
  pub all : length rows ≡ 16
  pub made : (k : ℕ) → k < count → take n (slice_index_or rows k []) ≡ base_row n seed k
  pub behind : (k : ℕ) → k < count → drop n (slice_index_or rows k []) ≡ range_with_len n (64 - n)
  pub mixed : (k : ℕ) → k < count → IsPermuted n (slice_index_or rows k [])

-- the first n of the first 64 numbers
take-range : (a n more : ℕ) → take n (range_with_len a (n + more)) ≡ range_with_len a n
take-range a zero more = refl
take-range a (suc n) more =
    let one : suc n + more ≡ suc (n + more) = omega arith in
    ap (λ k. take (suc n) (range_with_len a k)) one ∙ ap (λ xs. a ∷ xs) (take-range (a + 1) n more)

-- what is left of the first 64 numbers
drop-range : (a n more : ℕ) → drop n (range_with_len a (n + more)) ≡ range_with_len (a + n) more
drop-range a zero more =
    let none : 0 + more ≡ more = omega arith in
    let start : a ≡ a + 0 = omega arith in
    ap (λ k. range_with_len a k) none ∙ ap (λ k. range_with_len k more) start
drop-range a (suc n) more =
    let one : suc n + more ≡ suc (n + more) = omega arith in
    let next : a + 1 + n ≡ a + suc n = omega arith in
    ap (λ k. drop (suc n) (range_with_len a k)) one ∙ (drop-range (a + 1) n more ∙ ap (λ k. range_with_len k more) next)

pub none_so_far : (n seed : ℕ) (row state : List ℕ) (rows : List (List ℕ)) → n ≤ 64 → row ≡ range_with_len 0 64 → state ≡ seeded seed → length rows ≡ 16
    → AreSoFar n seed 0 row state rows
unfolding row_start
none_so_far n seed row state rows most is now all =
    let rest : n + (64 - n) ≡ 64 = omega arith in
    let front : take n row ≡ range_with_len 0 n = ap (take n) (is ∙ ap (range_with_len 0) (sym rest)) ∙ take-range 0 n (64 - n) in
    let none : 0 * (n - 1) ≡ 0 = omega arith in
    let start : 0 + n ≡ n = omega arith in
    let P : List ℕ → Type 0 = λ xs. IsPermutation (range_with_len 0 n) xs in
    record {
      start = front;
      size = ap length is;
      rest = ap (drop n) (is ∙ ap (range_with_len 0) (sym rest)) ∙ (drop-range 0 n (64 - n) ∙ ap (λ k. range_with_len k (64 - n)) start);
      now = now ∙ ap (λ k. after k (seeded seed)) (sym none);
      moved = subst P (sym front) (IsPermutation-refl (range_with_len 0 n));
      all = all;
      made = λ k below. absurd (omega arith);
      behind = λ k below. absurd (omega arith);
      mixed = λ k below. absurd (omega arith);
    }

-- below, or the last
last_or_below : (k count : ℕ) → k < count + 1 → (k < count) ⊎ (k ≡ count)
last_or_below k count below = grind arith

pub more_so_far : (n seed count : ℕ) (row next state later : List ℕ) (rows : List (List ℕ)) → count < 16 → 2 ≤ n → n ≤ 64
    → take n next ≡ shuffled (first_words plus_plus (n - 1) state) (take n row)
    → IsPermutation (take n row) (take n next) → drop n next ≡ drop n row → later ≡ after (n - 1) state → length next ≡ 64
    → AreSoFar n seed count row state rows → AreSoFar n seed (count + 1) next later (slice_set rows count next)
unfolding row_start
more_so_far n seed count row next state later rows within least most front moves stays steps size s =
    let words : first_words plus_plus (n - 1) state ≡ row_words n seed count = ap (first_words plus_plus (n - 1)) s.now in
    let row_is : take n next ≡ base_row n seed count
    = front ∙ (ap (λ ws. shuffled ws (take n row)) words ∙ ap (shuffled (row_words n seed count)) s.start) in
    let one : count + 1 ≡ suc count = omega arith in
    let more : count * (n - 1) + (n - 1) ≡ (count + 1) * (n - 1) = grind arith in
    let moved : IsPermutation (range_with_len 0 n) (take n next) = IsPermutation-trans (range_with_len 0 n) (take n row) (take n next) s.moved moves in
    let mixed : IsPermuted n next = permuted n next (omega arith) moved in
    let within_all : count < length rows = let all : length rows ≡ 16 = s.all in omega arith in
    record {
      start = row_is ∙ ap (row_start n seed) (sym one);
      size = size;
      rest = stays ∙ s.rest;
      now = steps ∙ (ap (after (n - 1)) s.now ∙ (sym (after-add (count * (n - 1)) (n - 1) (seeded seed)) ∙ ap (λ k. after k (seeded seed)) more));
      moved = moved;
      all = length-set rows count next ∙ s.all;
      made = λ k below. made_at k (last_or_below k count below) row_is within_all;
      behind = λ k below. behind_at k (last_or_below k count below) (stays ∙ s.rest) within_all;
      mixed = λ k below. mixed_at k (last_or_below k count below) mixed within_all;
    }
  where
    made_at : (k : ℕ) → (k < count) ⊎ (k ≡ count) → take n next ≡ base_row n seed count → count < length rows
        → take n (slice_index_or (slice_set rows count next) k []) ≡ base_row n seed k
    made_at k (inl below) is room =
        let other : k ≢ count = omega arith in
        ap (take n) (get_or-set_other rows count k next [] other) ∙ s.made k below
    made_at k (inr last) is room =
        ap (take n) (get_or-set_at rows count k next [] last room) ∙ (is ∙ ap (base_row n seed) (sym last))

    behind_at : (k : ℕ) → (k < count) ⊎ (k ≡ count) → drop n next ≡ range_with_len n (64 - n) → count < length rows
        → drop n (slice_index_or (slice_set rows count next) k []) ≡ range_with_len n (64 - n)
    behind_at k (inl below) is room =
        let other : k ≢ count = omega arith in
        ap (drop n) (get_or-set_other rows count k next [] other) ∙ s.behind k below
    behind_at k (inr last) is room =
        ap (drop n) (get_or-set_at rows count k next [] last room) ∙ is

    mixed_at : (k : ℕ) → (k < count) ⊎ (k ≡ count) → IsPermuted n next → count < length rows → IsPermuted n (slice_index_or (slice_set rows count next) k [])
    mixed_at k (inl below) is room =
        let other : k ≢ count = omega arith in
        let P : List ℕ → Type 0 = λ r. IsPermuted n r in
        subst P (sym (get_or-set_other rows count k next [] other)) (s.mixed k below)
    mixed_at k (inr last) is room =
        let P : List ℕ → Type 0 = λ r. IsPermuted n r in
        subst P (sym (get_or-set_at rows count k next [] last room)) is
