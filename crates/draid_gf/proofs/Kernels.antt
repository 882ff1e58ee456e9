-- Columns to which others are added, vector by vector and byte by byte.
use Rattle.std.proofs.Common.{◌≡◌, ℕ, ◌+◌, ◌-◌, ◌<◌, ◌≤◌, ◌∙◌, List, length, map, set, get_or, bit_xor, refl, sym, ap, subst, inl, inr, arith, length-set, get_or-set_same, get_or-set_other}
use Rattle.std.specs.Prelude.{slice_index}
use Rattle.std.specs.Simd.Lanes.{zip2, put_chunk, chunk}
use Rattle.std.proofs.lemmas.Bool.{cases_lt}
use Rattle.std.proofs.lemmas.Grind.{same_number_lists}
use Rattle.std.proofs.lemmas.Simd.{length-zip2, get_or-zip2, length-put_chunk, get_or-put_chunk_below, get_or-put_chunk_at, get_or-put_chunk_above, length-chunk, get_or-chunk}
use Rattle.draid_gf.specs.Lanes.{HasLanes, IsAdded}
use Rattle.draid_gf.proofs.LaneLemmas.{HasLanes-map}

pub added_none : (f : ℕ → ℕ → ℕ) (from old : List ℕ) (at : ℕ) → at ≤ length old → IsAdded f from old old at at
added_none f from old at inside = record {
  ordered = omega arith;
  inside = inside;
  long = refl;
  added = λ k low high. absurd (omega arith);
  below = λ k low. refl;
  above = λ k high. refl;
}

-- a vector more
pub vector_added : (f : ℕ → ℕ → ℕ) (from old now sums : List ℕ) (first at : ℕ) → at + 32 ≤ length now → IsAdded f from old now first at
    → HasLanes 32 sums (λ k. f (slice_index now (at + k)) (slice_index from (at + k)))
    → IsAdded f from old (put_chunk at now sums) first (at + 32)
vector_added f from old now sums first at room was lanes =
    let same = was.long in
    let order = was.ordered in
    let wide = lanes.long in
    record {
      ordered = omega arith;
      inside = omega arith;
      long = length-put_chunk at now sums ∙ was.long;
      added = λ k low high. elim (cases_lt k at) [
        | inl under ↦ get_or-put_chunk_below at now sums k 0 under ∙ was.added k low under
        | inr over ↦
            let j = k - at in
            let place : at + j ≡ k = omega arith in
            let added : slice_index (put_chunk at now sums) (at + j) ≡ f (slice_index old (at + j)) (slice_index from (at + j)) =
            get_or-put_chunk_at at now sums j 0 (omega arith) (omega arith)
            ∙ lanes.each j (omega arith)
            ∙ ap (λ a. f a (slice_index from (at + j))) (was.above (at + j) (omega arith)) in
            rw place at added
      ];
      below = λ k low. get_or-put_chunk_below at now sums k 0 (omega arith) ∙ was.below k low;
      above = λ k high. get_or-put_chunk_above at now sums k 0 (omega arith) ∙ was.above k (omega arith);
    }

-- a byte more
pub byte_added : (f : ℕ → ℕ → ℕ) (from old now : List ℕ) (first at x : ℕ) → at < length old → IsAdded f from old now first at
    → x ≡ f (slice_index now at) (slice_index from at) → IsAdded f from old (set now at x) first (at + 1)
byte_added f from old now first at x room was is =
    let same = was.long in
    let order = was.ordered in
    record {
      ordered = omega arith;
      inside = omega arith;
      long = length-set now at x ∙ was.long;
      added = λ k low high. elim (cases_lt k at) [
        | inl under ↦ get_or-set_other now at k x 0 (λ e. omega arith) ∙ was.added k low under
        | inr over ↦
            let here : at ≡ k = omega arith in
            let P : ℕ → Type 0 = λ j. slice_index (set now at x) j ≡ f (slice_index old j) (slice_index from j) in
            subst P here (get_or-set_same now at x 0 (omega arith) ∙ is ∙ ap (λ a. f a (slice_index from at)) (was.above at (omega arith)))
      ];
      below = λ k low. get_or-set_other now at k x 0 (λ e. omega arith) ∙ was.below k low;
      above = λ k high. get_or-set_other now at k x 0 (λ e. omega arith) ∙ was.above k (omega arith);
    }

-- the front, and then the rest
pub added_whole : (f g : ℕ → ℕ → ℕ) (from old front new : List ℕ) (at : ℕ) → length old ≡ length from → g ≡ f
    → IsAdded g from old front 0 at → IsAdded f from front new at (length front) → new ≡ zip2 f old from
added_whole f g from old front new at same alike was second =
    let first = subst (λ h. IsAdded h from old front 0 at) alike was in
    let first_long = first.long in
    let second_long = second.long in
    same_number_lists new (zip2 f old from) (omega (arith, length-zip2 f old from same))
    (λ k below.
    (elim (cases_lt k at) [
      | inl under ↦ second.below k under ∙ first.added k (omega arith) under
      | inr over ↦
          second.added k over (omega arith)
          ∙ ap (λ a. f a (slice_index from k)) (first.above k over)
    ])
    ∙ sym (get_or-zip2 f old from k 0 0 0 (omega arith) (omega arith)))

-- the lanes of two columns at a place, added
pub sums_lanes : (g : ℕ → ℕ) (now from products : List ℕ) (at : ℕ) → at + 32 ≤ length now
    → HasLanes 32 products (λ k. g (slice_index from (at + k)))
    → HasLanes 32 (zip2 bit_xor (chunk at 32 now) products) (λ k. bit_xor (slice_index now (at + k)) (g (slice_index from (at + k))))
sums_lanes g now from products at room lanes =
    let xs = chunk at 32 now in
    let wide = lanes.long in
    let long : length xs ≡ 32 = length-chunk at 32 now room in
    record {
      long = length-zip2 bit_xor xs products (long ∙ sym wide) ∙ long;
      each = λ k low.
          get_or-zip2 bit_xor xs products k 0 0 0 (omega arith) (omega arith)
          ∙ ap (λ a. bit_xor a (slice_index products k)) (get_or-chunk at 32 now k 0 low)
          ∙ ap (bit_xor (slice_index now (at + k))) (lanes.each k low);
    }

pub chunk_lanes : (from : List ℕ) (at : ℕ) → at + 32 ≤ length from → HasLanes 32 (chunk at 32 from) (λ k. slice_index from (at + k))
chunk_lanes from at room = record { long = length-chunk at 32 from room; each = λ k low. get_or-chunk at 32 from k 0 low }

pub times_lanes : (g : ℕ → ℕ) (from products : List ℕ) (at : ℕ) → at + 32 ≤ length from
    → products ≡ map g (chunk at 32 from) → HasLanes 32 products (λ k. g (slice_index from (at + k)))
times_lanes g from products at room is =
    subst (λ xs. HasLanes 32 xs (λ k. g (slice_index from (at + k)))) (sym is)
    (HasLanes-map 32 g (chunk at 32 from) (λ k. slice_index from (at + k)) (chunk_lanes from at room))

-- a place more of a list of values
pub one_listed : (f : ℕ → ℕ) (xs : List ℕ) (i x : ℕ) → i < length xs → ((k : ℕ) → k < i → get_or xs k 0 ≡ f k) → x ≡ f i
    → (k : ℕ) → k < i + 1 → get_or (set xs i x) k 0 ≡ f k
one_listed f xs i x room was is k low = elim (cases_lt k i) [
  | inl under ↦ get_or-set_other xs i k x 0 (λ e. omega arith) ∙ was k under
  | inr over ↦
      let here : i ≡ k = omega arith in
      subst (λ j. get_or (set xs i x) j 0 ≡ f j) here (get_or-set_same xs i x 0 room ∙ is)
]
