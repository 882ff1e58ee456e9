-- Look-ups of 16 in vectors of 32 bytes, and the product of a byte from those of its halves.
use Rattle.std.proofs.Common.{◌≡◌, ℕ, ◌+◌, ◌*◌, ◌/◌, ◌%◌, ◌^◌, ◌<◌, ◌∙◌, List, [], ◌∷◌, length, map, get_or, replicate, bit_xor, bit_and, refl, sym, ap, arith, w8, Fits}
use Rattle.std.specs.Prelude.{slice_index}
use Rattle.std.specs.Simd.Lanes.{zip2, Each1}
use Rattle.std.proofs.lemmas.List.{length-map, get_or-map}
use Rattle.std.proofs.lemmas.Grind.{same_number_lists}
use Rattle.std.proofs.lemmas.Nat.{and_mask}
use Rattle.std.proofs.lemmas.Simd.{length-zip2, get_or-zip2, get_or-replicate, length-swz_l, get_or-swz_l_below, swz_l, SwzOk, SwzOk-from_below, Each1-get_or, Each1-from_get_or}
use Rattle.draid_gf.specs.Field.{field_product, polynomial_product, polynomial_sum, remainder, IsByte}
use Rattle.draid_gf.specs.Lanes.{HasLanes, returned_by_four}
use Rattle.draid_gf.proofs.Computed.{same_at}
use Rattle.draid_gf.proofs.Product.{field_product-right}

-- an operator on two vectors, and on a vector and a splat
pub HasLanes-zip2 : (n : ℕ) (f : ℕ → ℕ → ℕ) (a b : List ℕ) (g h : ℕ → ℕ) → HasLanes n a g → HasLanes n b h → HasLanes n (zip2 f a b) (λ k. f (g k) (h k))
HasLanes-zip2 n f a b g h p q =
    let p_long = p.long in
    let q_long = q.long in
    record {
      long = length-zip2 f a b (p.long ∙ sym q.long) ∙ p.long;
      each = λ k low.
          get_or-zip2 f a b k 0 0 0 (omega arith) (omega arith)
          ∙ ap (λ x. f x (get_or b k 0)) (p.each k low)
          ∙ ap (f (g k)) (q.each k low);
    }

pub HasLanes-map : (n : ℕ) (f : ℕ → ℕ) (a : List ℕ) (g : ℕ → ℕ) → HasLanes n a g → HasLanes n (map f a) (λ k. f (g k))
HasLanes-map n f a g p =
    let long = p.long in
    record {
      long = length-map a f ∙ p.long;
      each = λ k low. get_or-map f a k 0 0 (omega arith) ∙ ap f (p.each k low);
    }

pub HasLanes-splat : (f : ℕ → ℕ → ℕ) (a : List ℕ) (x : ℕ) → length a ≡ 32 → HasLanes 32 (zip2 f a (replicate 32 x)) (λ k. f (slice_index a k) x)
HasLanes-splat f a x long =
    HasLanes-zip2 32 f a (replicate 32 x) (λ k. slice_index a k) (λ k. x)
    (record { long = long; each = λ k low. refl })
    (record { long = refl; each = λ k low. get_or-replicate 32 k x 0 low })

pub mapped : (f : ℕ → ℕ) (a b : List ℕ) → length a ≡ 32 → HasLanes 32 b (λ k. f (slice_index a k)) → b ≡ map f a
mapped f a b long p =
    let same = p.long in
    let wide = length-map a f in
    same_number_lists b (map f a) (omega arith) (λ k low. p.each k (omega arith) ∙ sym (get_or-map f a k 0 0 (omega arith)))

-- the low half of each lane, and the high half
pub low_halves : (v : List ℕ) → length v ≡ 32 → HasLanes 32 (zip2 bit_and v (replicate 32 15)) (λ k. slice_index v k % 16)
low_halves v long =
    let h = HasLanes-splat bit_and v 15 long in
    record { long = h.long; each = λ k low. h.each k low ∙ and_mask (slice_index v k) 4 }

pub high_halves : (v : List ℕ) → length v ≡ 32 → HasLanes 32 (zip2 (λ a b. a / 2 ^ b) v (replicate 32 4)) (λ k. slice_index v k / 16)
high_halves v long = HasLanes-splat (λ a b. a / 2 ^ b) v 4 long

-- the two high bits of each lane
pub high_pairs : (v : List ℕ) → length v ≡ 32 → HasLanes 32 (zip2 (λ a b. a / 2 ^ b) v (replicate 32 6)) (λ k. slice_index v k / 64)
high_pairs v long = HasLanes-splat (λ a b. a / 2 ^ b) v 6 long

pub lane_byte : (v : List ℕ) → length v ≡ 32 → Each1 (Fits w8) v → (k : ℕ) → k < 32 → IsByte (slice_index v k)
lane_byte v long fits k low = (Each1-get_or (Fits w8) v k 0 (omega arith) fits).fits

pub high_small : (v : List ℕ) → length v ≡ 32 → Each1 (Fits w8) v → (k : ℕ) → k < 32 → slice_index v k / 16 < 16
high_small v long fits k low = omega (arith, lane_byte v long fits k low)

pub pairs_small : (v : List ℕ) → length v ≡ 32 → Each1 (Fits w8) v → (k : ℕ) → k < 32 → slice_index v k / 64 < 16
pairs_small v long fits k low = omega (arith, lane_byte v long fits k low)

module _ (js : List ℕ) (f : ℕ → ℕ) (h : HasLanes 32 js f) (small : (k : ℕ) → k < 32 → f k < 16) where
  -- places below 16 may be looked up
  pub SwzOk-halves : SwzOk w8 16 32 0 js
  SwzOk-halves =
      let long = h.long in
      SwzOk-from_below w8 16 2 32 0 js refl (omega arith) (Each1-from_get_or (λ j. j < 16) js 0 (λ i l. omega (arith, h.each i (omega arith), small i (omega arith))))

  -- what is found in a vector that holds 16 values twice
  pub looked_up : (table : List ℕ) (value : ℕ → ℕ) → HasLanes 32 table (λ k. value (k % 16)) → HasLanes 32 (swz_l w8 16 table 0 js) (λ k. value (f k))
  looked_up table value twice =
      let long = h.long in
      record {
        long = length-swz_l w8 16 table 0 js ∙ long;
        each = λ k low.
            let below = small k low in
            let e = h.each k low in
            get_or-swz_l_below w8 16 table 0 js k (omega arith) (omega (arith, small k low))
            ∙ ap (λ j. get_or table j 0) (omega arith)
            ∙ twice.each (16 * (k / 16) + f k) (omega arith) ∙ ap value (omega arith);
      }

-- a byte is the sum of its halves
halves : (x : ℕ) → IsByte x → bit_xor (x % 16) (16 * (x / 16)) ≡ x
halves = same_at (λ x. bit_xor (x % 16) (16 * (x / 16))) (λ x. x) 256 refl

pub product_of_halves : (by x : ℕ) → IsByte x → bit_xor (field_product by (x % 16)) (field_product by (16 * (x / 16))) ≡ field_product by x
product_of_halves by x byte =
    sym ((field_product-right by).sum (x % 16) (16 * (x / 16))) ∙ ap (field_product by) (halves x byte)

-- ---- four times a byte
abbrev returned_table : List ℕ
returned_table = 0 ∷ 29 ∷ 58 ∷ 39 ∷ 0 ∷ 0 ∷ 0 ∷ 0 ∷ 0 ∷ 0 ∷ 0 ∷ 0 ∷ 0 ∷ 0 ∷ 0 ∷ 0 ∷ []

in_table : (k : ℕ) → k < 16 → slice_index returned_table k ≡ returned_by_four k
in_table = same_at (slice_index returned_table) returned_by_four 16 refl

pub returned_twice : (v : List ℕ) → HasLanes 32 v (λ k. slice_index returned_table (k % 16)) → HasLanes 32 v (λ k. returned_by_four (k % 16))
returned_twice v h = record { long = h.long; each = λ k low. h.each k low ∙ in_table (k % 16) (omega arith) }

pub four_times_byte : (x : ℕ) → IsByte x → bit_xor (x * 2 ^ 2 % 256) (returned_by_four (x / 64)) ≡ field_product 4 x
unfolding field_product polynomial_product polynomial_sum remainder
four_times_byte = same_at (λ x. bit_xor (x * 2 ^ 2 % 256) (returned_by_four (x / 64))) (field_product 4) 256 refl
