-- Weighted sums by Horner's rule: one more byte at the end.
use Rattle.std.proofs.Common.{◌≡◌, ℕ, zero, suc, ◌+◌, ◌-◌, ◌^◌, ◌<◌, ◌≤◌, ◌∙◌, List, [], ◌∷◌, ◌++◌, length, map, get_or, take, drop, bit_xor, sym, ap, ap₂, subst, arith, length-append}
use Rattle.std.specs.Prelude.{slice_index}
use Rattle.std.specs.Int.Bits.{xor_assoc, xor_zero_r}
use Rattle.std.proofs.Math.Seq.{take-suc}
use Rattle.std.specs.Simd.Lanes.{zip2}
use Rattle.std.proofs.lemmas.List.{take_all}
use Rattle.std.proofs.lemmas.Nat.{xor_of_8}
use Rattle.draid_gf.specs.Field.{field_product, field_power, IsByte}
use Rattle.draid_gf.proofs.Product.{field_product-right, product_byte, product-associative, one-field_product}
use Rattle.draid_gf.proofs.Linear.{linear_zero}
use Rattle.draid_gf.proofs.Powers.{field_power-byte}
use Rattle.draid_gf.specs.Lanes.{HasLanes}
use Rattle.draid_gf.proofs.LaneLemmas.{HasLanes-zip2, HasLanes-map}
use Rattle.draid_parity.specs.Codeword.{weighted_sum}
use Rattle.draid_parity.specs.Columns.{byte_row, column_at}
use Rattle.draid_parity.proofs.WeightedSums.{data_row-at, data_row-length}

pub weighted_sum-byte : (c : ℕ) (xs : List ℕ) → IsByte c → IsByte (weighted_sum c xs)
unfolding weighted_sum
weighted_sum-byte c [] byte = omega arith
weighted_sum-byte c (x ∷ xs) byte =
    xor_of_8 (field_product (field_power c (length xs)) x) (weighted_sum c xs)
    (product_byte (field_power c (length xs)) x (field_power-byte c (length xs) byte)) (weighted_sum-byte c xs byte)

one_term : (c x : ℕ) → IsByte x → weighted_sum c (x ∷ []) ≡ x
unfolding weighted_sum field_power
one_term c x byte = xor_zero_r (field_product 1 x) ∙ one-field_product x byte

-- c times the sum, and one more byte
longer : (c x : ℕ) (xs : List ℕ) → IsByte c → IsByte x → weighted_sum c (xs ++ (x ∷ [])) ≡ bit_xor (field_product c (weighted_sum c xs)) x
unfolding weighted_sum field_power
longer c x [] c_byte x_byte = one_term c x x_byte ∙ sym (ap (λ y. bit_xor y x) (linear_zero (field_product c) (field_product-right c)))
longer c x (y ∷ xs) c_byte x_byte =
    let p = field_power c (length xs) in
    ap₂ (λ n s. bit_xor (field_product (field_power c n) y) s) (length-append xs (x ∷ [])) (longer c x xs c_byte x_byte)
    ∙ (let turn : length xs + 1 ≡ suc (length xs) = omega arith in
    ap (λ n. bit_xor (field_product (field_power c n) y) (bit_xor (field_product c (weighted_sum c xs)) x)) turn)
    ∙ ap (λ z. bit_xor z (bit_xor (field_product c (weighted_sum c xs)) x)) (product-associative c p y c_byte (field_power-byte c (length xs) c_byte))
    ∙ sym (xor_assoc (field_product c (field_product p y)) (field_product c (weighted_sum c xs)) x)
    ∙ ap (λ z. bit_xor z x) (sym ((field_product-right c).sum (field_product p y) (weighted_sum c xs)))

pub first_term : (c : ℕ) (row : List ℕ) → 0 < length row → IsByte (get_or row 0 0) → weighted_sum c (take 1 row) ≡ get_or row 0 0
first_term c [] some byte = absurd (omega arith)
first_term c (x ∷ xs) some byte = one_term c x byte

pub next_term : (c n : ℕ) (row : List ℕ) → IsByte c → n < length row → IsByte (get_or row n 0)
    → weighted_sum c (take (suc n) row) ≡ bit_xor (field_product c (weighted_sum c (take n row))) (get_or row n 0)
next_term c n row c_byte below byte =
    ap (weighted_sum c) (take-suc row n 0 below) ∙ longer c (get_or row n 0) (take n row) c_byte byte

-- ---- the rows from `at` on, as one data column after the other is added
abbrev pub front : ℕ → ℕ → ℕ → List (List ℕ) → ℕ → ℕ → ℕ
front c at p columns m j = weighted_sum c (take m (byte_row (at + j) (drop p columns)))

pub first_lanes : (n at p i c : ℕ) (columns : List (List ℕ)) (v column : List ℕ) → p < length columns → column ≡ column_at columns p → i ≡ p + 1
    → HasLanes n v (λ j. slice_index column (at + j)) → ((j : ℕ) → IsByte (slice_index v j)) → HasLanes n v (front c at p columns (i - p))
first_lanes n at p i c columns v column below is next lanes bytes =
    record { long = lanes.long; each = λ j low. lanes.each j low ∙ same j ∙ sym (first j low) }
  where
    same : (j : ℕ) → slice_index column (at + j) ≡ get_or (byte_row (at + j) (drop p columns)) 0 0
    same j =
        ap (λ xs. slice_index xs (at + j)) is
        ∙ (let turn : p ≡ p + 0 = omega arith in ap (λ m. slice_index (column_at columns m) (at + j)) turn)
        ∙ sym (data_row-at (at + j) p columns 0)

    first : (j : ℕ) → j < n → front c at p columns (i - p) j ≡ get_or (byte_row (at + j) (drop p columns)) 0 0
    first j low =
        let long = data_row-length (at + j) p columns in
        let one : i - p ≡ 1 = omega arith in
        ap (λ m. front c at p columns m j) one
        ∙ first_term c (byte_row (at + j) (drop p columns)) (omega (arith, long)) (subst IsByte (lanes.each j low ∙ same j) (bytes j))

pub next_lanes : (n at p i c : ℕ) (columns : List (List ℕ)) (row column : List ℕ) (result : List ℕ) → p ≤ i → i < length columns → IsByte c → column ≡ column_at columns i
    → HasLanes n row (λ j. slice_index column (at + j)) → ((j : ℕ) → IsByte (slice_index row j))
    → HasLanes n result (λ j. bit_xor (field_product c (front c at p columns (i - p) j)) (slice_index column (at + j)))
    → HasLanes n result (front c at p columns (i + 1 - p))
next_lanes n at p i c columns row column result above below c_byte is lanes bytes sums =
    record { long = sums.long; each = λ j low. sums.each j low ∙ ap (bit_xor (field_product c (front c at p columns (i - p) j))) (same j) ∙ sym (next j low) }
  where
    same : (j : ℕ) → slice_index column (at + j) ≡ get_or (byte_row (at + j) (drop p columns)) (i - p) 0
    same j =
        ap (λ xs. slice_index xs (at + j)) is
        ∙ (let turn : i ≡ p + (i - p) = omega arith in ap (λ m. slice_index (column_at columns m) (at + j)) turn)
        ∙ sym (data_row-at (at + j) p columns (i - p))

    next : (j : ℕ) → j < n → front c at p columns (i + 1 - p) j
        ≡ bit_xor (field_product c (front c at p columns (i - p) j)) (get_or (byte_row (at + j) (drop p columns)) (i - p) 0)
    next j low =
        let long = data_row-length (at + j) p columns in
        let one : i + 1 - p ≡ suc (i - p) = omega arith in
        ap (λ m. front c at p columns m j) one
        ∙ next_term c (i - p) (byte_row (at + j) (drop p columns)) c_byte (omega (arith, long)) (subst IsByte (lanes.each j low ∙ same j) (bytes j))

pub whole_lanes : (n at p i c : ℕ) (columns : List (List ℕ)) (v : List ℕ) → length columns ≤ i → HasLanes n v (front c at p columns (i - p))
    → HasLanes n v (λ j. weighted_sum c (byte_row (at + j) (drop p columns)))
whole_lanes n at p i c columns v past lanes =
    record {
      long = lanes.long;
      each = λ j low.
          (let long = data_row-length (at + j) p columns in
          lanes.each j low ∙ ap (weighted_sum c) (take_all (i - p) (byte_row (at + j) (drop p columns)) (omega (arith, long))));
    }

-- ---- a vector of sums times 1, 2 and 4
weighed0 : (n : ℕ) (v : List ℕ) (f : ℕ → ℕ) → HasLanes n v f → ((j : ℕ) → IsByte (f j)) → HasLanes n v (λ j. field_product (2 ^ 0) (f j))
weighed0 n v f lanes bytes = record { long = lanes.long; each = λ j low. lanes.each j low ∙ sym (one-field_product (f j) (bytes j)) }

weighed1 : (n : ℕ) (v w : List ℕ) (f : ℕ → ℕ) → w ≡ map (field_product 2) v → HasLanes n v f → HasLanes n w (λ j. field_product (2 ^ 1) (f j))
weighed1 n v w f is lanes = subst (λ xs. HasLanes n xs (λ j. field_product 2 (f j))) (sym is) (HasLanes-map n (field_product 2) v f lanes)

weighed2 : (n : ℕ) (v w : List ℕ) (f : ℕ → ℕ) → w ≡ map (field_product 4) v → HasLanes n v f → HasLanes n w (λ j. field_product (2 ^ 2) (f j))
weighed2 n v w f is lanes = subst (λ xs. HasLanes n xs (λ j. field_product 4 (f j))) (sym is) (HasLanes-map n (field_product 4) v f lanes)

added : (n k m : ℕ) (a row result : List ℕ) (f g : ℕ → ℕ) → m ≡ k → result ≡ zip2 bit_xor a row → HasLanes n a (λ j. field_product (2 ^ m) (f j)) → HasLanes n row g
    → HasLanes n result (λ j. bit_xor (field_product (2 ^ k) (f j)) (g j))
added n k m a row result f g same is lanes row_lanes =
    subst (λ xs. HasLanes n xs (λ j. bit_xor (field_product (2 ^ k) (f j)) (g j))) (sym is)
    (HasLanes-zip2 n bit_xor a row (λ j. field_product (2 ^ k) (f j)) g
    (subst (λ e. HasLanes n a (λ j. field_product (2 ^ e) (f j))) same lanes) row_lanes)

pub horner0 : (n k : ℕ) (sum row result : List ℕ) → k ≡ 0 → result ≡ zip2 bit_xor sum row
    → (f g : ℕ → ℕ) → HasLanes n sum f → ((j : ℕ) → IsByte (f j)) → HasLanes n row g → HasLanes n result (λ j. bit_xor (field_product (2 ^ k) (f j)) (g j))
horner0 n k sum row result same is f g lanes bytes row_lanes = added n k 0 sum row result f g (sym same) is (weighed0 n sum f lanes bytes) row_lanes

pub horner1 : (n k : ℕ) (sum twice row result : List ℕ) → k ≡ 1 → twice ≡ map (field_product 2) sum → result ≡ zip2 bit_xor twice row
    → (f g : ℕ → ℕ) → HasLanes n sum f → ((j : ℕ) → IsByte (f j)) → HasLanes n row g → HasLanes n result (λ j. bit_xor (field_product (2 ^ k) (f j)) (g j))
horner1 n k sum twice row result same first is f g lanes bytes row_lanes = added n k 1 twice row result f g (sym same) is (weighed1 n sum twice f first lanes) row_lanes

pub horner2 : (n k : ℕ) (sum quad row result : List ℕ) → k ≡ 2 → quad ≡ map (field_product 4) sum → result ≡ zip2 bit_xor quad row
    → (f g : ℕ → ℕ) → HasLanes n sum f → ((j : ℕ) → IsByte (f j)) → HasLanes n row g → HasLanes n result (λ j. bit_xor (field_product (2 ^ k) (f j)) (g j))
horner2 n k sum quad row result same first is f g lanes bytes row_lanes = added n k 2 quad row result f g (sym same) is (weighed2 n sum quad f first lanes) row_lanes

pub power_byte : (k : ℕ) → k < 3 → IsByte (2 ^ k)
power_byte zero kind = omega arith
power_byte (suc zero) kind = omega arith
power_byte (suc (suc zero)) kind = omega arith
power_byte (suc (suc (suc k))) kind = absurd (omega arith)

-- one more data column in a sum
pub next_sum : (n at p i k : ℕ) (columns : List (List ℕ)) (sum row column result : List ℕ) → k < 3 → p ≤ i → i < length columns → column ≡ column_at columns i
    → HasLanes n row (λ j. slice_index column (at + j)) → ((j : ℕ) → IsByte (slice_index row j))
    → ((f g : ℕ → ℕ) → HasLanes n sum f → ((j : ℕ) → IsByte (f j)) → HasLanes n row g → HasLanes n result (λ j. bit_xor (field_product (2 ^ k) (f j)) (g j)))
    → HasLanes n sum (front (2 ^ k) at p columns (i - p)) → HasLanes n result (front (2 ^ k) at p columns (i + 1 - p))
next_sum n at p i k columns sum row column result kind above below is lanes bytes horner was =
    let byte = power_byte k kind in
    next_lanes n at p i (2 ^ k) columns row column result above below byte is lanes bytes
    (horner (front (2 ^ k) at p columns (i - p)) (λ j. slice_index column (at + j)) was
    (λ j. weighted_sum-byte (2 ^ k) (take (i - p) (byte_row (at + j) (drop p columns))) byte) lanes)
