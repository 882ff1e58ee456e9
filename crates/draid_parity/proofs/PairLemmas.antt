-- Two columns from two sums, row by row.
use Rattle.std.proofs.Common.{◌≡◌, ◌≢◌, ℕ, zero, suc, ◌+◌, ◌-◌, ◌*◌, ◌^◌, ◌<◌, ◌≤◌, ◌∙◌, inl, inr, List, [], ◌∷◌, length, map, get_or, set, drop, bit_xor, refl, sym, ap, ap₂, subst, arith, length-set, get_or-set_same, get_or-set_other}
use Rattle.std.specs.Prelude.{slice_index}
use Rattle.std.specs.Simd.Lanes.{zip2}
use Rattle.std.specs.Int.Bits.{xor_assoc}
use Rattle.std.proofs.lemmas.Bool.{cases_order}
use Rattle.std.proofs.lemmas.Grind.{same_number_lists}
use Rattle.std.proofs.lemmas.Nat.{xor_comm, xor_of_8}
use Rattle.draid_gf.specs.Field.{field_product, field_power, IsByte}
use Rattle.draid_gf.specs.Lanes.{HasLanes}
use Rattle.draid_gf.proofs.Product.{field_product-right, product_byte, one-field_product}
use Rattle.draid_gf.proofs.Powers.{field_power-byte}
use Rattle.draid_gf.proofs.LaneLemmas.{HasLanes-zip2, HasLanes-map}
use Rattle.draid_gf.proofs.Laws.{same_from_xor}
use Rattle.draid_parity.specs.Codeword.{weighted_sum, parity_sum}
use Rattle.draid_parity.specs.Columns.{byte_row, column_at, rest_of}
use Rattle.draid_parity.specs.Rows.{AddsRows, PutsRows, SolvesPair, SolvesRows, second_part}
use Rattle.std.proofs.Math.Nat.{add-mul, zero-mul}
use Rattle.draid_parity.specs.Equations.{SolvesTwo}
use Rattle.draid_parity.proofs.Algebra.{two, divided, generator_power, xor_none}
use Rattle.draid_parity.proofs.Horner.{weighted_sum-byte, power_byte as generator_byte}
use Rattle.draid_parity.proofs.Restored.{split_power}
use Rattle.draid_parity.proofs.WeightedSums.{data_row-at, data_row-length}

-- ---- something is added to one byte
pub weighted_sum-add : (c : ℕ) (xs : List ℕ) (i d : ℕ) → i < length xs
    → weighted_sum c (set xs i (bit_xor (get_or xs i 0) d)) ≡ bit_xor (weighted_sum c xs) (field_product (field_power c (length xs - 1 - i)) d)
unfolding weighted_sum
weighted_sum-add c [] i d below = absurd (omega arith)
weighted_sum-add c (x ∷ xs) zero d below =
    let p = field_power c (length xs) in
    let same : length xs ≡ length (x ∷ xs) - 1 - 0 = omega arith in
    ap (λ y. bit_xor y (weighted_sum c xs)) ((field_product-right p).sum x d)
    ∙ xor_assoc (field_product p x) (field_product p d) (weighted_sum c xs)
    ∙ ap (bit_xor (field_product p x)) (xor_comm (field_product p d) (weighted_sum c xs))
    ∙ sym (xor_assoc (field_product p x) (weighted_sum c xs) (field_product p d))
    ∙ ap (λ n. bit_xor (bit_xor (field_product p x) (weighted_sum c xs)) (field_product (field_power c n) d)) same
weighted_sum-add c (x ∷ xs) (suc i) d below =
    ap₂ (λ n y. bit_xor (field_product (field_power c n) x) y) (length-set xs i (bit_xor (get_or xs i 0) d)) (weighted_sum-add c xs i d (omega arith))
    ∙ sym (xor_assoc (field_product (field_power c (length xs)) x) (weighted_sum c xs) (field_product (field_power c (length xs - 1 - i)) d))
    ∙ (let same : length xs - 1 - i ≡ length (x ∷ xs) - 1 - suc i = omega arith in
    ap (λ n. bit_xor (bit_xor (field_product (field_power c (length xs)) x) (weighted_sum c xs)) (field_product (field_power c n) d)) same)

-- column x is changed, and at row j by d
pub record Adds (x j d : ℕ) (old new : List (List ℕ)) : Type 0 where
  pub count : length new ≡ length old
  pub other : (i : ℕ) → i ≢ x → column_at new i ≡ column_at old i
  pub here : slice_index (column_at new x) j ≡ bit_xor (slice_index (column_at old x) j) d

row_added : (p x j d : ℕ) (old new : List (List ℕ)) → p ≤ x → x < length old → Adds x j d old new
    → byte_row j (drop p new) ≡ set (byte_row j (drop p old)) (x - p) (bit_xor (get_or (byte_row j (drop p old)) (x - p) 0) d)
row_added p x j d old new above below adds =
    same_number_lists (byte_row j (drop p new)) (set row (x - p) value) (new_long ∙ ap (λ n. n - p) adds.count ∙ sym old_long ∙ sym (length-set row (x - p) value)) each
  where
    row : List ℕ
    row = byte_row j (drop p old)

    value : ℕ
    value = bit_xor (get_or row (x - p) 0) d

    new_long : length (byte_row j (drop p new)) ≡ length new - p
    new_long = data_row-length j p new

    old_long : length row ≡ length old - p
    old_long = data_row-length j p old

    turn : p + (x - p) ≡ x
    turn = omega arith

    old_here : get_or row (x - p) 0 ≡ slice_index (column_at old x) j
    old_here = data_row-at j p old (x - p) ∙ ap (λ i. slice_index (column_at old i) j) turn

    each : (i : ℕ) → i < length (byte_row j (drop p new)) → get_or (byte_row j (drop p new)) i 0 ≡ get_or (set row (x - p) value) i 0
    each i low = elim (cases_order i (x - p)) [
      | inl e ↦
          subst (λ m. get_or (byte_row j (drop p new)) m 0 ≡ get_or (set row (x - p) value) m 0) (sym e)
          (data_row-at j p new (x - p) ∙ ap (λ m. slice_index (column_at new m) j) turn ∙ adds.here ∙ ap (λ b. bit_xor b d) (sym old_here)
          ∙ sym (get_or-set_same row (x - p) value 0 (omega (arith, old_long))))
      | inr (inl l) ↦ away i (λ e. omega arith)
      | inr (inr g) ↦ away i (λ e. omega arith)
    ]
      where
        away : (i : ℕ) → i ≢ x - p → get_or (byte_row j (drop p new)) i 0 ≡ get_or (set row (x - p) value) i 0
        away i apart =
            data_row-at j p new i ∙ ap (λ c. slice_index c j) (adds.other (p + i) (λ e. apart (omega (arith, e))))
            ∙ sym (data_row-at j p old i) ∙ sym (get_or-set_other row (x - p) i value 0 apart)

pub rest_added : (parity k x j d : ℕ) (old new : List (List ℕ)) → k < 3 → k < parity → parity ≤ x → x < length old → Adds x j d old new
    → rest_of parity new k j ≡ bit_xor (rest_of parity old k j) (field_product (field_power 2 (k * (length old - 1 - x))) d)
rest_added parity k x j d old new kind present missing below adds =
    let row = byte_row j (drop parity old) in
    let p = slice_index (column_at old k) j in
    let long = data_row-length j parity old in
    let exponent : length old - parity - 1 - (x - parity) ≡ length old - 1 - x = omega arith in
    ap₂ bit_xor (ap (λ c. slice_index c j) (adds.other k (λ e. omega arith)))
    (ap (parity_sum k) (row_added parity x j d old new missing below adds)
    ∙ weighted_sum-add (2 ^ k) row (x - parity) d (omega (arith, long))
    ∙ ap (λ q. bit_xor (weighted_sum (2 ^ k) row) (field_product q d))
    (ap (λ n. field_power (2 ^ k) (n - 1 - (x - parity))) long
    ∙ ap (field_power (2 ^ k)) exponent
    ∙ generator_power k (length old - 1 - x) kind))
    ∙ sym (xor_assoc p (weighted_sum (2 ^ k) row) (field_product (field_power 2 (k * (length old - 1 - x))) d))

power_byte : (n : ℕ) → IsByte (field_power 2 n)
power_byte n = field_power-byte 2 n (omega arith)

-- ---- the two sums are right after the two parts were added
pub pair_solved : (parity k l x y j node between over_first over_second s t d1 d2 : ℕ) (old mid new : List (List ℕ))
    → k < l → l < 3 → l < parity → parity ≤ x → x < y → y < length old
    → SolvesPair k l (length old - 1 - x) (length old - 1 - y) node between over_first over_second
    → s ≡ rest_of parity old k j → t ≡ rest_of parity old l j → IsByte s → IsByte t
    → d1 ≡ field_product over_first (bit_xor s (second_part node between s t)) → d2 ≡ field_product over_second (second_part node between s t)
    → Adds x j d1 old mid → Adds y j d2 mid new
    → (rest_of parity new k j ≡ 0) × (rest_of parity new l j ≡ 0)
pair_solved parity k l x y j node between over_first over_second s t d1 d2 old mid new order kind present missing x_y below pair s_is t_is s_byte t_byte d1_is d2_is first second = (
  after k (omega arith) (omega arith) ∙ ap (λ r. bit_xor (bit_xor r (weigh k e d1)) (weigh k f d2)) (sym s_is)
      ∙ ap₂ (λ p q. bit_xor (bit_xor s p) q) first_weight second_weight
      ∙ xor_assoc s a b ∙ xor_none s (bit_xor a b) (sym solved.sum0),
  after l kind present ∙ ap (λ r. bit_xor (bit_xor r (weigh l e d1)) (weigh l f d2)) (sym t_is)
      ∙ ap₂ (λ p q. bit_xor (bit_xor t p) q)
      (split_power ((l - k) * e) (k * e) (l * e) d1 (exponents e) d1_byte ∙ ap₂ field_product (sym pair.power) first_weight)
      (split_power ((l - k) * f) (k * f) (l * f) d2 (exponents f) d2_byte ∙ ap (field_product v1) second_weight)
      ∙ xor_assoc t (field_product node a) (field_product v1 b) ∙ xor_none t (bit_xor (field_product node a) (field_product v1 b)) (sym solved.sum1),
)
  where
    e : ℕ
    e = length old - 1 - x

    f : ℕ
    f = length old - 1 - y

    v1 : ℕ
    v1 = field_power 2 ((l - k) * f)

    b : ℕ
    b = second_part node between s t

    a : ℕ
    a = bit_xor s b

    weigh : ℕ → ℕ → ℕ → ℕ
    weigh m n d = field_product (field_power 2 (m * n)) d

    node_byte : IsByte node
    node_byte = subst IsByte (sym pair.power) (power_byte ((l - k) * e))

    u_byte : IsByte (bit_xor t (field_product node s))
    u_byte = xor_of_8 t (field_product node s) t_byte (product_byte node s node_byte)

    b_byte : IsByte b
    b_byte = product_byte between (bit_xor t (field_product node s)) pair.bytes.0

    a_byte : IsByte a
    a_byte = xor_of_8 s b s_byte b_byte

    d1_byte : IsByte d1
    d1_byte = subst IsByte (sym d1_is) (product_byte over_first a pair.bytes.1)

    d2_byte : IsByte d2
    d2_byte = subst IsByte (sym d2_is) (product_byte over_second b pair.bytes.2)

    solved : SolvesTwo node v1 s t a b
    solved =
        two node v1 s t a b refl
        (divided (bit_xor node v1) between (bit_xor t (field_product node s)) (xor_of_8 node v1 node_byte (power_byte ((l - k) * f))) pair.bytes.0 u_byte pair.apart)

    first_weight : weigh k e d1 ≡ a
    first_weight = ap (weigh k e) d1_is ∙ divided (field_power 2 (k * e)) over_first a (power_byte (k * e)) pair.bytes.1 a_byte pair.first

    second_weight : weigh k f d2 ≡ b
    second_weight = ap (weigh k f) d2_is ∙ divided (field_power 2 (k * f)) over_second b (power_byte (k * f)) pair.bytes.2 b_byte pair.second

    exponents : (n : ℕ) → (l - k) * n + k * n ≡ l * n
    exponents n = let turn : (l - k) + k ≡ l = omega arith in sym (add-mul (l - k) k n) ∙ ap (λ m. m * n) turn

    after : (m : ℕ) → m < 3 → m < parity → rest_of parity new m j ≡ bit_xor (bit_xor (rest_of parity old m j) (weigh m e d1)) (weigh m f d2)
    after m m_kind m_present =
        rest_added parity m y j d2 mid new m_kind m_present (omega arith) (let n = first.count in omega (arith, n)) second
        ∙ ap₂ (λ r n. bit_xor r (field_product (field_power 2 (m * (n - 1 - y))) d2))
        (rest_added parity m x j d1 old mid m_kind m_present missing (omega arith) first) first.count

-- ---- the two parts in vectors
pub second_lanes : (n node between : ℕ) (low high scaled sum second : List ℕ) → scaled ≡ map (field_product node) low → sum ≡ zip2 bit_xor high scaled → second ≡ map (field_product between) sum
    → (s t : ℕ → ℕ) → HasLanes n low s → HasLanes n high t → HasLanes n second (λ j. second_part node between (s j) (t j))
second_lanes n node between low high scaled sum second scaled_is sum_is second_is s t low_lanes high_lanes =
    subst (λ v. HasLanes n v (λ j. second_part node between (s j) (t j)))
    (ap (λ v. map (field_product between) (zip2 bit_xor high v)) (sym scaled_is) ∙ ap (map (field_product between)) (sym sum_is) ∙ sym second_is)
    (HasLanes-map n (field_product between) (zip2 bit_xor high (map (field_product node) low)) (λ j. bit_xor (t j) (field_product node (s j)))
    (HasLanes-zip2 n bit_xor high (map (field_product node) low) t (λ j. field_product node (s j)) high_lanes (HasLanes-map n (field_product node) low s low_lanes)))

pub first_lanes : (n : ℕ) (low second first : List ℕ) → first ≡ zip2 bit_xor low second → (s b : ℕ → ℕ) → HasLanes n low s → HasLanes n second b → HasLanes n first (λ j. bit_xor (s j) (b j))
first_lanes n low second first is s b low_lanes second_lanes =
    subst (λ v. HasLanes n v (λ j. bit_xor (s j) (b j))) (sym is) (HasLanes-zip2 n bit_xor low second s b low_lanes second_lanes)

pub times_one : (n over : ℕ) (v : List ℕ) (f : ℕ → ℕ) → over ≡ 1 → ((j : ℕ) → j < n → IsByte (f j)) → HasLanes n v f → HasLanes n v (λ j. field_product over (f j))
times_one n over v f one bytes lanes = record {
  long = lanes.long;
  each = λ j low. lanes.each j low ∙ sym (one-field_product (f j) (bytes j low)) ∙ ap (λ p. field_product p (f j)) (sym one);
}

pub times_over : (n over : ℕ) (v w : List ℕ) (f : ℕ → ℕ) → w ≡ map (field_product over) v → HasLanes n v f → HasLanes n w (λ j. field_product over (f j))
times_over n over v w f is lanes = subst (λ xs. HasLanes n xs (λ j. field_product over (f j))) (sym is) (HasLanes-map n (field_product over) v f lanes)

pub part_byte : (node between s t : ℕ) → IsByte between → IsByte (second_part node between s t)
part_byte node between s t byte = product_byte between (bit_xor t (field_product node s)) byte

-- ---- what the sums leave, in vectors
pub rest_lanes : (n at k parity : ℕ) (columns : List (List ℕ)) (row sum result column : List ℕ) → column ≡ column_at columns k
    → HasLanes n row (λ j. slice_index column (at + j)) → HasLanes n sum (λ j. parity_sum k (byte_row (at + j) (drop parity columns)))
    → result ≡ zip2 bit_xor row sum → HasLanes n result (λ j. rest_of parity columns k (at + j))
rest_lanes n at k parity columns row sum result column is row_lanes sum_lanes added =
    let lanes =
    HasLanes-zip2 n bit_xor row sum (λ j. slice_index column (at + j)) (λ j. parity_sum k (byte_row (at + j) (drop parity columns))) row_lanes sum_lanes in
    record {
      long = ap length added ∙ lanes.long;
      each = λ j low.
          ap (λ v. slice_index v j) added ∙ lanes.each j low
          ∙ ap (λ c. bit_xor (slice_index c (at + j)) (parity_sum k (byte_row (at + j) (drop parity columns)))) is;
    }

pub rest_bytes : (n at k parity : ℕ) (columns : List (List ℕ)) (row column : List ℕ) → k < 3 → column ≡ column_at columns k
    → HasLanes n row (λ j. slice_index column (at + j)) → ((j : ℕ) → IsByte (slice_index row j)) → (j : ℕ) → j < n → IsByte (rest_of parity columns k (at + j))
rest_bytes n at k parity columns row column kind is lanes bytes j low =
    xor_of_8 (slice_index (column_at columns k) (at + j)) (parity_sum k (byte_row (at + j) (drop parity columns)))
    (subst IsByte (lanes.each j low ∙ ap (λ c. slice_index c (at + j)) is) (bytes j))
    (weighted_sum-byte (2 ^ k) (byte_row (at + j) (drop parity columns)) (generator_byte k kind))

pub adds_rows : (at n x : ℕ) (old new : List (List ℕ)) (row rows sums column : List ℕ) → column ≡ column_at old x → HasLanes n row (λ j. slice_index column (at + j))
    → ((j : ℕ) → IsByte (slice_index row j)) → length rows ≡ n → sums ≡ zip2 bit_xor row rows → PutsRows at n x sums old new → AddsRows at n x rows old new
adds_rows at n x old new row rows sums column is lanes bytes long added puts = record {
  count = puts.count;
  long = puts.long;
  other = puts.other;
  below = puts.below;
  here = λ j low. puts.here j low ∙ ap (λ v. slice_index v j) added ∙ (all.each j low)
      ∙ ap (λ c. bit_xor (slice_index c (at + j)) (slice_index rows j)) is;
  bytes = λ j low. subst IsByte (lanes.each j low ∙ ap (λ c. slice_index c (at + j)) is) (bytes j);
} where
  all : HasLanes n (zip2 bit_xor row rows) (λ j. bit_xor (slice_index column (at + j)) (slice_index rows j))
  all = HasLanes-zip2 n bit_xor row rows (λ j. slice_index column (at + j)) (λ j. slice_index rows j) lanes (record { long = long; each = λ j low. refl })

-- ---- the rows are solved
pub adds_at : (at n x j : ℕ) (rows : List ℕ) (old new : List (List ℕ)) → AddsRows at n x rows old new → j < n → Adds x (at + j) (slice_index rows j) old new
adds_at at n x j rows old new adds low = record { count = adds.count; other = adds.other; here = adds.here j low }

pub below_same : (at n x : ℕ) (rows : List ℕ) (old new : List (List ℕ)) → AddsRows at n x rows old new → (i j : ℕ) → j < at
    → slice_index (column_at new i) j ≡ slice_index (column_at old i) j
below_same at n x rows old new adds i j low = elim (cases_order i x) [
  | inl e ↦ subst (λ m. slice_index (column_at new m) j ≡ slice_index (column_at old m) j) (sym e) (adds.below j low)
  | inr (inl l) ↦ ap (λ c. slice_index c j) (adds.other i (λ e. omega arith))
  | inr (inr g) ↦ ap (λ c. slice_index c j) (adds.other i (λ e. omega arith))
]

pub solves_pair : (parity at n k l x y node between over_first over_second : ℕ) (first second : List ℕ) (old mid new : List (List ℕ))
    → k < l → l < 3 → l < parity → parity ≤ x → x < y → y < length old
    → SolvesPair k l (length old - 1 - x) (length old - 1 - y) node between over_first over_second
    → ((j : ℕ) → j < n → IsByte (rest_of parity old k (at + j))) → ((j : ℕ) → j < n → IsByte (rest_of parity old l (at + j)))
    → HasLanes n first (λ j. field_product over_first (bit_xor (rest_of parity old k (at + j)) (second_part node between (rest_of parity old k (at + j)) (rest_of parity old l (at + j)))))
    → HasLanes n second (λ j. field_product over_second (second_part node between (rest_of parity old k (at + j)) (rest_of parity old l (at + j))))
    → AddsRows at n x first old mid → AddsRows at n y second mid new
    → SolvesRows parity at n (k ∷ l ∷ []) (x ∷ y ∷ []) old new
solves_pair parity at n k l x y node between over_first over_second first second old mid new order kind present missing x_y below pair low_bytes high_bytes first_lanes second_lanes first_adds second_adds =
    record {
      count = second_adds.count ∙ first_adds.count;
      long = λ i. second_adds.long i ∙ first_adds.long i;
      stays = λ i away. second_adds.other i (λ e. away (inr (inl e))) ∙ first_adds.other i (λ e. away (inl e));
      below = λ i j low. below_same at n y second mid new second_adds i j low ∙ below_same at n x first old mid first_adds i j low;
      bytes = λ i j one low. elim one [
        | inl e ↦
            subst (λ m. IsByte (slice_index (column_at new m) (at + j))) (sym e)
            (subst IsByte (sym (ap (λ c. slice_index c (at + j)) (second_adds.other x (λ same. omega arith)) ∙ first_adds.here j low))
            (xor_of_8 (slice_index (column_at old x) (at + j)) (slice_index first j) (first_adds.bytes j low)
            (subst IsByte (sym (first_lanes.each j low)) (product_byte over_first _ pair.bytes.1))))
        | inr (inl e) ↦
            subst (λ m. IsByte (slice_index (column_at new m) (at + j))) (sym e)
            (subst IsByte (sym (second_adds.here j low))
            (xor_of_8 (slice_index (column_at mid y) (at + j)) (slice_index second j) (second_adds.bytes j low)
            (subst IsByte (sym (second_lanes.each j low)) (product_byte over_second _ pair.bytes.2))))
        | inr (inr none) ↦ absurd none
      ];
      solved = λ m j one low. elim one [
        | inl e ↦ subst (λ i. slice_index (column_at new i) (at + j) ≡ parity_sum i (byte_row (at + j) (drop parity new))) (sym e)
            (same_from_xor (slice_index (column_at new k) (at + j)) (parity_sum k (byte_row (at + j) (drop parity new))) (both j low).0)
        | inr (inl e) ↦ subst (λ i. slice_index (column_at new i) (at + j) ≡ parity_sum i (byte_row (at + j) (drop parity new))) (sym e)
            (same_from_xor (slice_index (column_at new l) (at + j)) (parity_sum l (byte_row (at + j) (drop parity new))) (both j low).1)
        | inr (inr none) ↦ absurd none
      ];
    }
  where
    both : (j : ℕ) → j < n → (rest_of parity new k (at + j) ≡ 0) × (rest_of parity new l (at + j) ≡ 0)
    both j low =
        pair_solved parity k l x y (at + j) node between over_first over_second (rest_of parity old k (at + j)) (rest_of parity old l (at + j))
        (slice_index first j) (slice_index second j) old mid new order kind present missing x_y below pair refl refl (low_bytes j low) (high_bytes j low)
        (first_lanes.each j low) (second_lanes.each j low) (adds_at at n x j first old mid first_adds low) (adds_at at n y j second mid new second_adds low)

-- the same, where the sums were read of columns that are these
pub solves_pair_seen : (parity at n k l x y node between over_first over_second : ℕ) (first second : List ℕ) (old mid new seen : List (List ℕ)) → seen ≡ old
    → k < l → l < 3 → l < parity → parity ≤ x → x < y → y < length old
    → SolvesPair k l (length old - 1 - x) (length old - 1 - y) node between over_first over_second
    → ((j : ℕ) → j < n → IsByte (rest_of parity seen k (at + j))) → ((j : ℕ) → j < n → IsByte (rest_of parity seen l (at + j)))
    → HasLanes n first (λ j. field_product over_first (bit_xor (rest_of parity seen k (at + j)) (second_part node between (rest_of parity seen k (at + j)) (rest_of parity seen l (at + j)))))
    → HasLanes n second (λ j. field_product over_second (second_part node between (rest_of parity seen k (at + j)) (rest_of parity seen l (at + j))))
    → AddsRows at n x first old mid → AddsRows at n y second mid new
    → SolvesRows parity at n (k ∷ l ∷ []) (x ∷ y ∷ []) old new
solves_pair_seen parity at n k l x y node between over_first over_second first second old mid new seen same order kind present missing x_y below pair low_bytes high_bytes first_lanes second_lanes first_adds second_adds =
    solves_pair parity at n k l x y node between over_first over_second first second old mid new order kind present missing x_y below pair
    (subst (λ cs. (j : ℕ) → j < n → IsByte (rest_of parity cs k (at + j))) same low_bytes)
    (subst (λ cs. (j : ℕ) → j < n → IsByte (rest_of parity cs l (at + j))) same high_bytes)
    (subst (λ cs. HasLanes n first (λ j. field_product over_first (bit_xor (rest_of parity cs k (at + j)) (second_part node between (rest_of parity cs k (at + j)) (rest_of parity cs l (at + j)))))) same first_lanes)
    (subst (λ cs. HasLanes n second (λ j. field_product over_second (second_part node between (rest_of parity cs k (at + j)) (rest_of parity cs l (at + j))))) same second_lanes)
    first_adds second_adds

pub unit_inverse : (p i : ℕ) → IsByte i → p ≡ 1 → field_product p i ≡ 1 → i ≡ 1
unit_inverse p i byte one inverse = sym (one-field_product i byte) ∙ ap (λ q. field_product q i) (sym one) ∙ inverse

pub unit_power : (k e : ℕ) → k ≡ 0 → field_power 2 (k * e) ≡ 1
unfolding field_power
unit_power k e none = ap (λ m. field_power 2 (m * e)) none ∙ ap (field_power 2) (zero-mul e)

-- ---- one column from one sum
pub solves_one : (parity at n k x over : ℕ) (part : List ℕ) (old new seen : List (List ℕ)) → seen ≡ old → k < 3 → k < parity → parity ≤ x → x < length old → IsByte over
    → field_product (field_power 2 (k * (length old - 1 - x))) over ≡ 1
    → ((j : ℕ) → j < n → IsByte (rest_of parity seen k (at + j)))
    → HasLanes n part (λ j. field_product over (rest_of parity seen k (at + j)))
    → AddsRows at n x part old new → SolvesRows parity at n (k ∷ []) (x ∷ []) old new
solves_one parity at n k x over part old new seen same kind present missing below over_byte inverse bytes_left lanes adds =
    record {
      count = adds.count;
      long = adds.long;
      stays = λ i away. adds.other i (λ e. away (inl e));
      below = below_same at n x part old new adds;
      bytes = λ i j one low. elim one [
        | inl e ↦ subst (λ m. IsByte (slice_index (column_at new m) (at + j))) (sym e)
            (subst IsByte (sym (adds.here j low))
            (xor_of_8 (slice_index (column_at old x) (at + j)) (slice_index part j) (adds.bytes j low)
            (subst IsByte (sym (lanes.each j low)) (product_byte over (rest_of parity seen k (at + j)) over_byte))))
        | inr other ↦ absurd other
      ];
      solved = λ m j one low. elim one [
        | inl e ↦ subst (λ i. slice_index (column_at new i) (at + j) ≡ parity_sum i (byte_row (at + j) (drop parity new))) (sym e)
            (same_from_xor (slice_index (column_at new k) (at + j)) (parity_sum k (byte_row (at + j) (drop parity new))) (nothing j low))
        | inr other ↦ absurd other
      ];
    }
  where
    power : ℕ
    power = field_power 2 (k * (length old - 1 - x))

    nothing : (j : ℕ) → j < n → rest_of parity new k (at + j) ≡ 0
    nothing j low =
        let rest = rest_of parity old k (at + j) in
        let is : rest_of parity seen k (at + j) ≡ rest = ap (λ cs. rest_of parity cs k (at + j)) same in
        let byte : IsByte rest = subst IsByte is (bytes_left j low) in
        rest_added parity k x (at + j) (slice_index part j) old new kind present missing below (adds_at at n x j part old new adds low)
        ∙ xor_none rest (field_product power (slice_index part j))
        (sym (ap (field_product power) (lanes.each j low ∙ ap (field_product over) is)
        ∙ divided power over rest (power_byte (k * (length old - 1 - x))) over_byte byte inverse))
