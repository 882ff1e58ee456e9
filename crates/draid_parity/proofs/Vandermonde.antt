-- Equations in missing bytes have one solution: a list of bytes that is 0 but in m places, with m of its weighted sums 0, is 0 throughout.
-- The weights of place i in the sums are u^k, u^(k + s), .. with one node u for each place, and the nodes differ (the Vandermonde form). One place
-- after the other is taken out: the sum with k + s, and u^s times the sum with k for the node u of a place, add up to a sum without that place.
use Rattle.std.proofs.Common.{◌≡◌, ◌≢◌, ℕ, zero, suc, ◌+◌, ◌-◌, ◌*◌, ◌<◌, ◌≤◌, ◌∙◌, ◌⊎◌, inl, inr, List, [], ◌∷◌, length, get_or, bit_xor, refl, sym, ap, ap₂, subst, arith}
use Rattle.std.specs.Int.Bits.{xor_self, xor_zero_r}
use Rattle.std.proofs.lemmas.Bool.{cases_order, cases_lt}
use Rattle.std.proofs.lemmas.List.{get_or_past}
use Rattle.std.proofs.lemmas.Nat.{xor_of_8}
use Rattle.draid_gf.specs.Field.{field_product, field_power, field_inverse, IsByte}
use Rattle.draid_gf.proofs.Linear.{xor_swap}
use Rattle.draid_gf.proofs.Product.{field_product-left, field_product-right, field_product-byte, field_product-associative, field_product-zero, zero-field_product}
use Rattle.draid_gf.proofs.Laws.{same_from_xor, field_inverse-product, field_inverse-byte}
use Rattle.draid_gf.proofs.Powers.{field_power-byte, powers_differ}
use Rattle.draid_parity.specs.Codeword.{weighted_sum}
use Rattle.draid_parity.proofs.Algebra.{product_left_commutative, no_divisor, field_power-add, power_of_power}
use Rattle.draid_parity.proofs.Restored.{nodes_differ}

power_byte : (e : ℕ) → IsByte (field_power 2 e)
power_byte e = field_power-byte 2 e (omega arith)

-- a factor that isn't 0
pub factor_none : (d x : ℕ) → IsByte d → IsByte x → d ≢ 0 → field_product d x ≡ 0 → x ≡ 0
factor_none d x d_byte x_byte some none =
    no_divisor d (field_inverse d) x d_byte (field_inverse-byte d d_byte some) x_byte (field_inverse-product d d_byte some) none

-- ---- sums of lists that are mostly 0
nothing : (c : ℕ) (ds : List ℕ) → ((i : ℕ) → get_or ds i 0 ≡ 0) → weighted_sum c ds ≡ 0
unfolding weighted_sum
nothing c [] none = refl
nothing c (d ∷ ds) none =
    ap₂ bit_xor (ap (field_product (field_power c (length ds))) (none 0) ∙ field_product-zero (field_power c (length ds)))
    (nothing c ds (λ i. none (suc i)))

single : (c : ℕ) (ds : List ℕ) (x : ℕ) → x < length ds → ((i : ℕ) → i ≢ x → get_or ds i 0 ≡ 0)
    → weighted_sum c ds ≡ field_product (field_power c (length ds - 1 - x)) (get_or ds x 0)
unfolding weighted_sum
single c [] x below none = absurd (omega arith)
single c (d ∷ ds) zero below none =
    ap (bit_xor (field_product (field_power c (length ds)) d)) (nothing c ds (λ i. none (suc i) (omega arith)))
    ∙ xor_zero_r (field_product (field_power c (length ds)) d)
    ∙ (let same : length ds ≡ length (d ∷ ds) - 1 - 0 = omega arith in ap (λ n. field_product (field_power c n) d) same)
single c (d ∷ ds) (suc x) below none =
    let first : field_product (field_power c (length ds)) d ≡ 0 =
    ap (field_product (field_power c (length ds))) (none 0 (omega arith)) ∙ field_product-zero (field_power c (length ds)) in
    ap (λ y. bit_xor y (weighted_sum c ds)) first
    ∙ single c ds x (omega arith) (λ i apart. none (suc i) (omega arith))
    ∙ (let same : length ds - 1 - x ≡ length (d ∷ ds) - 1 - suc x = omega arith in ap (λ n. field_product (field_power c n) (get_or ds x 0)) same)

-- ---- a place is taken out
-- each byte times the sum of its node and w
unfoldable scaled : ℕ → ℕ → List ℕ → List ℕ
scaled s w [] = []
scaled s w (d ∷ ds) = field_product (bit_xor (field_power 2 (s * length ds)) w) d ∷ scaled s w ds

scaled-length : (s w : ℕ) (ds : List ℕ) → length (scaled s w ds) ≡ length ds
unfolding scaled
scaled-length s w [] = refl
scaled-length s w (d ∷ ds) = ap suc (scaled-length s w ds)

scaled-at : (s w : ℕ) (ds : List ℕ) (i : ℕ) → i < length ds
    → get_or (scaled s w ds) i 0 ≡ field_product (bit_xor (field_power 2 (s * (length ds - 1 - i))) w) (get_or ds i 0)
unfolding scaled
scaled-at s w [] i below = absurd (omega arith)
scaled-at s w (d ∷ ds) zero below =
    let same : length ds ≡ length (d ∷ ds) - 1 - 0 = omega arith in
    ap (λ n. field_product (bit_xor (field_power 2 (s * n)) w) d) same
scaled-at s w (d ∷ ds) (suc i) below =
    scaled-at s w ds i (omega arith)
    ∙ (let same : length ds - 1 - i ≡ length (d ∷ ds) - 1 - suc i = omega arith in
    ap (λ n. field_product (bit_xor (field_power 2 (s * n)) w) (get_or ds i 0)) same)

scaled-past : (s w : ℕ) (ds : List ℕ) (i : ℕ) → length ds ≤ i → get_or (scaled s w ds) i 0 ≡ 0
scaled-past s w ds i past = let same = scaled-length s w ds in get_or_past (scaled s w ds) i 0 (omega (arith, same))

scaled-sum : (s w k : ℕ) (ds : List ℕ) → IsByte w → ((i : ℕ) → IsByte (get_or ds i 0))
    → weighted_sum (field_power 2 k) (scaled s w ds)
    ≡ bit_xor (weighted_sum (field_power 2 (k + s)) ds) (field_product w (weighted_sum (field_power 2 k) ds))
unfolding scaled weighted_sum
scaled-sum s w k [] w_byte bytes = sym (field_product-zero w)
scaled-sum s w k (d ∷ ds) w_byte bytes =
    let n = length ds in
    let p = field_power (field_power 2 k) n in
    let p_byte : IsByte p = field_power-byte (field_power 2 k) n (power_byte k) in
    let d_byte : IsByte d = bytes 0 in
    let a = weighted_sum (field_power 2 (k + s)) ds in
    let b = weighted_sum (field_power 2 k) ds in
    let node = field_power 2 (s * n) in
    let exponents : k * n + s * n ≡ (k + s) * n = omega arith in
    let first : field_product p (field_product node d) ≡ field_product (field_power (field_power 2 (k + s)) n) d =
    sym (field_product-associative p node d p_byte (power_byte (s * n)) d_byte)
    ∙ ap (λ q. field_product q d)
    (ap (λ q. field_product q node) (power_of_power k n) ∙ field_power-add 2 (k * n) (s * n) (omega arith)
    ∙ ap (field_power 2) exponents ∙ sym (power_of_power (k + s) n)) in
    ap₂ bit_xor
    (ap (λ m. field_product (field_power (field_power 2 k) m) (field_product (bit_xor node w) d)) (scaled-length s w ds)
    ∙ ap (field_product p) ((field_product-left d).sum node w)
    ∙ (field_product-right p).sum (field_product node d) (field_product w d)
    ∙ ap₂ bit_xor first (product_left_commutative p w d p_byte w_byte d_byte))
    (scaled-sum s w k ds w_byte (λ i. bytes (suc i)))
    ∙ xor_swap (field_product (field_power (field_power 2 (k + s)) n) d) (field_product w (field_product p d)) a (field_product w b)
    ∙ ap (bit_xor (bit_xor (field_product (field_power (field_power 2 (k + s)) n) d) a)) (sym ((field_product-right w).sum (field_product p d) b))

-- ---- the places that are missing
-- i is none of the places
abbrev pub Differs : ℕ → List ℕ → Type 0
Differs i [] = Unit {0}
Differs i (x ∷ xs) = (i ≢ x) × Differs i xs

-- different places below n
abbrev pub ArePlaces : ℕ → List ℕ → Type 0
ArePlaces n [] = Unit {0}
ArePlaces n (x ∷ xs) = (x < n) × Differs x xs × ArePlaces n xs

pub record Vanishes (k s : ℕ) (xs ds : List ℕ) : Type 0 where
  pub few : length ds ≤ 255
  pub bytes : (i : ℕ) → IsByte (get_or ds i 0)
  pub places : ArePlaces (length ds) xs
  pub elsewhere : (i : ℕ) → Differs i xs → get_or ds i 0 ≡ 0
  pub sums : (t : ℕ) → t < length xs → weighted_sum (field_power 2 (k + s * t)) ds ≡ 0

take_out : (k s x : ℕ) (xs ds : List ℕ) → Vanishes k s (x ∷ xs) ds → Vanishes k s xs (scaled s (field_power 2 (s * (length ds - 1 - x))) ds)
take_out k s x xs ds v = record {
  few = omega (arith, same, v.few);
  bytes = λ i. byte i (cases_lt i (length ds));
  places = subst (λ n. ArePlaces n xs) (sym same) v.places.2;
  elsewhere = λ i apart. none i apart (cases_lt i (length ds)) (cases_order i x);
  sums = λ t below.
      scaled-sum s w (k + s * t) ds (power_byte (s * (length ds - 1 - x))) v.bytes
      ∙ ap₂ bit_xor
      ((let next : k + s * t + s ≡ k + s * suc t = omega arith in ap (λ e. weighted_sum (field_power 2 e) ds) next) ∙ v.sums (suc t) (omega arith))
      (ap (field_product w) (v.sums t (omega arith)) ∙ field_product-zero w);
}
  where
    w : ℕ
    w = field_power 2 (s * (length ds - 1 - x))

    same : length (scaled s w ds) ≡ length ds
    same = scaled-length s w ds

    byte : (i : ℕ) → (i < length ds) ⊎ (length ds ≤ i) → IsByte (get_or (scaled s w ds) i 0)
    byte i (inl below) =
        subst IsByte (sym (scaled-at s w ds i below))
        (field_product-byte (bit_xor (field_power 2 (s * (length ds - 1 - i))) w) (get_or ds i 0)
        (xor_of_8 (field_power 2 (s * (length ds - 1 - i))) w (power_byte (s * (length ds - 1 - i))) (power_byte (s * (length ds - 1 - x)))) (v.bytes i))
    byte i (inr past) = let none = scaled-past s w ds i past in omega (arith, none)

    zero_at : (i : ℕ) → get_or ds i 0 ≡ 0 → i < length ds → get_or (scaled s w ds) i 0 ≡ 0
    zero_at i none below =
        scaled-at s w ds i below ∙ ap (field_product (bit_xor (field_power 2 (s * (length ds - 1 - i))) w)) none
        ∙ field_product-zero (bit_xor (field_power 2 (s * (length ds - 1 - i))) w)

    none : (i : ℕ) → Differs i xs → (i < length ds) ⊎ (length ds ≤ i) → (i ≡ x) ⊎ ((i < x) ⊎ (x < i)) → get_or (scaled s w ds) i 0 ≡ 0
    none i apart (inr past) order = scaled-past s w ds i past
    none i apart (inl below) (inl e) =
        scaled-at s w ds i below
        ∙ ap (λ y. field_product y (get_or ds i 0)) (ap (λ n. bit_xor (field_power 2 (s * (length ds - 1 - n))) w) e ∙ xor_self w)
        ∙ zero-field_product (get_or ds i 0)
    none i apart (inl below) (inr (inl l)) = zero_at i (v.elsewhere i (((λ e. omega arith), apart))) below
    none i apart (inl below) (inr (inr g)) = zero_at i (v.elsewhere i (((λ e. omega arith), apart))) below

pub vanish : (k s : ℕ) (xs ds : List ℕ) → 1 ≤ s → s ≤ 2 → Vanishes k s xs ds → (i : ℕ) → get_or ds i 0 ≡ 0
vanish k s [] ds low high v i = v.elsewhere i tt
vanish k s (x ∷ xs) ds low high v i =
    last (vanish k s xs (scaled s (field_power 2 (s * (length ds - 1 - x))) ds) low high (take_out k s x xs ds v)) (cases_order i x)
  where
    e : ℕ
    e = length ds - 1 - x

    w : ℕ
    w = field_power 2 (s * e)

    others : ((i : ℕ) → get_or (scaled s w ds) i 0 ≡ 0) → (i : ℕ) → i ≢ x → get_or ds i 0 ≡ 0
    others inner i apart = cases (cases_lt i (length ds))
      where
        cases : (i < length ds) ⊎ (length ds ≤ i) → get_or ds i 0 ≡ 0
        cases (inr past) = get_or_past ds i 0 past
        cases (inl below) =
            let f = length ds - 1 - i in
            let differ : f ≢ e = (let x_below = v.places.0 in omega (arith, x_below)) in
            let few = v.few in
            factor_none (bit_xor (field_power 2 (s * f)) w) (get_or ds i 0)
            (xor_of_8 (field_power 2 (s * f)) w (power_byte (s * f)) (power_byte (s * e))) (v.bytes i)
            (λ none. nodes_differ s f e low high (omega (arith, few)) (omega (arith, few)) differ (same_from_xor (field_power 2 (s * f)) w none))
            (sym (scaled-at s w ds i below) ∙ inner i)

    own : ((i : ℕ) → get_or (scaled s w ds) i 0 ≡ 0) → get_or ds x 0 ≡ 0
    own inner =
        factor_none (field_power 2 (k * e)) (get_or ds x 0) (power_byte (k * e)) (v.bytes x) (powers_differ.nonzero (k * e))
        (ap (λ p. field_product p (get_or ds x 0)) (sym (power_of_power k e))
        ∙ sym (single (field_power 2 k) ds x v.places.0 (others inner))
        ∙ (let start : k ≡ k + s * 0 = omega arith in ap (λ n. weighted_sum (field_power 2 n) ds) start)
        ∙ v.sums 0 (omega arith))

    last : ((i : ℕ) → get_or (scaled s w ds) i 0 ≡ 0) → (i ≡ x) ⊎ ((i < x) ⊎ (x < i)) → get_or ds i 0 ≡ 0
    last inner (inl same) = ap (λ n. get_or ds n 0) same ∙ own inner
    last inner (inr (inl l)) = others inner i (omega arith)
    last inner (inr (inr g)) = others inner i (omega arith)
