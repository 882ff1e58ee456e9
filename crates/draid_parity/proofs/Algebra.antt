-- The linear equations in two and three missing bytes, and the powers that weigh them.
use Rattle.std.proofs.Common.{◌≡◌, ℕ, zero, suc, ◌+◌, ◌*◌, ◌^◌, ◌<◌, ◌∙◌, bit_xor, refl, sym, ap, ap₂, arith}
use Rattle.std.specs.Int.Bits.{xor_assoc, xor_self}
use Rattle.std.proofs.lemmas.Nat.{xor_comm}
use Rattle.draid_gf.specs.Field.{field_product, field_power, polynomial_product, polynomial_sum, remainder, IsByte}
use Rattle.draid_gf.proofs.Computed.{same_at}
use Rattle.draid_parity.specs.Equations.{SolvesTwo, SolvesThree}
use Rattle.draid_gf.proofs.Linear.{xor_swap}
use Rattle.draid_gf.proofs.Product.{field_product-left, field_product-right, field_product-commutative, field_product-associative, one-field_product, field_product-zero}
use Rattle.draid_gf.proofs.Laws.{xor_cancel, xor_cancel_right}
use Rattle.draid_gf.proofs.Powers.{field_power-byte}

-- ---- sums and products
pub xor_around : (a b : ℕ) → bit_xor a (bit_xor b a) ≡ b
xor_around a b = ap (bit_xor a) (xor_comm b a) ∙ xor_cancel a b

-- the two sides of a sum that is 0
pub xor_none : (a b : ℕ) → a ≡ b → bit_xor a b ≡ 0
xor_none a b same = ap (λ x. bit_xor x b) same ∙ xor_self b

pub product_left_commutative : (a b c : ℕ) → IsByte a → IsByte b → IsByte c → field_product a (field_product b c) ≡ field_product b (field_product a c)
product_left_commutative a b c a_byte b_byte c_byte =
    sym (field_product-associative a b c a_byte b_byte c_byte)
    ∙ ap (λ x. field_product x c) (field_product-commutative a b a_byte b_byte)
    ∙ field_product-associative b a c b_byte a_byte c_byte

-- a quotient times the divisor
pub divided : (d i s : ℕ) → IsByte d → IsByte i → IsByte s → field_product d i ≡ 1 → field_product d (field_product i s) ≡ s
divided d i s d_byte i_byte s_byte one =
    sym (field_product-associative d i s d_byte i_byte s_byte) ∙ ap (λ x. field_product x s) one ∙ one-field_product s s_byte

pub no_divisor : (d i x : ℕ) → IsByte d → IsByte i → IsByte x → field_product d i ≡ 1 → field_product d x ≡ 0 → x ≡ 0
no_divisor d i x d_byte i_byte x_byte one none =
    sym (one-field_product x x_byte)
    ∙ ap (λ y. field_product y x) (sym one ∙ field_product-commutative d i d_byte i_byte)
    ∙ field_product-associative i d x i_byte d_byte x_byte
    ∙ ap (field_product i) none ∙ field_product-zero i

-- ---- two unknown bytes, by the sums with the powers 0 and 1 of two nodes
pub two : (v0 v1 t0 t1 y0 y1 : ℕ) → y0 ≡ bit_xor t0 y1
    → field_product (bit_xor v0 v1) y1 ≡ bit_xor t1 (field_product v0 t0) → SolvesTwo v0 v1 t0 t1 y0 y1
two v0 v1 t0 t1 y0 y1 first second = record {
  sum0 = ap (λ x. bit_xor x y1) first ∙ xor_cancel_right t0 y1;
  sum1 =
      ap (λ x. bit_xor (field_product v0 x) (field_product v1 y1)) first
      ∙ ap (λ x. bit_xor x (field_product v1 y1)) ((field_product-right v0).sum t0 y1)
      ∙ xor_assoc (field_product v0 t0) (field_product v0 y1) (field_product v1 y1)
      ∙ ap (bit_xor (field_product v0 t0)) (sym ((field_product-left y1).sum v0 v1) ∙ second)
      ∙ xor_around (field_product v0 t0) t1;
}

-- ---- three unknown bytes, by the sums with the powers 0, 1 and 2 of three nodes
pub three : (v0 v1 v2 t0 t1 t2 y0 y1 y2 : ℕ) → IsByte v0 → IsByte v1 → IsByte v2 → IsByte y1 → IsByte y2
    → y0 ≡ bit_xor (bit_xor t0 y1) y2
    → SolvesTwo v1 v2 (bit_xor t1 (field_product v0 t0)) (bit_xor t2 (field_product v0 t1))
    (field_product (bit_xor v0 v1) y1) (field_product (bit_xor v0 v2) y2)
    → SolvesThree v0 v1 v2 t0 t1 t2 y0 y1 y2
three v0 v1 v2 t0 t1 t2 y0 y1 y2 v0_byte v1_byte v2_byte y1_byte y2_byte first rest =
    record { sum0 = whole0; sum1 = whole1; sum2 = whole2 }
  where
    start : y0 ≡ bit_xor t0 (bit_xor y1 y2)
    start = first ∙ xor_assoc t0 y1 y2

    whole0 : bit_xor y0 (bit_xor y1 y2) ≡ t0
    whole0 = ap (λ x. bit_xor x (bit_xor y1 y2)) start ∙ xor_cancel_right t0 (bit_xor y1 y2)

    whole1 : bit_xor (field_product v0 y0) (bit_xor (field_product v1 y1) (field_product v2 y2)) ≡ t1
    whole1 =
        ap (λ x. bit_xor (field_product v0 x) (bit_xor (field_product v1 y1) (field_product v2 y2))) start
        ∙ ap (λ x. bit_xor x (bit_xor (field_product v1 y1) (field_product v2 y2)))
        ((field_product-right v0).sum t0 (bit_xor y1 y2) ∙ ap (bit_xor (field_product v0 t0)) ((field_product-right v0).sum y1 y2))
        ∙ xor_assoc (field_product v0 t0) (bit_xor (field_product v0 y1) (field_product v0 y2)) (bit_xor (field_product v1 y1) (field_product v2 y2))
        ∙ ap (bit_xor (field_product v0 t0))
        (xor_swap (field_product v0 y1) (field_product v0 y2) (field_product v1 y1) (field_product v2 y2)
        ∙ sym (ap₂ bit_xor ((field_product-left y1).sum v0 v1) ((field_product-left y2).sum v0 v2))
        ∙ rest.sum0)
        ∙ xor_around (field_product v0 t0) t1

    x0 : ℕ
    x0 = field_product v0 (field_product v0 y0)

    a1 : ℕ
    a1 = field_product v1 (field_product v1 y1)

    a2 : ℕ
    a2 = field_product v2 (field_product v2 y2)

    b1 : ℕ
    b1 = field_product v0 (field_product v1 y1)

    b2 : ℕ
    b2 = field_product v0 (field_product v2 y2)

    upper : bit_xor x0 (bit_xor b1 b2) ≡ field_product v0 t1
    upper =
        sym ((field_product-right v0).sum (field_product v0 y0) (bit_xor (field_product v1 y1) (field_product v2 y2))
        ∙ ap (bit_xor x0) ((field_product-right v0).sum (field_product v1 y1) (field_product v2 y2)))
        ∙ ap (field_product v0) whole1

    spread : (v y : ℕ) → IsByte v → IsByte y
        → field_product v (field_product (bit_xor v0 v) y) ≡ bit_xor (field_product v0 (field_product v y)) (field_product v (field_product v y))
    spread v y v_byte y_byte =
        ap (field_product v) ((field_product-left y).sum v0 v)
        ∙ (field_product-right v).sum (field_product v0 y) (field_product v y)
        ∙ ap (λ x. bit_xor x (field_product v (field_product v y))) (product_left_commutative v v0 y v_byte v0_byte y_byte)

    lower : bit_xor (bit_xor b1 b2) (bit_xor a1 a2) ≡ bit_xor t2 (field_product v0 t1)
    lower = xor_swap b1 b2 a1 a2 ∙ sym (ap₂ bit_xor (spread v1 y1 v1_byte y1_byte) (spread v2 y2 v2_byte y2_byte)) ∙ rest.sum1

    whole2 : bit_xor x0 (bit_xor a1 a2) ≡ t2
    whole2 =
        ap (bit_xor x0) (sym (xor_cancel (bit_xor b1 b2) (bit_xor a1 a2)))
        ∙ sym (xor_assoc x0 (bit_xor b1 b2) (bit_xor (bit_xor b1 b2) (bit_xor a1 a2)))
        ∙ ap₂ bit_xor upper lower
        ∙ xor_around (field_product v0 t1) t2

-- ---- powers
pub field_power-add : (a m n : ℕ) → IsByte a → field_product (field_power a m) (field_power a n) ≡ field_power a (m + n)
unfolding field_power
field_power-add a zero n byte = one-field_product (field_power a n) (field_power-byte a n byte) ∙ ap (field_power a) (omega arith)
field_power-add a (suc m) n byte =
    field_product-associative a (field_power a m) (field_power a n) byte (field_power-byte a m byte) (field_power-byte a n byte)
    ∙ ap (field_product a) (field_power-add a m n byte)
    ∙ (let turn : suc (m + n) ≡ suc m + n = omega arith in ap (field_power a) turn)

pub power_of_power : (k n : ℕ) → field_power (field_power 2 k) n ≡ field_power 2 (k * n)
unfolding field_power
power_of_power k zero = let none : 0 ≡ k * 0 = omega arith in ap (field_power 2) none
power_of_power k (suc n) =
    ap (field_product (field_power 2 k)) (power_of_power k n)
    ∙ field_power-add 2 k (k * n) (omega arith)
    ∙ (let turn : k + k * n ≡ k * suc n = omega arith in ap (field_power 2) turn)

-- the powers of 1, 2 and 4 are powers of 2
pub generators : (k : ℕ) → k < 3 → 2 ^ k ≡ field_power 2 k
unfolding field_power field_product polynomial_product polynomial_sum remainder
generators = same_at (λ k. 2 ^ k) (field_power 2) 3 refl

pub generator_power : (k n : ℕ) → k < 3 → field_power (2 ^ k) n ≡ field_power 2 (k * n)
generator_power k n below = ap (λ x. field_power x n) (generators k below) ∙ power_of_power k n

pub two_same : (v0 v1 t0 t1 y0 y1 t0' t1' y0' y1' : ℕ) → t0 ≡ t0' → t1 ≡ t1' → y0 ≡ y0' → y1 ≡ y1'
    → SolvesTwo v0 v1 t0 t1 y0 y1 → SolvesTwo v0 v1 t0' t1' y0' y1'
two_same v0 v1 t0 t1 y0 y1 t0' t1' y0' y1' first second third fourth solved = record {
  sum0 = sym (ap₂ bit_xor third fourth) ∙ solved.sum0 ∙ first;
  sum1 = sym (ap₂ bit_xor (ap (field_product v0) third) (ap (field_product v1) fourth)) ∙ solved.sum1 ∙ second;
}
