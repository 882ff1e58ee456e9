-- The product of the field is linear in each factor, and is a byte.
use Rattle.std.proofs.Common.{◌≡◌, ℕ, zero, suc, ◌+◌, ◌*◌, ◌^◌, ◌<◌, ◌%◌, ◌∙◌, true, ◌==◌, bit_xor, refl, sym, ap, subst, arith}
use Rattle.std.specs.Prelude.{nat_lt}
use borrow.Author.Tests.{ltb-true}
use Rattle.std.specs.Int.{bit_at}
use Rattle.std.proofs.lemmas.Nat.Bits.{bit_at-lt}
use Rattle.draid_gf.specs.Field.{polynomial_sum, polynomial_product, remainder, field_product, modulus, IsByte}
use Rattle.draid_gf.proofs.Computed.{passes_below, passes_at, same_at}
use Rattle.draid_gf.proofs.Linear.{IsLinear, linear_both, linear_sum, linear_zero, linear_same, linear_byte, sum-linear, sum-same, coefficient-linear, shifted-linear, scaled-linear}

pub polynomial_product-left : (b : ℕ) → IsLinear (λ a. polynomial_product a b)
unfolding polynomial_product
polynomial_product-left b = sum-linear (λ e a. bit_at b e * (a * 2 ^ e)) (λ e. scaled-linear (bit_at b e) (bit_at-lt b e) (λ a. a * 2 ^ e) (shifted-linear e)) 8

pub polynomial_product-right : (a : ℕ) → IsLinear (polynomial_product a)
unfolding polynomial_product
polynomial_product-right a = sum-linear (λ e b. bit_at b e * (a * 2 ^ e)) (λ e. coefficient-linear e (a * 2 ^ e)) 8

pub remainder-linear : (n : ℕ) → IsLinear (remainder n)
unfolding remainder
remainder-linear zero = record { sum = λ a b. refl }
remainder-linear (suc n) =
    linear_both (remainder n) (λ a. bit_xor a (bit_at a (8 + n) * (modulus * 2 ^ n))) (remainder-linear n)
    (linear_sum (λ a. a) (λ a. bit_at a (8 + n) * (modulus * 2 ^ n)) (record { sum = λ a b. refl }) (coefficient-linear (8 + n) (modulus * 2 ^ n)))

pub field_product-left : (b : ℕ) → IsLinear (λ a. field_product a b)
unfolding field_product
field_product-left b = linear_both (remainder 7) (λ a. polynomial_product a b) (remainder-linear 7) (polynomial_product-left b)

pub field_product-right : (a : ℕ) → IsLinear (field_product a)
unfolding field_product
field_product-right a = linear_both (remainder 7) (polynomial_product a) (remainder-linear 7) (polynomial_product-right a)

-- a fact of two bytes, from the powers of x
pub field_product-zero : (a : ℕ) → field_product a 0 ≡ 0
field_product-zero a = linear_zero (field_product a) (field_product-right a)

pub zero-field_product : (b : ℕ) → field_product 0 b ≡ 0
zero-field_product b = linear_zero (λ a. field_product a b) (field_product-left b)

-- a test of two bytes that passes at the powers of x
same_at_powers : (f g : ℕ → ℕ → ℕ) → passes_below (λ i. passes_below (λ j. f (2 ^ i) (2 ^ j) == g (2 ^ i) (2 ^ j)) 8) 8 ≡ true
    → (i : ℕ) → i < 8 → (j : ℕ) → j < 8 → f (2 ^ i) (2 ^ j) ≡ g (2 ^ i) (2 ^ j)
same_at_powers f g h i below =
    same_at (λ j. f (2 ^ i) (2 ^ j)) (λ j. g (2 ^ i) (2 ^ j)) 8
    (passes_at (λ k. passes_below (λ j. f (2 ^ k) (2 ^ j) == g (2 ^ k) (2 ^ j)) 8) 8 h i below)

-- two bilinear functions are the same where they are at the powers of x
bilinear_same : (f g : ℕ → ℕ → ℕ)
    → ((b : ℕ) → IsLinear (λ a. f a b)) → ((a : ℕ) → IsLinear (f a)) → ((b : ℕ) → IsLinear (λ a. g a b)) → ((a : ℕ) → IsLinear (g a))
    → ((i : ℕ) → i < 8 → (j : ℕ) → j < 8 → f (2 ^ i) (2 ^ j) ≡ g (2 ^ i) (2 ^ j))
    → (a b : ℕ) → IsByte a → IsByte b → f a b ≡ g a b
bilinear_same f g f_left f_right g_left g_right same a b a_byte b_byte =
    linear_same (λ x. f x b) (λ x. g x b) (f_left b) (g_left b)
    (λ i i_below. linear_same (f (2 ^ i)) (g (2 ^ i)) (f_right (2 ^ i)) (g_right (2 ^ i)) (λ j j_below. same i i_below j j_below) b b_byte)
    a a_byte

pub field_product-commutative : (a b : ℕ) → IsByte a → IsByte b → field_product a b ≡ field_product b a
unfolding field_product polynomial_product polynomial_sum remainder
field_product-commutative =
    bilinear_same field_product (λ a b. field_product b a) field_product-left field_product-right field_product-right field_product-left
    (same_at_powers field_product (λ a b. field_product b a) refl)

pub one-field_product : (a : ℕ) → IsByte a → field_product 1 a ≡ a
unfolding field_product polynomial_product polynomial_sum remainder
one-field_product =
    linear_same (field_product 1) (λ a. a) (field_product-right 1) (record { sum = λ a b. refl })
    (same_at (λ e. field_product 1 (2 ^ e)) (λ e. 2 ^ e) 8 refl)

byte_at_powers : (i : ℕ) → i < 8 → (j : ℕ) → j < 8 → IsByte (field_product (2 ^ i) (2 ^ j))
unfolding field_product polynomial_product polynomial_sum remainder
byte_at_powers i i_below j j_below =
    ltb-true (field_product (2 ^ i) (2 ^ j)) 256
    (passes_at (λ l. nat_lt (field_product (2 ^ i) (2 ^ l)) 256) 8
    (passes_at (λ k. passes_below (λ l. nat_lt (field_product (2 ^ k) (2 ^ l)) 256) 8) 8 refl i i_below) j j_below)

pub field_product-byte : (a b : ℕ) → IsByte a → IsByte b → IsByte (field_product a b)
field_product-byte a b a_byte b_byte =
    linear_byte (λ x. field_product x b) (field_product-left b)
    (λ i i_below. linear_byte (field_product (2 ^ i)) (field_product-right (2 ^ i)) (byte_at_powers i i_below) b b_byte)
    a a_byte

associative_at : (i j k : ℕ) → i < 8 → j < 8 → k < 8
    → field_product (field_product (2 ^ i) (2 ^ j)) (2 ^ k) ≡ field_product (2 ^ i) (field_product (2 ^ j) (2 ^ k))
unfolding field_product polynomial_product polynomial_sum remainder
associative_at i j k i_below j_below k_below =
    same_at (λ z. field_product (field_product (2 ^ i) (2 ^ j)) (2 ^ z)) (λ z. field_product (2 ^ i) (field_product (2 ^ j) (2 ^ z))) 8
    (passes_at (λ y. passes_below (λ z. field_product (field_product (2 ^ i) (2 ^ y)) (2 ^ z) == field_product (2 ^ i) (field_product (2 ^ y) (2 ^ z))) 8) 8
    (passes_at (λ x. passes_below (λ y. passes_below (λ z. field_product (field_product (2 ^ x) (2 ^ y)) (2 ^ z) == field_product (2 ^ x) (field_product (2 ^ y) (2 ^ z))) 8) 8) 8 refl i i_below)
    j j_below)
    k k_below

pub field_product-associative : (a b c : ℕ) → IsByte a → IsByte b → IsByte c → field_product (field_product a b) c ≡ field_product a (field_product b c)
field_product-associative a b c a_byte b_byte c_byte =
    linear_same (λ x. field_product (field_product x b) c) (λ x. field_product x (field_product b c))
    (linear_both (λ x. field_product x c) (λ x. field_product x b) (field_product-left c) (field_product-left b))
    (field_product-left (field_product b c))
    (λ i i_below.
    bilinear_same (λ y z. field_product (field_product (2 ^ i) y) z) (λ y z. field_product (2 ^ i) (field_product y z))
    (λ z. linear_both (λ x. field_product x z) (field_product (2 ^ i)) (field_product-left z) (field_product-right (2 ^ i)))
    (λ y. field_product-right (field_product (2 ^ i) y))
    (λ z. linear_both (field_product (2 ^ i)) (λ y. field_product y z) (field_product-right (2 ^ i)) (field_product-left z))
    (λ y. linear_both (field_product (2 ^ i)) (field_product y) (field_product-right (2 ^ i)) (field_product-right y))
    (λ j j_below k k_below. associative_at i j k i_below j_below k_below) b c b_byte c_byte)
    a a_byte

-- a product has no more of a number than its low byte
low_bits : (e x : ℕ) → e < 8 → bit_at (x % 256) e ≡ bit_at x e
low_bits zero x below = omega arith
low_bits (suc zero) x below = omega arith
low_bits (suc (suc zero)) x below = omega arith
low_bits (suc (suc (suc zero))) x below = omega arith
low_bits (suc (suc (suc (suc zero)))) x below = omega arith
low_bits (suc (suc (suc (suc (suc zero))))) x below = omega arith
low_bits (suc (suc (suc (suc (suc (suc zero)))))) x below = omega arith
low_bits (suc (suc (suc (suc (suc (suc (suc zero))))))) x below = omega arith
low_bits (suc (suc (suc (suc (suc (suc (suc (suc e)))))))) x below = absurd (omega arith)

pub field_product-low : (a x : ℕ) → field_product a (x % 256) ≡ field_product a x
unfolding field_product polynomial_product
field_product-low a x =
    ap (remainder 7)
    (sum-same (λ e. bit_at (x % 256) e * (a * 2 ^ e)) (λ e. bit_at x e * (a * 2 ^ e)) 8 (λ e below. ap (λ b. b * (a * 2 ^ e)) (low_bits e x below)))

pub product_byte : (a x : ℕ) → IsByte a → IsByte (field_product a x)
product_byte a x byte = subst IsByte (field_product-low a x) (field_product-byte a (x % 256) byte (omega arith))

pub product-associative : (a b x : ℕ) → IsByte a → IsByte b → field_product (field_product a b) x ≡ field_product a (field_product b x)
product-associative a b x a_byte b_byte =
    sym (field_product-low (field_product a b) x)
    ∙ field_product-associative a b (x % 256) a_byte b_byte (omega arith)
    ∙ ap (field_product a) (field_product-low b x)
