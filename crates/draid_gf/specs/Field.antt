-- The field of 256 elements. A byte is a polynomial over two elements, bit e being its coefficient of
-- x^e. The sum of two polynomials is their exclusive or, since 1 + 1 is 0, and x^e times a is a * 2 ^ e.
use Rattle.std.specs.Prelude.{◌≡◌, ◌≢◌, ℕ, zero, suc, ◌+◌, ◌*◌, ◌^◌, ◌<◌, ◌==◌, List, [], ◌∷◌, find, unwrap_or, bit_xor}
use Rattle.std.specs.Int.{bit_at}

-- x^8 + x^4 + x^3 + x^2 + 1
abbrev pub modulus : ℕ
modulus = 0x11d

-- f 0 + .. + f (n - 1)
unfoldable pub polynomial_sum : (ℕ → ℕ) → ℕ → ℕ
polynomial_sum f zero = 0
polynomial_sum f (suc n) = bit_xor (polynomial_sum f n) (f n)

-- the product with a polynomial of degree below 8: the sum of the products with each of its terms
unfoldable pub polynomial_product : ℕ → ℕ → ℕ
polynomial_product a b = polynomial_sum (λ e. bit_at b e * (a * 2 ^ e)) 8

-- r is the remainder of n by the modulus: its degree is below 8, and n is a multiple of the modulus and r
pub record IsRemainder (n r : ℕ) : Type 0 where
  pub degree : r < 2 ^ 8
  pub quotient : (q : ℕ) × (q < 2 ^ 8) × (n ≡ bit_xor (polynomial_product modulus q) r)

-- the remainder of a polynomial of degree below 8 + n, by long division, the highest term first
-- (`field_laws` says that it is the remainder of a product, and the only one)
unfoldable pub remainder : ℕ → ℕ → ℕ
remainder zero a = a
remainder (suc n) a = remainder n (bit_xor a (bit_at a (8 + n) * (modulus * 2 ^ n)))

-- the product of two bytes
unfoldable pub field_product : ℕ → ℕ → ℕ
field_product a b = remainder 7 (polynomial_product a b)

unfoldable pub field_power : ℕ → ℕ → ℕ
field_power a zero = 1
field_power a (suc e) = field_product a (field_power a e)

-- n - 1, .., 0
unfoldable pub numbers_below : ℕ → List ℕ
numbers_below zero = []
numbers_below (suc n) = n ∷ numbers_below n

-- the byte whose product with a is 1
unfoldable pub field_inverse : ℕ → ℕ
field_inverse a = unwrap_or (find (λ b. field_product a b == 1) (numbers_below 256)) 0

abbrev pub IsByte : ℕ → Type 0
IsByte a = a < 2 ^ 8

-- the bytes are a commutative field
pub record IsField : Type 0 where
  pub sum : (a b : ℕ) → IsByte a → IsByte b → IsByte (bit_xor a b)
  pub sum_associative : (a b c : ℕ) → bit_xor (bit_xor a b) c ≡ bit_xor a (bit_xor b c)
  pub sum_commutative : (a b : ℕ) → bit_xor a b ≡ bit_xor b a
  pub zero_sum : (a : ℕ) → bit_xor 0 a ≡ a
  pub opposite : (a : ℕ) → bit_xor a a ≡ 0
  pub product : (a b : ℕ) → IsByte a → IsByte b → IsByte (field_product a b)
  pub associative : (a b c : ℕ) → IsByte a → IsByte b → IsByte c → field_product (field_product a b) c ≡ field_product a (field_product b c)
  pub commutative : (a b : ℕ) → IsByte a → IsByte b → field_product a b ≡ field_product b a
  pub one : (a : ℕ) → IsByte a → field_product 1 a ≡ a
  pub distributive : (a b c : ℕ) → field_product a (bit_xor b c) ≡ bit_xor (field_product a b) (field_product a c)
  pub inverse : (a : ℕ) → IsByte a → a ≢ 0 → field_product a (field_inverse a) ≡ 1
  pub inverse_byte : (a : ℕ) → IsByte a → a ≢ 0 → IsByte (field_inverse a)

-- a polynomial has at most one remainder, and a product of bytes has one, their product in the field
pub record RemaindersAgree : Type 0 where
  pub one : (n r s : ℕ) → IsRemainder n r → IsRemainder n s → r ≡ s
  pub product : (a b : ℕ) → IsByte a → IsByte b → IsRemainder (polynomial_product a b) (field_product a b)

-- powers of 2 with different exponents below 255 differ, and none is 0
pub record PowersDiffer : Type 0 where
  pub distinct : (i j : ℕ) → i < 255 → j < 255 → field_power 2 i ≡ field_power 2 j → i ≡ j
  pub nonzero : (e : ℕ) → field_power 2 e ≢ 0
