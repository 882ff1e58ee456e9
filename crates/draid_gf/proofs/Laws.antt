-- Inverses, and remainders by the modulus.
use Rattle.std.proofs.Common.{◌≡◌, ◌≢◌, ℕ, zero, suc, ◌+◌, ◌-◌, ◌*◌, ◌/◌, ◌%◌, ◌^◌, ◌<◌, ◌≤◌, ◌∙◌, Bool, true, false, ◌||◌, ◌==◌, ◌⊎◌, inl, inr, Some, cond, get_or, bit_xor, refl, sym, ap, ap₂, subst, arith}
use Rattle.std.specs.Prelude.{nat_lt, find, unwrap_or}
use Rattle.std.specs.Int.{bit_at}
use Rattle.std.specs.Int.Bits.{xor_assoc, xor_self, xor_zero_r}
use Rattle.std.proofs.lemmas.Bool.{eqb-true, cases_order, le-ltb}
use Rattle.std.proofs.lemmas.Nat.{xor_comm, xor_of_8, pow_below}
use Rattle.std.proofs.lemmas.Nat.Bits.{bit_at-lt}
use borrow.Author.Tests.{ltb-true}
use Rattle.draid_gf.specs.declared.table.TheConstants.{INVERSES}
use Rattle.draid_gf.specs.Field.{polynomial_sum, polynomial_product, remainder, field_product, field_inverse, numbers_below, modulus, IsByte, IsRemainder, IsField, RemaindersAgree}
use Rattle.draid_gf.proofs.Computed.{passes_at, same_at}
use Rattle.draid_gf.proofs.Linear.{linear_zero, scaled_term, xor_swap}
use Rattle.std.proofs.Math.Nat.{zero-mul, one-mul}
use Rattle.draid_gf.proofs.Product.{polynomial_product-right, field_product-byte, field_product-commutative, field_product-associative, one-field_product, field_product-zero, field_product-right}

-- ---- sums
pub xor_cancel : (a b : ℕ) → bit_xor a (bit_xor a b) ≡ b
xor_cancel a b = sym (xor_assoc a a b) ∙ ap (λ x. bit_xor x b) (xor_self a)

pub xor_cancel_right : (a b : ℕ) → bit_xor (bit_xor a b) b ≡ a
xor_cancel_right a b = xor_assoc a b b ∙ ap (bit_xor a) (xor_self b) ∙ xor_zero_r a

pub same_from_xor : (a b : ℕ) → bit_xor a b ≡ 0 → a ≡ b
same_from_xor a b none = sym (xor_cancel_right a b) ∙ ap (λ x. bit_xor x b) none

-- ---- remainders
modulus-powers : (e : ℕ) → e < 8 → polynomial_product modulus (2 ^ e) ≡ modulus * 2 ^ e
unfolding polynomial_product polynomial_sum
modulus-powers = same_at (λ e. polynomial_product modulus (2 ^ e)) (λ e. modulus * 2 ^ e) 8 refl

pub record HasQuotient (a r : ℕ) : Type 0 where
  pub q : ℕ
  pub byte : IsByte q
  pub is : a ≡ bit_xor (polynomial_product modulus q) r

term_byte : (c n : ℕ) → c < 2 → n < 8 → IsByte (c * 2 ^ n)
term_byte zero n p below = let e = zero-mul (2 ^ n) in omega (arith, e)
term_byte (suc zero) n p below = let small = pow_below n 8 below in omega (arith, small)
term_byte (suc (suc c)) n p below = absurd (omega arith)

quotient : (n : ℕ) → n ≤ 8 → (a : ℕ) → HasQuotient a (remainder n a)
unfolding remainder
quotient zero small a = record { q = 0; byte = omega arith; is = sym (ap (λ x. bit_xor x a) (linear_zero (polynomial_product modulus) (polynomial_product-right modulus))) }
quotient (suc n) small a =
    let c = bit_at a (8 + n) in
    let m = c * (modulus * 2 ^ n) in
    let rest = quotient n (omega arith) (bit_xor a m) in
    let r = remainder n (bit_xor a m) in
    let term : polynomial_product modulus (c * 2 ^ n) ≡ m =
    scaled_term (polynomial_product modulus) (polynomial_product-right modulus) c (2 ^ n) (bit_at-lt a (8 + n))
    ∙ ap (λ x. c * x) (modulus-powers n (omega arith)) in
    record {
      q = bit_xor rest.q (c * 2 ^ n);
      byte = xor_of_8 rest.q (c * 2 ^ n) rest.byte (term_byte c n (bit_at-lt a (8 + n)) (omega arith));
      is =
          sym (xor_cancel_right a m) ∙ ap (λ x. bit_xor x m) rest.is
          ∙ xor_assoc (polynomial_product modulus rest.q) r m ∙ ap (bit_xor (polynomial_product modulus rest.q)) (xor_comm r m)
          ∙ sym (xor_assoc (polynomial_product modulus rest.q) m r)
          ∙ ap (λ x. bit_xor x r)
          (sym ((polynomial_product-right modulus).sum rest.q (c * 2 ^ n) ∙ ap (bit_xor (polynomial_product modulus rest.q)) term));
    }

pub product_remainder : (a b : ℕ) → IsByte a → IsByte b → IsRemainder (polynomial_product a b) (field_product a b)
unfolding field_product
product_remainder a b a_byte b_byte =
    let found = quotient 7 (omega arith) (polynomial_product a b) in
    record { degree = field_product-byte a b a_byte b_byte; quotient = (found.q, found.byte, found.is) }

-- no multiple of the modulus but 0 has a degree below 8
multiple_small : (q : ℕ) → IsByte q → IsByte (polynomial_product modulus q) → polynomial_product modulus q ≡ 0
unfolding polynomial_product polynomial_sum
multiple_small q byte small =
    either (polynomial_product modulus q) small
    (passes_at (λ x. nat_lt 255 (polynomial_product modulus x) || (polynomial_product modulus x == 0)) 256 refl q byte)
  where
    second : (s t : Bool) → (s || t) ≡ true → s ≡ false → t ≡ true
    second true t h off = cc
    second false t h off = h

    either : (x : ℕ) → IsByte x → (nat_lt 255 x || (x == 0)) ≡ true → x ≡ 0
    either x x_byte h = eqb-true x 0 (second (nat_lt 255 x) (x == 0) h (le-ltb 255 x (omega arith)))

pub one_remainder : (n r s : ℕ) → IsRemainder n r → IsRemainder n s → r ≡ s
one_remainder n r s first second =
    let q = first.quotient.0 in
    let p = second.quotient.0 in
    let x = polynomial_product modulus q in
    let y = polynomial_product modulus p in
    let together : bit_xor (bit_xor x y) (bit_xor r s) ≡ 0 =
    xor_swap x y r s ∙ ap₂ bit_xor (sym first.quotient.2) (sym second.quotient.2) ∙ xor_self n in
    let multiple : polynomial_product modulus (bit_xor q p) ≡ bit_xor r s =
    (polynomial_product-right modulus).sum q p ∙ same_from_xor (bit_xor x y) (bit_xor r s) together in
    let none = multiple_small (bit_xor q p) (xor_of_8 q p first.quotient.1 second.quotient.1)
    (subst IsByte (sym multiple) (xor_of_8 r s first.degree second.degree)) in
    same_from_xor r s (sym multiple ∙ none)

pub remainders_agree : RemaindersAgree
remainders_agree = record { one = one_remainder; product = product_remainder }

-- ---- inverses
pub one_inverse : (a b c : ℕ) → IsByte a → IsByte b → IsByte c → field_product a b ≡ 1 → field_product a c ≡ 1 → b ≡ c
one_inverse a b c a_byte b_byte c_byte first second =
    sym (one-field_product b b_byte)
    ∙ ap (λ x. field_product x b) (sym second ∙ field_product-commutative a c a_byte c_byte)
    ∙ field_product-associative c a b c_byte a_byte b_byte
    ∙ ap (field_product c) first
    ∙ field_product-commutative c 1 c_byte (omega arith) ∙ one-field_product c c_byte

-- the first number below n that passes does pass, where any does
record Passes (p : ℕ → Bool) (n x : ℕ) : Type 0 where
  passes : p x ≡ true
  below : x < n

first_passes : (p : ℕ → Bool) (n b : ℕ) → b < n → p b ≡ true → Passes p n (unwrap_or (find p (numbers_below n)) 0)
unfolding numbers_below
first_passes p zero b below passes = absurd (omega arith)
first_passes p (suc n) b below passes =
    last (p n) refl (λ off. first_passes p n b (lower off (cases_order b n)) passes)
  where
    last : (t : Bool) → p n ≡ t → (t ≡ false → Passes p n (unwrap_or (find p (numbers_below n)) 0))
        → Passes p (suc n) (unwrap_or (cond t (Some n) (find p (numbers_below n))) 0)
    last true e rest = record { passes = e; below = omega arith }
    last false e rest = let inner = rest refl in record { passes = inner.passes; below = let b = inner.below in omega arith }

    lower : p n ≡ false → (b ≡ n) ⊎ ((b < n) ⊎ (n < b)) → b < n
    lower off (inl e) = let no : true ≡ false = sym passes ∙ ap p e ∙ off in cc
    lower off (inr (inl l)) = l
    lower off (inr (inr g)) = absurd (omega arith)

pub field_inverse-from : (a b : ℕ) → IsByte a → IsByte b → field_product a b ≡ 1 → b ≡ field_inverse a
unfolding field_inverse
field_inverse-from a b a_byte b_byte is =
    let first = first_passes (λ x. field_product a x == 1) 256 b b_byte (ap (λ x. x == 1) is) in
    one_inverse a b (field_inverse a) a_byte b_byte first.below is (eqb-true (field_product a (field_inverse a)) 1 first.passes)

tabled : (i : ℕ) → i < 255 → field_product (suc i) (get_or INVERSES (suc i) 0) ≡ 1
unfolding field_product polynomial_product polynomial_sum remainder
tabled = same_at (λ i. field_product (suc i) (get_or INVERSES (suc i) 0)) (λ i. 1) 255 refl

pub table_inverse : (a : ℕ) → IsByte a → a ≢ 0 → field_product a (get_or INVERSES a 0) ≡ 1
table_inverse a byte nonzero =
    let e : suc (a - 1) ≡ a = omega arith in
    subst (λ x. field_product x (get_or INVERSES x 0) ≡ 1) e (tabled (a - 1) (omega arith))

-- the table's entries are bytes
tabled_byte : (a : ℕ) → IsByte a → IsByte (get_or INVERSES a 0)
tabled_byte a byte = ltb-true (get_or INVERSES a 0) 256 (passes_at (λ x. nat_lt (get_or INVERSES x 0) 256) 256 refl a byte)

pub table_inverse_is : (a : ℕ) → IsByte a → a ≢ 0 → get_or INVERSES a 0 ≡ field_inverse a
table_inverse_is a byte nonzero = field_inverse-from a (get_or INVERSES a 0) byte (tabled_byte a byte) (table_inverse a byte nonzero)

pub field_inverse-product : (a : ℕ) → IsByte a → a ≢ 0 → field_product a (field_inverse a) ≡ 1
field_inverse-product a byte nonzero = ap (field_product a) (sym (table_inverse_is a byte nonzero)) ∙ table_inverse a byte nonzero

pub field_inverse-byte : (a : ℕ) → IsByte a → a ≢ 0 → IsByte (field_inverse a)
field_inverse-byte a byte nonzero = subst IsByte (table_inverse_is a byte nonzero) (tabled_byte a byte)

-- ---- Horner's rule
halves : (x : ℕ) → IsByte x → x ≡ bit_xor (field_product 2 (x / 2)) (x % 2)
unfolding field_product polynomial_product polynomial_sum remainder
halves = same_at (λ x. x) (λ x. bit_xor (field_product 2 (x / 2)) (x % 2)) 256 refl

pub product_bit : (a c : ℕ) → IsByte a → c < 2 → field_product a c ≡ c * a
product_bit a zero byte p = field_product-zero a ∙ sym (zero-mul a)
product_bit a (suc zero) byte p = field_product-commutative a 1 byte (omega arith) ∙ one-field_product a byte ∙ sym (one-mul a)
product_bit a (suc (suc c)) byte p = absurd (omega arith)

-- one more term of x
pub product_halves : (a x : ℕ) → IsByte a → IsByte x → bit_xor (field_product 2 (field_product a (x / 2))) (x % 2 * a) ≡ field_product a x
product_halves a x a_byte x_byte =
    let half : IsByte (x / 2) = omega arith in
    let two : IsByte 2 = omega arith in
    sym
    (ap (field_product a) (halves x x_byte)
    ∙ (field_product-right a).sum (field_product 2 (x / 2)) (x % 2)
    ∙ ap₂ bit_xor
    (sym (field_product-associative a 2 (x / 2) a_byte two half)
    ∙ ap (λ y. field_product y (x / 2)) (field_product-commutative a 2 a_byte two)
    ∙ field_product-associative 2 a (x / 2) two a_byte half)
    (product_bit a (x % 2) a_byte (omega arith)))

-- twice a byte, as its bits are moved
pub double_byte : (a : ℕ) → IsByte a → bit_xor (a * 2 % 256) (a / 128 * 29) ≡ field_product 2 a
unfolding field_product polynomial_product polynomial_sum remainder
double_byte = same_at (λ a. bit_xor (a * 2 % 256) (a / 128 * 29)) (field_product 2) 256 refl

pub is_field : IsField
is_field = record {
  sum = xor_of_8;
  sum_associative = xor_assoc;
  sum_commutative = xor_comm;
  zero_sum = λ a. refl;
  opposite = xor_self;
  product = field_product-byte;
  associative = field_product-associative;
  commutative = field_product-commutative;
  one = one-field_product;
  distributive = λ a. (field_product-right a).sum;
  inverse = field_inverse-product;
  inverse_byte = field_inverse-byte;
}
