-- Functions that take sums to sums. Two of them are the same on all bytes where they are on the eight powers of x.
use Rattle.std.proofs.Common.{◌≡◌, ℕ, zero, suc, ◌+◌, ◌*◌, ◌%◌, ◌^◌, ◌<◌, ◌∙◌, bit_xor, refl, sym, ap, ap₂, subst, arith}
use Rattle.std.specs.Int.{bit_at}
use Rattle.std.specs.Int.Bits.{xor_assoc, xor_self, xor_zero_r}
use Rattle.std.proofs.Math.Nat.{zero-mul, one-mul, add-zero}
use Rattle.std.proofs.lemmas.Nat.{xor_comm, xor_block, xor_of_8, pow_pos}
use Rattle.std.proofs.lemmas.Nat.Bits.{bit_at_xor, bit_at-lt}
use Rattle.draid_gf.specs.Field.{polynomial_sum, IsByte}
use Rattle.draid_gf.proofs.Computed.{same_at}

pub record IsLinear (f : ℕ → ℕ) : Type 0 where
  pub sum : (a b : ℕ) → f (bit_xor a b) ≡ bit_xor (f a) (f b)

pub linear_zero : (f : ℕ → ℕ) → IsLinear f → f 0 ≡ 0
linear_zero f linear = linear.sum 0 0 ∙ xor_self (f 0)

pub linear_both : (f g : ℕ → ℕ) → IsLinear f → IsLinear g → IsLinear (λ a. f (g a))
linear_both f g outer inner = record { sum = λ a b. ap f (inner.sum a b) ∙ outer.sum (g a) (g b) }

pub xor_swap : (a b c d : ℕ) → bit_xor (bit_xor a b) (bit_xor c d) ≡ bit_xor (bit_xor a c) (bit_xor b d)
xor_swap a b c d =
    xor_assoc a b (bit_xor c d)
    ∙ ap (bit_xor a) (sym (xor_assoc b c d) ∙ ap (λ x. bit_xor x d) (xor_comm b c) ∙ xor_assoc c b d)
    ∙ sym (xor_assoc a c (bit_xor b d))

-- the sum of two linear functions, and a linear function times x^k
pub linear_sum : (f g : ℕ → ℕ) → IsLinear f → IsLinear g → IsLinear (λ a. bit_xor (f a) (g a))
linear_sum f g first second =
    record { sum = λ a b. ap₂ bit_xor (first.sum a b) (second.sum a b) ∙ xor_swap (f a) (f b) (g a) (g b) }

pub shifted-linear : (k : ℕ) → IsLinear (λ a. a * 2 ^ k)
shifted-linear k = record { sum = λ a b. shifted a b }
  where
    shifted : (a b : ℕ) → bit_xor a b * 2 ^ k ≡ bit_xor (a * 2 ^ k) (b * 2 ^ k)
    shifted a b =
        let e = xor_block k a b 0 0 (pow_pos k) (pow_pos k) in
        sym (simp add-zero at e)

-- the coefficients of a sum, each times m
scaled_sum : (u v m : ℕ) → u < 2 → v < 2 → (u + v) % 2 * m ≡ bit_xor (u * m) (v * m)
scaled_sum zero zero m p q = rw zero-mul refl
scaled_sum zero (suc zero) m p q = rw (zero-mul, one-mul) refl
scaled_sum (suc zero) zero m p q = rw (zero-mul, one-mul) (sym (xor_zero_r m))
scaled_sum (suc zero) (suc zero) m p q = rw (zero-mul, one-mul) (sym (xor_self m))
scaled_sum zero (suc (suc v)) m p q = absurd (omega arith)
scaled_sum (suc zero) (suc (suc v)) m p q = absurd (omega arith)
scaled_sum (suc (suc u)) v m p q = absurd (omega arith)

pub coefficient-linear : (e m : ℕ) → IsLinear (λ n. bit_at n e * m)
coefficient-linear e m =
    record { sum = λ a b. ap (λ x. x * m) (bit_at_xor a b e) ∙ scaled_sum (bit_at a e) (bit_at b e) m (bit_at-lt a e) (bit_at-lt b e) }

pub scaled-linear : (c : ℕ) → c < 2 → (f : ℕ → ℕ) → IsLinear f → IsLinear (λ a. c * f a)
scaled-linear zero p f linear =
    record { sum = λ a b. zero-mul (f (bit_xor a b)) ∙ sym (ap₂ bit_xor (zero-mul (f a)) (zero-mul (f b))) }
scaled-linear (suc zero) p f linear =
    record { sum = λ a b. one-mul (f (bit_xor a b)) ∙ linear.sum a b ∙ sym (ap₂ bit_xor (one-mul (f a)) (one-mul (f b))) }
scaled-linear (suc (suc c)) p f linear = absurd (omega arith)

pub scaled_term : (f : ℕ → ℕ) → IsLinear f → (c m : ℕ) → c < 2 → f (c * m) ≡ c * f m
scaled_term f linear zero m p = ap f (zero-mul m) ∙ linear_zero f linear ∙ sym (zero-mul (f m))
scaled_term f linear (suc zero) m p = ap f (one-mul m) ∙ sym (one-mul (f m))
scaled_term f linear (suc (suc c)) m p = absurd (omega arith)

pub sum-same : (f g : ℕ → ℕ) (n : ℕ) → ((e : ℕ) → e < n → f e ≡ g e) → polynomial_sum f n ≡ polynomial_sum g n
unfolding polynomial_sum
sum-same f g zero same = refl
sum-same f g (suc n) same = ap₂ bit_xor (sum-same f g n (λ e below. same e (omega arith))) (same n (omega arith))

pub sum-linear : (f : ℕ → ℕ → ℕ) → ((e : ℕ) → IsLinear (f e)) → (n : ℕ) → IsLinear (λ a. polynomial_sum (λ e. f e a) n)
unfolding polynomial_sum
sum-linear f each zero = record { sum = λ a b. refl }
sum-linear f each (suc n) = linear_sum (λ a. polynomial_sum (λ e. f e a) n) (f n) (sum-linear f each n) (each n)

linear_of_sum : (f g : ℕ → ℕ) → IsLinear f → (n : ℕ) → f (polynomial_sum g n) ≡ polynomial_sum (λ e. f (g e)) n
unfolding polynomial_sum
linear_of_sum f g linear zero = linear_zero f linear
linear_of_sum f g linear (suc n) = linear.sum (polynomial_sum g n) (g n) ∙ ap (λ x. bit_xor x (f (g n))) (linear_of_sum f g linear n)

-- a byte is the sum of its terms
terms : (a : ℕ) → IsByte a → a ≡ polynomial_sum (λ e. bit_at a e * 2 ^ e) 8
unfolding polynomial_sum
terms a byte = same_at (λ x. x) (λ x. polynomial_sum (λ e. bit_at x e * 2 ^ e) 8) 256 refl a byte

-- the values at the powers of x give the value at a byte
from_powers : (f : ℕ → ℕ) → IsLinear f → (a : ℕ) → IsByte a → f a ≡ polynomial_sum (λ e. bit_at a e * f (2 ^ e)) 8
from_powers f linear a byte =
    ap f (terms a byte) ∙ linear_of_sum f (λ e. bit_at a e * 2 ^ e) linear 8
    ∙ sum-same (λ e. f (bit_at a e * 2 ^ e)) (λ e. bit_at a e * f (2 ^ e)) 8 (λ e below. scaled_term f linear (bit_at a e) (2 ^ e) (bit_at-lt a e))

pub linear_same : (f g : ℕ → ℕ) → IsLinear f → IsLinear g → ((e : ℕ) → e < 8 → f (2 ^ e) ≡ g (2 ^ e)) → (a : ℕ) → IsByte a → f a ≡ g a
linear_same f g first second same a byte =
    from_powers f first a byte
    ∙ sum-same (λ e. bit_at a e * f (2 ^ e)) (λ e. bit_at a e * g (2 ^ e)) 8 (λ e below. ap (λ x. bit_at a e * x) (same e below))
    ∙ sym (from_powers g second a byte)

sum-byte : (f : ℕ → ℕ) (n : ℕ) → ((e : ℕ) → e < n → IsByte (f e)) → IsByte (polynomial_sum f n)
unfolding polynomial_sum
sum-byte f zero each = omega arith
sum-byte f (suc n) each = xor_of_8 (polynomial_sum f n) (f n) (sum-byte f n (λ e below. each e (omega arith))) (each n (omega arith))

coefficient_byte : (c m : ℕ) → c < 2 → IsByte m → IsByte (c * m)
coefficient_byte zero m p byte = subst IsByte (sym (zero-mul m)) (omega arith)
coefficient_byte (suc zero) m p byte = subst IsByte (sym (one-mul m)) byte
coefficient_byte (suc (suc c)) m p byte = absurd (omega arith)

pub linear_byte : (f : ℕ → ℕ) → IsLinear f → ((e : ℕ) → e < 8 → IsByte (f (2 ^ e))) → (a : ℕ) → IsByte a → IsByte (f a)
linear_byte f linear each a byte =
    subst IsByte (sym (from_powers f linear a byte))
    (sum-byte (λ e. bit_at a e * f (2 ^ e)) 8 (λ e below. coefficient_byte (bit_at a e) (f (2 ^ e)) (bit_at-lt a e) (each e below)))
