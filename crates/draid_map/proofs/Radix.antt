use Rattle.std.proofs.Common.{◌≡◌, ◌+◌, ◌*◌, ◌/◌, ◌%◌, ◌<◌, ◌≤◌, ℕ, sym, ap, ◌∙◌, arith}
use Rattle.std.proofs.Math.Nat.{div-lt_iff_lt-mul, div-div-eq-div-mul, mul-le-mul_right, mod-add-div'}
use Rattle.std.proofs.lemmas.Nat.{div-mul-add, mod-mul-add}

-- a number of two digits, the second below w
pub two_digits : (w a b c d : ℕ) → b < w → d < w → a * w + b ≡ c * w + d → (a ≡ c) × (b ≡ d)
two_digits w a b c d left right same = (
  sym (div-mul-add a w b left) ∙ (ap (λ n. n / w) same ∙ div-mul-add c w d right),
  sym (mod-mul-add a w b left) ∙ (ap (λ n. n % w) same ∙ mod-mul-add c w d right),
)

pub two_below : (w a b n : ℕ) → a < n → b < w → a * w + b < n * w
two_below w a b n high low =
    let up : (a + 1) * w ≤ n * w = mul-le-mul_right w (omega arith) in
    let next : (a + 1) * w ≡ a * w + w = grind arith in
    omega arith

pub its_digits : (w n : ℕ) → n / w * w + n % w ≡ n
its_digits w n = omega (arith, mod-add-div' n w)

pub first_below : (w n count : ℕ) → 0 < w → n < count * w → n / w < count
first_below w n count some below =
    let iff = div-lt_iff_lt-mul {x = n} {y = count} some in
    iff.1 below

-- a number of three digits
pub three_digits : (w v n : ℕ) → (n / (w * v) * v + n / w % v) * w + n % w ≡ n
three_digits w v n =
    let quotient : n / (w * v) ≡ n / w / v = sym (div-div-eq-div-mul n w v) in
    ap (λ q. (q * v + n / w % v) * w + n % w) quotient ∙ (ap (λ h. h * w + n % w) (its_digits v (n / w)) ∙ its_digits w n)

pub high_digit : (w v a b c : ℕ) → b < v → c < w → ((a * v + b) * w + c) / (w * v) ≡ a
high_digit w v a b c middle low =
    sym (div-div-eq-div-mul ((a * v + b) * w + c) w v) ∙ (ap (λ n. n / v) (div-mul-add (a * v + b) w c low) ∙ div-mul-add a v b middle)

pub middle_digit : (w v a b c : ℕ) → b < v → c < w → ((a * v + b) * w + c) / w % v ≡ b
middle_digit w v a b c middle low = ap (λ n. n % v) (div-mul-add (a * v + b) w c low) ∙ mod-mul-add a v b middle

pub low_digit : (w h c : ℕ) → c < w → (h * w + c) % w ≡ c
low_digit w h c low = mod-mul-add h w c low

pub high_below : (w v n count : ℕ) → 0 < w → 0 < v → n < count * v * w → n / (w * v) < count
high_below w v n count some more below =
    let both : 0 < w * v = grind arith in
    let as_one : count * v * w ≡ count * (w * v) = grind arith in
    first_below (w * v) n count both (omega arith)

pub three_below : (w v a b c n : ℕ) → a < n → b < v → c < w → (a * v + b) * w + c < n * v * w
three_below w v a b c n high middle low = two_below w (a * v + b) c (n * v) (two_below v a b n high middle) low
