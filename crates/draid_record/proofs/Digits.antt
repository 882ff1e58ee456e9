-- The bytes of the number that bytes say are those bytes.
use Rattle.std.proofs.Common.{◌≡◌, ℕ, zero, suc, ◌+◌, ◌-◌, ◌*◌, ◌/◌, ◌%◌, ◌^◌, ◌<◌, ◌≤◌, List, ◌∷◌, length, get_or, take, drop, refl, sym, ap, ap₂, ◌∙◌, arith}
use Rattle.std.specs.Int.{byte_at, bytes_high_first}
use Rattle.std.proofs.Math.Nat.{add_comm, add-mul-div_right, add-mul-mod_self_right, div-one, mod-eq_of_lt, mul_assoc}
use Rattle.std.proofs.lemmas.Nat.{div-mul-add, pow-add}
use Rattle.std.proofs.lemmas.List.{drop_more}
use Rattle.byteorder.specs.Endian.{big_from}
use Rattle.byteorder.specs.Numbers.{big_from-lt}

abbrev pub IsBytes : List ℕ → Type 0
IsBytes bytes = (i : ℕ) → get_or bytes i 0 < 256

one_power : (n : ℕ) → 256 ^ suc n ≡ 256 ^ n * 256
one_power n = let next : suc n ≡ n + 1 = omega arith in ap (λ k. 256 ^ k) next ∙ pow-add 256 n 1

pub some_power : (n : ℕ) → 0 < 256 ^ n
some_power zero = omega arith
some_power (suc n) = let one = one_power n in let some = some_power n in omega arith

byte_is : (k x : ℕ) → byte_at k x ≡ x / 256 ^ k % 256
byte_is zero x = sym (ap (λ y. y % 256) (div-one x))
byte_is (suc k) x = refl

-- a byte of a number stays where a multiple of a higher power comes to it
byte_low : (k n a r : ℕ) → k < n → byte_at k (a * 256 ^ n + r) ≡ byte_at k r
byte_low k n a r less =
    let j = n - suc k in
    let parts : n ≡ suc j + k = omega arith in
    let power : 256 ^ n ≡ (256 ^ j * 256) * 256 ^ k = ap (λ m. 256 ^ m) parts ∙ pow-add 256 (suc j) k ∙ ap (λ p. p * 256 ^ k) (one_power j) in
    let whole : a * 256 ^ n + r ≡ r + ((a * 256 ^ j) * 256) * 256 ^ k =
    add_comm (a * 256 ^ n) r
    ∙ ap (λ p. r + a * p) power
    ∙ ap (λ p. r + p) (sym (mul_assoc a (256 ^ j * 256) (256 ^ k)))
    ∙ ap (λ p. r + p * 256 ^ k) (sym (mul_assoc a (256 ^ j) 256)) in
    byte_is k (a * 256 ^ n + r)
    ∙ ap (λ x. x / 256 ^ k % 256) whole
    ∙ ap (λ x. x % 256) (add-mul-div_right r ((a * 256 ^ j) * 256) (some_power k))
    ∙ add-mul-mod_self_right (r / 256 ^ k) (a * 256 ^ j) 256
    ∙ sym (byte_is k r)

bytes_low : (k n a r : ℕ) → k ≤ n → bytes_high_first k (a * 256 ^ n + r) ≡ bytes_high_first k r
bytes_low zero n a r less = refl
bytes_low (suc k) n a r less = ap₂ (λ b bs. b ∷ bs) (byte_low k n a r (omega arith)) (bytes_low k n a r (omega arith))

pub written_back : (n i : ℕ) (bytes : List ℕ) → IsBytes bytes → i + n ≤ length bytes → bytes_high_first n (big_from i n bytes) ≡ take n (drop i bytes)
written_back zero i bytes fits long = refl
written_back (suc n) i bytes fits long =
    let x = get_or bytes i 0 in
    let r = big_from (suc i) n bytes in
    let below : r < 256 ^ n = big_from-lt (suc i) n bytes fits in
    let next : suc i ≡ i + 1 = omega arith in
    let first : byte_at n (x * 256 ^ n + r) ≡ x =
    byte_is n (x * 256 ^ n + r) ∙ ap (λ y. y % 256) (div-mul-add x (256 ^ n) r below) ∙ mod-eq_of_lt (fits i) in
    let others : bytes_high_first n (x * 256 ^ n + r) ≡ take n (drop (i + 1) bytes) =
    bytes_low n n x r (omega arith) ∙ written_back n (suc i) bytes fits (omega arith) ∙ ap (λ k. take n (drop k bytes)) next in
    ap₂ (λ b bs. b ∷ bs) first others ∙ sym (ap (λ bs. take (suc n) bs) (drop_more bytes i 0 (omega arith)))
