use Rattle.std.proofs.Common.{◌≡◌, ◌∙◌, ◌+◌, ◌^◌, ◌<◌, ◌≤◌, ℕ, Option, None, Some, Ok, Err, List, [], length, get_or, drop, sym, ap, arith}
use Rattle.std.specs.Prelude.{is_none, IfSome, if◌then◌else◌}
use Rattle.std.proofs.Math.Nat.{pow-le-pow_right}
use Rattle.std.proofs.lemmas.List.{at_drop_more}
use Rattle.draid_spec.specs.declared.spec.SpecFault.TheVariants.{Number}
use Rattle.draid_spec.specs.declared.text.Digits.{Digits}
use Rattle.draid_spec.specs.declared.text.Reading.{Reading}
use Rattle.draid_spec.specs.Text.{IsReading, arguments, going_on, letters_of, open_of, opened, read_byte}

-- a number of at most eight digits, and one more
pub next_digit_fits : (value count : ℕ) → count < 9 → value < 10 ^ count → value < 100000000
next_digit_fits value count few below =
    let ten : 0 < 10 = omega arith in
    let digits : count ≤ 8 = omega arith in
    let most : 10 ^ count ≤ 10 ^ 8 = pow-le-pow_right ten digits in
    omega arith

pub nine_digits_fit : (value count : ℕ) → count ≤ 9 → value < 10 ^ count → value ≤ 999999999
nine_digits_fit value count few below =
    let ten : 0 < 10 = omega arith in
    let most : 10 ^ count ≤ 10 ^ 9 = pow-le-pow_right ten few in
    omega arith

-- ---- how far a text is read
few_letters : (parity : ℕ) (a b c : Option ℕ) → letters_of (record { parity = parity; ndata = a; children = b; spares = c }) ≤ 3
few_letters parity None None None = omega arith
few_letters parity None None (Some c) = omega arith
few_letters parity None (Some b) None = omega arith
few_letters parity None (Some b) (Some c) = omega arith
few_letters parity (Some a) None None = omega arith
few_letters parity (Some a) None (Some c) = omega arith
few_letters parity (Some a) (Some b) None = omega arith
few_letters parity (Some a) (Some b) (Some c) = omega arith

few_open : (digits : Option Digits) → IfSome digits (λ d. d.count ≤ 9) → open_of digits ≤ 10
few_open None few = omega arith
few_open (Some digits) few = omega arith

pub place_fits : (reading : Reading) (at : ℕ) → IsReading reading at → at ≤ 49
place_fits reading at is =
    let letters = few_letters reading.said.parity reading.said.ndata reading.said.children reading.said.spares in
    let begun = few_open reading.digits is.count in
    let place = is.place in
    omega (arith, letters, begun, place)

pub opened_is : (parity at : ℕ) → 1 ≤ parity → parity ≤ 3 → at ≤ 6 → IsReading (opened parity) at
opened_is parity at some most low = record {
  said = record { some_parity = some; most_parity = most; ndata = tt; children = tt; spares = tt };
  count = tt;
  value = tt;
  place = omega arith;
}

-- the arguments, by what is said of the next byte
pub next_read : (reading next : Reading) (at i : ℕ) (text : List ℕ) → i < length text → Ok next ≡ read_byte reading.said reading.digits at (get_or text i 0)
    → arguments next (at + 1) (drop (i + 1) text) ≡ arguments reading at (drop i text)
next_read reading next at i text below is =
    ap (λ r. going_on r (λ read. arguments read (at + 1) (drop (i + 1) text))) is ∙ sym (at_drop_more (arguments reading at) text i 0 below)

pub ends_whole : (reading : Reading) (at : ℕ) → reading.digits ≡ None → arguments reading at [] ≡ Ok reading.said
ends_whole reading at is = ap (λ digits. if is_none digits then Ok reading.said else Err (Number at)) is

pub ends_within : (reading : Reading) (at : ℕ) (digits : Digits) → reading.digits ≡ Some digits → arguments reading at [] ≡ Err (Number at)
ends_within reading at digits is = ap (λ digits. if is_none digits then Ok reading.said else Err (Number at)) is
