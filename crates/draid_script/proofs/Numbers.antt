-- What the parse of a word says of the number that it is.
use Rattle.std.proofs.Common.{◌≡◌, ◌≢◌, ℕ, ◌^◌, ◌<◌, ◌==◌, ◌&&◌, true, false, List, [], ◌∷◌, length, get_or, Some, None, Result, Ok, Err, sym, ap, ◌∙◌, inl, inr, arith, nat_le}
use Rattle.std.specs.Str.{IsUtf8, all_ascii_digits}
use Rattle.std.specs.Str.Parse.{ParsesUnsigned, digits_value}
use Rattle.std.specs.Result.{OkIff, result_ok}
use Rattle.std.proofs.lemmas.Bool.{and_from, and_parts, cond-true, cond-false, eqb-true, false_from_ne_true, leb-true, lt-ltb, ltb-true, or_cases}
use Rattle.std.proofs.lemmas.Str.{IsUtf8-from_ascii}
use Rattle.std.proofs.lemmas.Str.Parse.{IsNumeralModel, numerals_by_value, parse_plain, tells_all_ascii_digits}
use Rattle.std.specs.Fmt.{decimal}
use Rattle.std.proofs.lemmas.Fmt.{IsAscii-from_digits, decimal-digits_value}
use Rattle.std.proofs.lemmas.Option.{cond_some}
use Rattle.draid_script.specs.Word.{begins_number, number_of}

-- texts of digits, and their value
pub digits_model : IsNumeralModel (λ ds. all_ascii_digits ds ≡ true) (digits_value 10)
digits_model = numerals_by_value (λ ds. all_ascii_digits ds ≡ true) tells_all_ascii_digits

-- a front that begins a number is no sign, and is there
begins_plain : (word : List ℕ) → begins_number word ≡ true → (get_or word 0 0 ≢ 43) × (0 < length word)
begins_plain [] begins = cc
begins_plain (digit ∷ digits) begins =
    elim (or_cases (digit == 48 && length digits == 0) (nat_le 49 digit && nat_le digit 57) begins) [
      | inl zero ↦ (λ same. omega (arith, eqb-true digit 48 (and_parts (digit == 48) (length digits == 0) zero).0), omega arith)
      | inr more ↦ (λ same. omega (arith, leb-true 49 digit (and_parts (nat_le 49 digit) (nat_le digit 57) more).0), omega arith)
    ]

-- the number is found where the three tests pass
pub number_is : (word : List ℕ) → begins_number word ≡ true → all_ascii_digits word ≡ true → digits_value 10 word < 2 ^ 64 → number_of word ≡ Some (digits_value 10 word)
unfolding number_of
number_is word begins digits small =
    cond-true _ (Some (digits_value 10 word)) None
    (and_from _ _ (and_from _ _ begins digits) (lt-ltb (digits_value 10 word) (2 ^ 64) small))

number_isnt : (word : List ℕ) → (begins_number word ≡ true → all_ascii_digits word ≡ true → digits_value 10 word < 2 ^ 64 → ⊥) → number_of word ≡ None
unfolding number_of
number_isnt word fails =
    cond-false _ (Some (digits_value 10 word)) None (false_from_ne_true _ (λ all.
    let parts = and_parts _ _ all in
    let front = and_parts _ _ parts.0 in
    fails front.0 front.1 (ltb-true (digits_value 10 word) (2 ^ 64) parts.1)))

read_plain : {E : Type 0} (word : List ℕ) (r : Result ℕ E) → begins_number word ≡ true → OkIff r ((all_ascii_digits word ≡ true) × (0 < length word) × (digits_value 10 word < 2 ^ 64)) (digits_value 10 word) → result_ok r ≡ number_of word
read_plain word (Ok n) begins read = ap (λ (n : ℕ). Some n) read.1 ∙ sym (number_is word begins read.0.0 read.0.2)
read_plain word (Err e) begins refused = sym (number_isnt word (λ _ digits small. refused (digits, (begins_plain word begins).1, small)))

-- what the parse answers is the number
pub number_read : {E : Type 0} (word : List ℕ) (r : Result ℕ E) → ParsesUnsigned 64 10 word r → begins_number word ≡ true → result_ok r ≡ number_of word
number_read word r parses begins =
    let plain = begins_plain word begins in
    read_plain word r begins (parse_plain digits_model 64 word r parses plain.0)

-- digits are text
pub not_text : (word : List ℕ) → (IsUtf8 word → ⊥) → number_of word ≡ None
not_text word fails = number_isnt word (λ _ digits _. fails (IsUtf8-from_ascii word (IsAscii-from_digits word (digits_model.to word digits))))

pub not_begun : (word : List ℕ) → begins_number word ≡ false → number_of word ≡ None
not_begun word begins = number_isnt word (λ b _ _. cc)

-- a zero at the front stands alone
begins_zero : (word : List ℕ) → begins_number word ≡ true → get_or word 0 0 ≡ 48 → length word ≡ 1
begins_zero [] begins same = cc
begins_zero (digit ∷ digits) begins same =
    elim (or_cases (digit == 48 && length digits == 0) (nat_le 49 digit && nat_le digit 57) begins) [
      | inl zero ↦ omega (arith, eqb-true (length digits) 0 (and_parts (digit == 48) (length digits == 0) zero).1)
      | inr more ↦ omega (arith, leb-true 49 digit (and_parts (nat_le 49 digit) (nat_le digit 57) more).0)
    ]

-- the word is what is written for its number
pub decimal_of_number : (word : List ℕ) (n : ℕ) → number_of word ≡ Some n → (n < 2 ^ 64) × (word ≡ decimal n)
unfolding number_of
decimal_of_number word n read =
    let found = cond_some _ (digits_value 10 word) n read in
    let tests = and_parts _ _ found.0 in
    let front = and_parts _ _ tests.0 in
    let small : digits_value 10 word < 2 ^ 64 = ltb-true (digits_value 10 word) (2 ^ 64) tests.1 in
    let written : decimal (digits_value 10 word) ≡ word =
    decimal-digits_value digits_model word front.1 (begins_plain word front.0).1 (begins_zero word front.0) small in
    (omega (arith, found.1), sym written ∙ ap decimal found.1)
