-- Words that are joined by single spaces are the words of the line.
use Rattle.std.proofs.Common.{◌≡◌, ℕ, ◌^◌, ◌<◌, ◌≤◌, ◌==◌, ◌&&◌, nat_le, All, true, false, not, List, [], ◌∷◌, length, get_or, Some, refl, sym, ap, ◌∙◌, subst, inl, inr, arith, Result, Ok}
use Rattle.std.proofs.lemmas.List.{get_or_default}
use Rattle.std.specs.Fmt.{decimal}
use Rattle.std.specs.List.{AllByRecursion, join_with_byte, list_all, slice_split}
use Rattle.std.specs.Str.Parse.{digits_value}
use Rattle.hex.specs.Hex.{IsBytes, decode_of, encode_lower, is_hex_digit, lower_digits}
use Rattle.hex.specs.declared.error.FromHexError.{FromHexError}
use Rattle.std.specs.Result.{result_ok}
use Rattle.hex.proofs.HexLemmas.{decode_of-encode_lower, decode_of-ok, length-encode_with}
use Rattle.std.proofs.lemmas.Bool.{and_from, cases_eq, cases_lt, le-leb, ne_eqb, not-true, or_right}
use Rattle.std.proofs.lemmas.Fmt.{decimal_digit, decimal_is_IsNumeral, first_decimal}
use Rattle.std.proofs.lemmas.List.Elements.{All-weaker}
use Rattle.std.proofs.lemmas.List.Splits.{slice_split_at, slice_split_none}
use Rattle.std.proofs.lemmas.List.Sums.{AllPass-from_list_all}
use Rattle.std.proofs.lemmas.Str.Parse.{digit_at}
use Rattle.draid_script.specs.Word.{begins_number, bytes_of, is_space, number_of}
use Rattle.draid_script.proofs.Numbers.{digits_model, number_is}

-- a word has no space
abbrev pub IsWord : List ℕ → Type 0
IsWord text = All (λ byte. is_space byte ≡ false) text

-- the words of a line of such words
pub split_joined : (text : List ℕ) (texts : List (List ℕ)) → IsWord text → AllByRecursion IsWord texts → slice_split is_space (join_with_byte 32 (text ∷ texts)) ≡ text ∷ texts
split_joined text [] word words = slice_split_none is_space text word
split_joined text (next ∷ texts) word words =
    slice_split_at is_space text 32 (join_with_byte 32 (next ∷ texts)) word refl
    ∙ ap (λ (rest : List (List ℕ)). text ∷ rest) (split_joined next texts words.0 words.1)

-- a text that is written out is a word where a test says so
pub literal_word : (text : List ℕ) → list_all (λ byte. not (is_space byte)) text ≡ true → IsWord text
literal_word text passes =
    All-weaker (λ byte. not (is_space byte) ≡ true) (λ byte. is_space byte ≡ false) (λ byte h. not-true (is_space byte) h) text
    (AllPass-from_list_all (λ byte. not (is_space byte)) text passes)

-- digits are no spaces
pub decimal_word : (n : ℕ) → n < 2 ^ 64 → IsWord (decimal n)
decimal_word n small k d h =
    let numeral = (decimal_is_IsNumeral n small).0 in
    let digit = digit_at (decimal n) k numeral.1 h in
    let same : get_or (decimal n) k d ≡ get_or (decimal n) k 0 = get_or_default (decimal n) k d 0 h in
    ne_eqb (get_or (decimal n) k d) 32 (omega (arith, digit.0))

-- hex digits are no spaces
hex_no_space : (byte : ℕ) → is_hex_digit byte ≡ true → is_space byte ≡ false
hex_no_space byte digit =
    elim (cases_eq byte 32) [
      | inl same ↦ let P : ℕ → Type 0 = λ b. is_hex_digit b ≡ true in let space : is_hex_digit 32 ≡ true = subst P same digit in cc
      | inr other ↦ ne_eqb byte 32 other
    ]

pub hex_word : (bytes : List ℕ) → IsBytes bytes → IsWord (encode_lower bytes)
hex_word bytes are =
    All-weaker (λ byte. is_hex_digit byte ≡ true) (λ byte. is_space byte ≡ false) hex_no_space (encode_lower bytes)
    (decode_of-ok (encode_lower bytes) bytes (decode_of-encode_lower bytes are)).1

-- a digit 1 to 9 at the front begins a number
begins_from : (digits : List ℕ) → 0 < length digits → 49 ≤ get_or digits 0 0 → get_or digits 0 0 ≤ 57 → begins_number digits ≡ true
begins_from [] some low high = let none : ⊥ = omega arith in absurd none
begins_from (digit ∷ digits) some low high =
    or_right (digit == 48 && length digits == 0) (nat_le 49 digit && nat_le digit 57) (and_from (nat_le 49 digit) (nat_le digit 57) (le-leb 49 digit low) (le-leb digit 57 high))

begins_decimal : (n : ℕ) → n < 2 ^ 64 → begins_number (decimal n) ≡ true
begins_decimal n small =
    elim (cases_lt 0 n) [
      | inl some ↦
          let numeral = (decimal_is_IsNumeral n small).0 in
          begins_from (decimal n) numeral.0 (omega (arith, first_decimal n some small)) (digit_at (decimal n) 0 numeral.1 numeral.0).1
      | inr none ↦
          let zero_is : n ≡ 0 = omega arith in
          let P : ℕ → Type 0 = λ m. begins_number (decimal m) ≡ true in
          let Q : List ℕ → Type 0 = λ ds. begins_number ds ≡ true in
          subst P (sym zero_is) (subst Q (sym (decimal_digit 0 (omega arith))) refl)
    ]

-- a number in decimal digits is read again
pub number_again : (n : ℕ) → n < 2 ^ 64 → number_of (decimal n) ≡ Some n
number_again n small =
    let numeral = decimal_is_IsNumeral n small in
    let value : digits_value 10 (decimal n) ≡ n = numeral.1 in
    number_is (decimal n) (begins_decimal n small) (digits_model.from (decimal n) numeral.0.1) (omega arith)
    ∙ ap (λ (m : ℕ). Some m) value

-- bytes in hex digits are read again
bytes_from : (text bytes : List ℕ) → decode_of text ≡ Ok bytes → 0 < length text → bytes_of text ≡ Some bytes
unfolding bytes_of
bytes_from [] bytes decoded some = let none : ⊥ = omega arith in absurd none
bytes_from (digit ∷ digits) bytes decoded some = ap (λ (r : Result (List ℕ) FromHexError). result_ok r) decoded

pub bytes_again : (bytes : List ℕ) → IsBytes bytes → 0 < length bytes → bytes_of (encode_lower bytes) ≡ Some bytes
bytes_again bytes are some =
    bytes_from (encode_lower bytes) bytes (decode_of-encode_lower bytes are) (omega (arith, length-encode_with lower_digits bytes))
