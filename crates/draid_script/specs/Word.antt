use Rattle.std.specs.Prelude.{ℕ, ◌+◌, ◌^◌, ◌==◌, ◌&&◌, ◌||◌, Bool, false, nat_le, nat_lt, List, [], ◌∷◌, length, Option, None, Some, if◌then◌else◌}
use Rattle.std.specs.List.{slice_split}
use Rattle.std.specs.Str.{all_ascii_digits}
use Rattle.std.specs.Str.Parse.{digits_value}
use Rattle.std.specs.Result.{result_ok}
use Rattle.hex.specs.Hex.{decode_of}
use Rattle.draid_script.specs.declared.word.Word.{Word}

-- a word, and the place of its first byte in its line
pub record Placed : Type 0 where
  pub text : List ℕ
  pub at : ℕ

-- what a word of the code is
abbrev pub placed : Word → Placed
placed word = record { text = word.text.now; at = word.at }

-- words that stand side by side, with one space between them, from a place on
abbrev pub placed_from : ℕ → List (List ℕ) → List Placed
placed_from at [] = []
placed_from at (text ∷ texts) = record { text = text; at = at } ∷ placed_from (at + length text + 1) texts

-- the byte that separates words
abbrev pub is_space : ℕ → Bool
is_space byte = byte == 32

-- The words of a line stand between its spaces, so two spaces side by side have an empty word between them.
unfoldable pub words_of : List ℕ → List Placed
words_of line = placed_from 0 (slice_split is_space line)

-- `0` alone, or a digit 1 to 9 at the front
abbrev pub begins_number : List ℕ → Bool
begins_number [] = false
begins_number (digit ∷ digits) = (digit == 48 && length digits == 0) || (nat_le 49 digit && nat_le digit 57)

-- the number below 2^64 that the text is in decimal digits
unfoldable pub number_of : List ℕ → Option ℕ
number_of text =
    if begins_number text && all_ascii_digits text && nat_lt (digits_value 10 text) (2 ^ 64)
    then Some (digits_value 10 text) else None

-- the bytes that the text is in pairs of hex digits of either case, at least one pair
unfoldable pub bytes_of : List ℕ → Option (List ℕ)
bytes_of [] = None
bytes_of (digit ∷ digits) = result_ok (decode_of (digit ∷ digits))
