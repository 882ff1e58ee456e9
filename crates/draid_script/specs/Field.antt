use Rattle.std.specs.Prelude.{ℕ, ◌+◌, ◌-◌, ◌^◌, ◌==◌, ◌&&◌, not, nat_le, nat_lt, List, ◌∷◌, length, drop, codes, Result, Ok, Err, if◌then◌else◌}
use Rattle.std.specs.List.{position_or_len, starts_with}
use Rattle.std.specs.Prelude.{nat_eq}
use Rattle.std.specs.Option.{ok_or}
use Rattle.hex.specs.Hex.{is_hex_digit}
use Rattle.draid_script.specs.declared.fault.LineFault.{LineFault}
use Rattle.draid_script.specs.declared.fault.LineFaultKind.TheVariants as why
use Rattle.draid_script.specs.declared.line.ArmArgument.{ArmArgument}
use Rattle.draid_script.specs.declared.line.ArmArgument.TheVariants.{Leaf, Spare}
use Rattle.draid_script.specs.declared.line.StatusFormat.{StatusFormat}
use Rattle.draid_script.specs.declared.line.StatusFormat.TheVariants.{Json}
use Rattle.draid_script.specs.Fault.{fault, ◌>>=◌}
use Rattle.draid_script.specs.Word.{Placed, number_of, bytes_of}
use Rattle.draid_script.specs.Line.{most_objects}
use Rattle.std.specs.Str.{bytes_eq}
use Rattle.draid_names.specs.declared.numbers.TheConstants.{LONGEST_BLOCK, NUMBERS, OBJECTS}

-- the number that a word is
abbrev pub number_at : Placed → Result ℕ LineFault
number_at word = ok_or (number_of word.text) (fault why.Number word.at)

-- a number of a word at this place, which isn't below low and is below the limit
abbrev pub within : ℕ → ℕ → ℕ → ℕ → Result ℕ LineFault
within low limit at n = if nat_le low n && nat_lt n limit then Ok n else Err (fault why.Range at)

abbrev pub number_in : ℕ → ℕ → Placed → Result ℕ LineFault
number_in low limit word = number_at word >>= within low limit word.at

abbrev pub short_at : Placed → Result ℕ LineFault
short_at word = number_in 0 (2 ^ 32) word

-- an object
abbrev pub object_at : Placed → Result ℕ LineFault
object_at word = number_in 0 OBJECTS word

-- how many objects from the first on
abbrev pub count_at : ℕ → Placed → Result ℕ LineFault
count_at first word = do
  count ← number_in 1 (most_objects + 1) word
  if nat_le (first + count) OBJECTS then Ok count else Err (fault why.Range word.at)

-- The first byte that is no hex digit, else the end of the line.
abbrev pub hex_place : ℕ → Placed → ℕ
hex_place end word =
    if nat_lt (position_or_len (λ byte. not (is_hex_digit byte)) word.text) (length word.text)
    then word.at + position_or_len (λ byte. not (is_hex_digit byte)) word.text else end

-- the bytes of a block, which the word is in pairs of hex digits
abbrev pub block_at : ℕ → Placed → Result (List ℕ) LineFault
block_at end word = do
  bytes ← ok_or (bytes_of word.text) (fault why.Hex (hex_place end word))
  if nat_le (length bytes) LONGEST_BLOCK then Ok bytes else Err (fault why.Range word.at)

-- what stands behind `draid` in the name of a spare: its parity, `-0-` and its number
abbrev pub spare_behind : ℕ → List ℕ → Result ArmArgument LineFault
spare_behind at (parity ∷ dash ∷ vdev ∷ dash' ∷ number) =
    if nat_le 49 parity && nat_le parity 51 && dash == 45 && vdev == 48 && dash' == 45
    then (short_at (record { text = number; at = at }) >>= λ spare. Ok (Spare (parity - 48) spare))
    else Err (fault why.Number at)
spare_behind at _ = Err (fault why.Number at)

-- a leaf's number, or a spare's name
abbrev pub arm_at : Placed → Result ArmArgument LineFault
arm_at word =
    if starts_with nat_eq word.text (codes "draid")
    then spare_behind word.at (drop 5 word.text)
    else (number_in 0 NUMBERS word >>= λ leaf. Ok (Leaf leaf))

-- the word `json`
abbrev pub format_at : Placed → Result StatusFormat LineFault
format_at word = if bytes_eq word.text (codes "json") then Ok Json else Err (fault why.Number word.at)
