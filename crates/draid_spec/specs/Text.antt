use Rattle.std.specs.Prelude.{◌==◌, ◌+◌, ◌-◌, ◌*◌, ◌^◌, ◌<◌, ◌≤◌, ◌&&◌, ℕ, List, [], ◌∷◌, nat_lt, nat_eq, drop, codes, Option, None, Some, IfSome, is_some, is_none, Result, Ok, Err, if◌then◌else◌}
use Rattle.std.specs.Char.{is_ascii_digit}
use Rattle.std.specs.Int.{is_in_range}
use Rattle.std.specs.List.{starts_with}
use Rattle.draid_spec.specs.declared.spec.Spec.{Spec}
use Rattle.draid_spec.specs.declared.spec.SpecFault.{SpecFault}
use Rattle.draid_spec.specs.declared.spec.SpecFault.TheVariants.{NotDraid, Parity, Number}
use Rattle.draid_spec.specs.declared.text.Said.{Said}
use Rattle.draid_spec.specs.declared.text.Digits.{Digits}
use Rattle.draid_spec.specs.declared.text.Reading.{Reading}
use Rattle.draid_spec.specs.Said.{nothing_said, is_letter, adding, IsSaid, spec_checked}

-- before the first argument
abbrev pub opened : ℕ → Reading
opened parity = record { said = nothing_said parity; digits = None }

-- an argument begins by its colon
abbrev pub begun : Said → Reading
begun said = record { said = said; digits = Some (record { count = 0; value = 0 }) }

-- one digit more
abbrev pub with_digit : Digits → ℕ → Digits
with_digit digits c = record { count = digits.count + 1; value = digits.value * 10 + (c - 48) }

-- an argument ends by its letter
abbrev pub ended : Result Said SpecFault → Result Reading SpecFault
ended (Ok said) = Ok (record { said = said; digits = None })
ended (Err fault) = Err fault

-- one byte more, the text's byte `at`: a colon, then one to nine digits, then a letter
abbrev pub read_byte : Said → Option Digits → ℕ → ℕ → Result Reading SpecFault
read_byte said None at c = if c == 58 then Ok (begun said) else Err (Number at)
read_byte said (Some digits) at c =
    if is_ascii_digit c && nat_lt digits.count 9 then Ok (record { said = said; digits = Some (with_digit digits c) })
    else if is_letter c && nat_lt 0 digits.count then ended (adding said c digits.value)
    else Err (Number at)

-- goes on where a byte was read
abbrev pub going_on : Result Reading SpecFault → (Reading → Result Said SpecFault) → Result Said SpecFault
going_on (Ok reading) rest = rest reading
going_on (Err fault) rest = Err fault

-- what the arguments from byte `at` on say beside what was read, up to the first fault
abbrev pub arguments : Reading → ℕ → List ℕ → Result Said SpecFault
arguments reading at [] = if is_none reading.digits then Ok reading.said else Err (Number at)
arguments reading at (c ∷ rest) =
    going_on (read_byte reading.said reading.digits at c) (λ next. arguments next (at + 1) rest)

-- what stands behind `draid`: a digit for the parity, and arguments
abbrev pub after_name : List ℕ → Result Said SpecFault
after_name [] = arguments (opened 1) 5 []
after_name (c ∷ rest) =
    if is_in_range 49 51 c then arguments (opened (c - 48)) 6 rest
    else if is_ascii_digit c then Err Parity
    else arguments (opened 1) 5 (c ∷ rest)

-- what a text says
abbrev pub said_by : List ℕ → Result Said SpecFault
said_by text = if starts_with nat_eq text (codes "draid") then after_name (drop 5 text) else Err NotDraid

-- the spec that is meant by what is said, for so many children and a version
abbrev pub meant : Result Said SpecFault → ℕ → ℕ → Result Spec SpecFault
meant (Ok said) given version = spec_checked said given version
meant (Err fault) given version = Err fault

-- the spec that a text names for so many children and a version
abbrev pub spec_by : List ℕ → ℕ → ℕ → Result Spec SpecFault
spec_by text given version = meant (said_by text) given version

-- how many letters stand
abbrev pub letters_of : Said → ℕ
letters_of said = one said.ndata + one said.children + one said.spares
  where
    one : Option ℕ → ℕ
    one n = if is_some n then 1 else 0

-- the colon and the digits of an argument that has begun
abbrev pub open_of : Option Digits → ℕ
open_of None = 0
open_of (Some digits) = 1 + digits.count

-- a reading of some text at its byte `at`
pub record IsReading (reading : Reading) (at : ℕ) : Type 0 where
  pub said : IsSaid reading.said
  pub count : IfSome reading.digits (λ digits. digits.count ≤ 9)
  pub value : IfSome reading.digits (λ digits. digits.value < 10 ^ digits.count)
  pub place : at ≤ 6 + 11 * letters_of reading.said + open_of reading.digits
