use Rattle.std.specs.Prelude.{◌≡◌, ◌≢◌, ◌+◌, ◌≤◌, ℕ, List, [], ◌∷◌, ◌++◌, true, codes, length, Option, None, Some, IfSome, Result, Ok, Err}
use Rattle.std.specs.List.{AllByRecursion}
use Rattle.std.specs.Char.{IsAsciiDigit}
use Rattle.std.specs.Str.Parse.{digits_value}
use Rattle.draid_spec.specs.declared.spec.SpecFault.{SpecFault}
use Rattle.draid_spec.specs.declared.spec.SpecFault.TheVariants.{Repeated}
use Rattle.draid_spec.specs.declared.text.Said.{Said}
use Rattle.draid_spec.specs.Said.{adding, is_letter, nothing_said}

-- an argument of a spec's text
pub record Argument : Type 0 where
  pub digits : List ℕ
  pub letter : ℕ

-- one to nine decimal digits, and one of d, c and s
pub record IsArgument (argument : Argument) : Type 0 where
  pub digits : AllByRecursion IsAsciiDigit argument.digits
  pub some : 1 ≤ length argument.digits
  pub most : length argument.digits ≤ 9
  pub letter : is_letter argument.letter ≡ true

-- arguments as they stand in a text, each behind a colon
abbrev pub written : List Argument → List ℕ
written [] = []
written (argument ∷ rest) = 58 ∷ (argument.digits ++ (argument.letter ∷ written rest))

-- the parity, by its digit if there is one
abbrev pub parity_digit : Option ℕ → List ℕ
parity_digit None = []
parity_digit (Some parity) = (48 + parity) ∷ []

abbrev pub parity_of : Option ℕ → ℕ
parity_of None = 1
parity_of (Some parity) = parity

-- what stands in a spec's text
pub record Parts : Type 0 where
  pub parity : Option ℕ
  pub arguments : List Argument

-- a parity from 1 to 3, and arguments
pub record IsParts (parts : Parts) : Type 0 where
  pub parity : IfSome parts.parity (λ p. (1 ≤ p) × (p ≤ 3))
  pub arguments : AllByRecursion IsArgument parts.arguments

-- the text of such parts
abbrev pub text_of : Parts → List ℕ
text_of parts = codes "draid" ++ (parity_digit parts.parity ++ written parts.arguments)

-- goes on where a letter stands for the first time
abbrev pub said_then : Result Said SpecFault → (Said → Result Said SpecFault) → Result Said SpecFault
said_then (Ok said) rest = rest said
said_then (Err fault) rest = Err fault

-- what arguments say, one after another
abbrev pub said_with : Said → List Argument → Result Said SpecFault
said_with said [] = Ok said
said_with said (argument ∷ rest) =
    said_then (adding said argument.letter (digits_value 10 argument.digits)) (λ next. said_with next rest)

-- what the parts of a text say
abbrev pub said_of : Parts → Result Said SpecFault
said_of parts = said_with (nothing_said (parity_of parts.parity)) parts.arguments

-- some text of the grammar begins so
pub record IsFront (bytes : List ℕ) : Type 0 where
  pub parts : Parts
  pub is_parts : IsParts parts
  pub more : List ℕ
  pub goes_on : bytes ++ more ≡ text_of parts

-- a text leaves the grammar at a byte: what stands before it can be gone on with, but not by what stands there
pub record Leaves (text : List ℕ) (at : ℕ) : Type 0 where
  pub front : List ℕ
  pub back : List ℕ
  pub cut : text ≡ front ++ back
  pub place : at ≡ length front
  pub before : IsFront front
  pub not_whole : (parts : Parts) → IsParts parts → text ≢ text_of parts
  pub not_so : (c : ℕ) (rest : List ℕ) → back ≡ c ∷ rest → ¬ IsFront (front ++ (c ∷ []))

-- a text is that of some parts, which say this
pub record Accepts (text : List ℕ) (said : Said) : Type 0 where
  pub parts : Parts
  pub is_parts : IsParts parts
  pub is : text ≡ text_of parts
  pub says : said_of parts ≡ Ok said

-- the front of a text is that of some parts, in which a letter stands again
pub record Repeats (text : List ℕ) (letter : ℕ) : Type 0 where
  pub parts : Parts
  pub is_parts : IsParts parts
  pub rest : List ℕ
  pub is : text ≡ text_of parts ++ rest
  pub says : said_of parts ≡ Err (Repeated letter)
