use Rattle.std.proofs.Common.{◌≡◌, ◌+◌, ◌-◌, ◌*◌, ◌<◌, ◌≤◌, ℕ, true, List, [], ◌∷◌, ◌++◌, length, codes, Option, None, Some, IfSome, Result, Ok, Err, refl, sym, ap, ◌∙◌, arith}
use Rattle.std.proofs.lemmas.Bool.Decides.{nat_tests}
use Rattle.std.specs.List.{AllByRecursion}
use Rattle.std.specs.Char.{IsAsciiDigit, digit_value}
use Rattle.std.specs.Str.Parse.{digits_value_after, digits_value}
use Rattle.draid_spec.specs.declared.spec.SpecFault.{SpecFault}
use Rattle.draid_spec.specs.declared.text.Said.{Said}
use Rattle.draid_spec.specs.declared.text.Reading.{Reading}
use Rattle.draid_spec.specs.Said.{adding, is_letter, nothing_said}
use Rattle.draid_spec.specs.Text.{opened, read_byte, ended, going_on, arguments, after_name, said_by}
use Rattle.draid_spec.specs.Grammar.{Argument, IsArgument, Parts, IsParts, written, parity_digit, parity_of, text_of, said_then, said_with, said_of}

-- between two arguments, and inside one
abbrev pub between : Said → Reading
between said = record { said = said; digits = None }

abbrev pub inside : Said → ℕ → ℕ → Reading
inside said count value = record { said = said; digits = Some (record { count = count; value = value }) }

-- a digit, and a letter
pub digit_read : (said : Said) (count value at c : ℕ) → IsAsciiDigit c → count < 9
    → read_byte said (Some (record { count = count; value = value })) at c ≡ Ok (inside said (count + 1) (value * 10 + (c - 48)))
digit_read said count value at c digit few = grind (arith, nat_tests)

pub letter_read : (said : Said) (count value at c : ℕ) → is_letter c ≡ true → 0 < count
    → read_byte said (Some (record { count = count; value = value })) at c ≡ ended (adding said c value)
letter_read said count value at c letter some = grind (arith, nat_tests)

pub digit_value-digit : (c : ℕ) → IsAsciiDigit c → digit_value c ≡ c - 48
digit_value-digit c digit = grind (arith, nat_tests)

-- the digits of an argument, whatever follows
pub read_digits : (said : Said) (ds rest : List ℕ) (count value at n end : ℕ) → AllByRecursion IsAsciiDigit ds → n ≤ 9
    → n ≡ count + length ds → end ≡ at + length ds
    → arguments (inside said count value) at (ds ++ rest) ≡ arguments (inside said n (digits_value_after 10 value ds)) end rest
read_digits said [] rest count value at n end digits few is ends =
    let same : count ≡ n = omega arith in
    let place : at ≡ end = omega arith in
    ap (λ k. arguments (inside said k value) at rest) same ∙ ap (λ k. arguments (inside said n value) k rest) place
read_digits said (c ∷ ds) rest count value at n end digits few is ends =
    let step : read_byte said (Some (record { count = count; value = value })) at c ≡ Ok (inside said (count + 1) (value * 10 + (c - 48)))
    = digit_read said count value at c digits.0 (omega arith) in
    let on : Result Reading SpecFault → Result Said SpecFault = λ r. going_on r (λ next. arguments next (at + 1) (ds ++ rest)) in
    let more = read_digits said ds rest (count + 1) (value * 10 + (c - 48)) (at + 1) n end digits.1 few (omega arith) (omega arith) in
    ap on step ∙ (more ∙ ap (λ v. arguments (inside said n (digits_value_after 10 (value * 10 + v) ds)) end rest) (sym (digit_value-digit c digits.0)))

-- where an argument ends
ended_then : (r : Result Said SpecFault) (f : Reading → Result Said SpecFault) (g : Said → Result Said SpecFault)
    → ((said : Said) → f (between said) ≡ g said) → going_on (ended r) f ≡ said_then r g
ended_then (Ok said) f g same = same said
ended_then (Err fault) f g same = refl

-- one argument, whatever follows
pub read_argument : (said : Said) (a : Argument) (rest : List ℕ) (at : ℕ) (g : Said → Result Said SpecFault) → IsArgument a
    → ((next : Said) (end : ℕ) → arguments (between next) end rest ≡ g next)
    → arguments (between said) at (58 ∷ (a.digits ++ (a.letter ∷ rest))) ≡ said_then (adding said a.letter (digits_value 10 a.digits)) g
read_argument said a rest at g is same =
    let digits = read_digits said a.digits (a.letter ∷ rest) 0 0 (at + 1) (length a.digits) (at + 1 + length a.digits) is.digits is.most (omega arith) refl in
    let letter : read_byte said (Some (record { count = length a.digits; value = digits_value 10 a.digits })) (at + 1 + length a.digits) a.letter ≡ ended (adding said a.letter (digits_value 10 a.digits))
    = letter_read said (length a.digits) (digits_value 10 a.digits) (at + 1 + length a.digits) a.letter is.letter (omega (arith, is.some)) in
    digits ∙ (ap (λ r. going_on r (λ next. arguments next (at + 1 + length a.digits + 1) rest)) letter
    ∙ ended_then (adding said a.letter (digits_value 10 a.digits)) (λ next. arguments next (at + 1 + length a.digits + 1) rest) g (λ next. same next (at + 1 + length a.digits + 1)))

-- all arguments
pub read_written : (args : List Argument) (said : Said) (at : ℕ) → AllByRecursion IsArgument args
    → arguments (between said) at (written args) ≡ said_with said args
read_written [] said at all = refl
read_written (a ∷ args) said at all =
    read_argument said a (written args) at (λ next. said_with next args) all.0 (λ next end. read_written args next end all.1)

after_written : (args : List Argument) → AllByRecursion IsArgument args → after_name (written args) ≡ said_with (nothing_said 1) args
after_written [] all = refl
after_written (a ∷ args) all = read_written (a ∷ args) (nothing_said 1) 5 all

after_digit : (p : ℕ) (rest : List ℕ) → 1 ≤ p → p ≤ 3 → after_name ((48 + p) ∷ rest) ≡ arguments (opened p) 6 rest
after_digit p rest least most =
    let same : 48 + p - 48 ≡ p = omega arith in
    let test : (48 ≤ 48 + p) × (48 + p ≤ 51) = (omega arith, omega arith) in
    grind (arith, nat_tests)

-- a text of the grammar is read as what it says
pub text_read : (parts : Parts) → IsParts parts → said_by (text_of parts) ≡ said_of parts
text_read parts is = by_parity parts.parity parts.arguments is.parity is.arguments
  where
    by_parity : (parity : Option ℕ) (args : List Argument) → IfSome parity (λ p. (1 ≤ p) × (p ≤ 3)) → AllByRecursion IsArgument args
        → said_by (codes "draid" ++ (parity_digit parity ++ written args)) ≡ said_with (nothing_said (parity_of parity)) args
    by_parity None args range all = after_written args all
    by_parity (Some p) args range all = after_digit p (written args) range.0 range.1 ∙ read_written args (nothing_said p) 6 all
