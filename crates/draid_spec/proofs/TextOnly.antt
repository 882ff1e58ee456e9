use Rattle.std.proofs.Common.{◌≡◌, ◌==◌, ◌+◌, ◌-◌, ◌*◌, ◌<◌, ◌≤◌, ◌&&◌, ℕ, Bool, true, false, List, [], ◌∷◌, ◌++◌, length, nat_lt, Option, None, Some, Result, Ok, Err, refl, sym, ap, ◌∙◌, subst, arith, append_assoc, if◌then◌else◌}
use Rattle.std.proofs.lemmas.Bool.Decides.{nat_tests}
use Rattle.std.specs.Prelude.{⊤}
use Rattle.std.specs.List.{AllByRecursion}
use Rattle.std.specs.Char.{IsAsciiDigit, is_ascii_digit}
use Rattle.std.specs.Str.Parse.{digits_value_after}
use Rattle.draid_spec.specs.declared.spec.SpecFault.{SpecFault}
use Rattle.draid_spec.specs.declared.spec.SpecFault.TheVariants.{Number}
use Rattle.draid_spec.specs.declared.text.Said.{Said}
use Rattle.draid_spec.specs.declared.text.Digits.{Digits}
use Rattle.draid_spec.specs.Said.{adding, is_letter}
use Rattle.draid_spec.specs.Text.{ended, going_on, arguments}
use Rattle.draid_spec.specs.Grammar.{Argument, IsArgument, written, said_then, said_with}
use Rattle.draid_spec.proofs.TextRead.{between, inside, digit_value-digit}

-- no byte is out of place
abbrev pub InPlace : Result Said SpecFault → Type 0
InPlace (Ok said) = ⊤
InPlace (Err (Number at)) = ⊥
InPlace (Err fault) = ⊤

-- what is read without a fault is read to its end
abbrev pub Ends : Result Said SpecFault → List ℕ → Type 0
Ends (Ok said) tail = tail ≡ []
Ends (Err fault) tail = ⊤

-- whole arguments stand at the front of a text, and say this
pub record Whole (said : Said) (text : List ℕ) (outcome : Result Said SpecFault) : Type 0 where
  pub arguments : List Argument
  pub tail : List ℕ
  pub all : AllByRecursion IsArgument arguments
  pub is : text ≡ written arguments ++ tail
  pub says : said_with said arguments ≡ outcome
  pub ends : Ends outcome tail

-- the rest of an argument stands there, and further ones
pub record Rest (said : Said) (count value : ℕ) (text : List ℕ) (outcome : Result Said SpecFault) : Type 0 where
  pub digits : List ℕ
  pub letter : ℕ
  pub others : List Argument
  pub tail : List ℕ
  pub decimal : AllByRecursion IsAsciiDigit digits
  pub some : 1 ≤ count + length digits
  pub most : count + length digits ≤ 9
  pub ending : is_letter letter ≡ true
  pub all : AllByRecursion IsArgument others
  pub is : text ≡ digits ++ (letter ∷ (written others ++ tail))
  pub says : said_then (adding said letter (digits_value_after 10 value digits)) (λ next. said_with next others) ≡ outcome
  pub ends : Ends outcome tail

abbrev pub Stands : Said → Option Digits → List ℕ → Result Said SpecFault → Type 0
Stands said None text outcome = Whole said text outcome
Stands said (Some digits) text outcome = Rest said digits.count digits.value text outcome

-- an argument begins
begins : (said : Said) (rest : List ℕ) (outcome : Result Said SpecFault) → Rest said 0 0 rest outcome → Whole said (58 ∷ rest) outcome
begins said rest outcome r =
    record {
      arguments = record { digits = r.digits; letter = r.letter } ∷ r.others;
      tail = r.tail;
      all = (record { digits = r.decimal; some = let h : 1 ≤ 0 + length r.digits = r.some in omega arith; most = let h : 0 + length r.digits ≤ 9 = r.most in omega arith; letter = r.ending }, r.all);
      is = ap (λ xs. 58 ∷ xs) (r.is ∙ sym (append_assoc r.digits (r.letter ∷ written r.others) r.tail));
      says = r.says;
      ends = r.ends;
    }

-- one digit more stands in front
digit_more : (said : Said) (count value c : ℕ) (rest : List ℕ) (outcome : Result Said SpecFault) → IsAsciiDigit c
    → Rest said (count + 1) (value * 10 + (c - 48)) rest outcome → Rest said count value (c ∷ rest) outcome
digit_more said count value c rest outcome digit r =
    let some : 1 ≤ count + 1 + length r.digits = r.some in
    let most : count + 1 + length r.digits ≤ 9 = r.most in
    let P : ℕ → Type 0 = λ v. said_then (adding said r.letter (digits_value_after 10 (value * 10 + v) r.digits)) (λ next. said_with next r.others) ≡ outcome in
    record {
      digits = c ∷ r.digits;
      letter = r.letter;
      others = r.others;
      tail = r.tail;
      decimal = (digit, r.decimal);
      some = omega arith;
      most = omega arith;
      ending = r.ending;
      all = r.all;
      is = ap (λ xs. c ∷ xs) r.is;
      says = subst P (sym (digit_value-digit c digit)) r.says;
      ends = r.ends;
    }

-- the letter stands in front
letter_next : (said : Said) (count value c : ℕ) (rest : List ℕ) (outcome : Result Said SpecFault) → 0 < count → count ≤ 9 → is_letter c ≡ true
    → (added : Result Said SpecFault) → adding said c value ≡ added
    → ((next : Said) → added ≡ Ok next → Whole next rest outcome)
    → ((fault : SpecFault) → added ≡ Err fault → Err fault ≡ outcome)
    → Rest said count value (c ∷ rest) outcome
letter_next said count value c rest outcome some most letter (Ok next) is more stops =
    let w : Whole next rest outcome = more next refl in
    record {
      digits = [];
      letter = c;
      others = w.arguments;
      tail = w.tail;
      decimal = tt;
      some = omega arith;
      most = omega arith;
      ending = letter;
      all = w.all;
      is = ap (λ xs. c ∷ xs) w.is;
      says = ap (λ r. said_then r (λ next. said_with next w.arguments)) is ∙ w.says;
      ends = w.ends;
    }
letter_next said count value c rest outcome some most letter (Err fault) is more stops =
    let P : Result Said SpecFault → Type 0 = λ r. Ends r rest in
    record {
      digits = [];
      letter = c;
      others = [];
      tail = rest;
      decimal = tt;
      some = omega arith;
      most = omega arith;
      ending = letter;
      all = tt;
      is = refl;
      says = ap (λ r. said_then r (λ next. said_with next [])) is ∙ stops fault refl;
      ends = subst P (stops fault refl) tt;
    }

-- at most nine digits stand so far
abbrev pub IsShort : Option Digits → Type 0
IsShort None = ⊤
IsShort (Some digits) = digits.count ≤ 9

refused : {A : Type 0} (at : ℕ) (outcome : Result Said SpecFault) → Err (Number at) ≡ outcome → InPlace outcome → A
refused at outcome is fine =
    let P : Result Said SpecFault → Type 0 = λ r. InPlace r in
    absurd (subst P (sym is) fine)

colon_next : (said : Said) (c at : ℕ) (rest : List ℕ) (outcome : Result Said SpecFault) → InPlace outcome
    → (arguments (inside said 0 0) (at + 1) rest ≡ outcome → Rest said 0 0 rest outcome)
    → (t : Bool) → (c == 58) ≡ t
    → going_on (if t then Ok (inside said 0 0) else Err (Number at)) (λ next. arguments next (at + 1) rest) ≡ outcome
    → Whole said (c ∷ rest) outcome
colon_next said c at rest outcome fine more true colon is =
    let P : ℕ → Type 0 = λ b. Whole said (b ∷ rest) outcome in
    let same : 58 ≡ c = grind (arith, nat_tests) in
    subst P same (begins said rest outcome (more is))
colon_next said c at rest outcome fine more false other is = refused at outcome is fine

inside_next : (said : Said) (digits : Digits) (c at : ℕ) (rest : List ℕ) (outcome : Result Said SpecFault) → InPlace outcome → digits.count ≤ 9
    → (digits.count < 9 → arguments (inside said (digits.count + 1) (digits.value * 10 + (c - 48))) (at + 1) rest ≡ outcome
    → Rest said (digits.count + 1) (digits.value * 10 + (c - 48)) rest outcome)
    → ((next : Said) → arguments (between next) (at + 1) rest ≡ outcome → Whole next rest outcome)
    → (t u : Bool) → (is_ascii_digit c && nat_lt digits.count 9) ≡ t → (is_letter c && nat_lt 0 digits.count) ≡ u
    → going_on (if t then Ok (inside said (digits.count + 1) (digits.value * 10 + (c - 48))) else (if u then ended (adding said c digits.value) else Err (Number at)))
    (λ next. arguments next (at + 1) rest) ≡ outcome
    → Rest said digits.count digits.value (c ∷ rest) outcome
inside_next said digits c at rest outcome fine short more others true u digit letter is =
    let few : digits.count < 9 = grind (arith, nat_tests) in
    let decimal : (48 ≤ c) × (c ≤ 57) = grind (arith, nat_tests) in
    digit_more said digits.count digits.value c rest outcome decimal (more few is)
inside_next said digits c at rest outcome fine short more others false true digit letter is =
    let some : 0 < digits.count = grind (arith, nat_tests) in
    let ending : is_letter c ≡ true = grind (arith, nat_tests) in
    letter_next said digits.count digits.value c rest outcome some short ending (adding said c digits.value) refl
    (λ next added. others next (ap (λ r. going_on (ended r) (λ next. arguments next (at + 1) rest)) (sym added) ∙ is))
    (λ fault added. ap (λ r. going_on (ended r) (λ next. arguments next (at + 1) rest)) (sym added) ∙ is)
inside_next said digits c at rest outcome fine short more others false false digit letter is = refused at outcome is fine

-- whatever is read with no byte out of place is whole
pub read_whole : (text : List ℕ) (said : Said) (digits : Option Digits) (at : ℕ) (outcome : Result Said SpecFault)
    → IsShort digits → InPlace outcome
    → arguments (record { said = said; digits = digits }) at text ≡ outcome → Stands said digits text outcome
read_whole [] said None at outcome short fine is =
    let P : Result Said SpecFault → Type 0 = λ r. Ends r [] in
    record { arguments = []; tail = []; all = tt; is = refl; says = is; ends = subst P is refl }
read_whole [] said (Some digits) at outcome short fine is = refused at outcome is fine
read_whole (c ∷ rest) said None at outcome short fine is =
    colon_next said c at rest outcome fine
    (λ more. read_whole rest said (Some (record { count = 0; value = 0 })) (at + 1) outcome (omega arith) fine more)
    (c == 58) refl is
read_whole (c ∷ rest) said (Some digits) at outcome short fine is =
    inside_next said digits c at rest outcome fine short
    (λ few more. read_whole rest said (Some (record { count = digits.count + 1; value = digits.value * 10 + (c - 48) })) (at + 1) outcome (omega arith) fine more)
    (λ next more. read_whole rest next None (at + 1) outcome tt fine more)
    (is_ascii_digit c && nat_lt digits.count 9) (is_letter c && nat_lt 0 digits.count) refl refl is
