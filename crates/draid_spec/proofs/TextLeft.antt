use Rattle.std.proofs.Common.{◌≡◌, ◌==◌, ◌+◌, ◌-◌, ◌*◌, ◌<◌, ◌≤◌, ◌&&◌, ℕ, Bool, true, false, List, [], ◌∷◌, ◌++◌, length, nat_lt, Option, None, Some, is_some, Result, Ok, Err, refl, ap, ◌∙◌, subst, arith, if◌then◌else◌}
use Rattle.std.proofs.lemmas.Bool.Decides.{nat_tests}
use Rattle.std.specs.List.{AllByRecursion}
use Rattle.std.specs.Char.{IsAsciiDigit, is_ascii_digit}
use Rattle.draid_spec.specs.declared.spec.SpecFault.{SpecFault}
use Rattle.draid_spec.specs.declared.spec.SpecFault.TheVariants.{Number, Repeated}
use Rattle.draid_spec.specs.declared.text.Said.{Said}
use Rattle.draid_spec.specs.declared.text.Digits.{Digits}
use Rattle.draid_spec.specs.declared.text.Reading.{Reading}
use Rattle.draid_spec.specs.Said.{adding, is_letter, number_of, with_number}
use Rattle.draid_spec.specs.Text.{read_byte, ended, going_on, arguments}
use Rattle.draid_spec.specs.Grammar.{Argument, IsArgument, written}
use Rattle.draid_spec.proofs.TextRead.{between, inside, digit_read, letter_read}
use Rattle.draid_spec.proofs.TextOnly.{IsShort}

-- the rest of an argument, and further ones
pub record Rests (count : ℕ) (text : List ℕ) : Type 0 where
  pub digits : List ℕ
  pub letter : ℕ
  pub others : List Argument
  pub decimal : AllByRecursion IsAsciiDigit digits
  pub some : 1 ≤ count + length digits
  pub most : count + length digits ≤ 9
  pub ending : is_letter letter ≡ true
  pub all : AllByRecursion IsArgument others
  pub is : text ≡ digits ++ (letter ∷ written others)

pub record Wholes (text : List ℕ) : Type 0 where
  pub arguments : List Argument
  pub all : AllByRecursion IsArgument arguments
  pub is : text ≡ written arguments

-- what may follow
abbrev pub Follows : Option Digits → List ℕ → Type 0
Follows None text = Wholes text
Follows (Some digits) text = Rests digits.count text

-- something may follow at any place
pub record Goes (digits : Option Digits) : Type 0 where
  pub more : List ℕ
  pub follows : Follows digits more

nothing_follows : Goes None
nothing_follows = record { more = []; follows = record { arguments = []; all = tt; is = refl } }

rest_follows : (digits : Digits) → digits.count ≤ 9 → (t : Bool) → (digits.count == 0) ≡ t → Goes (Some digits)
rest_follows digits short true none =
    let zeros : digits.count ≡ 0 = grind (arith, nat_tests) in
    record {
      more = 48 ∷ (100 ∷ []);
      follows = record {
        digits = 48 ∷ [];
        letter = 100;
        others = [];
        decimal = ((omega arith, omega arith), tt);
        some = omega arith;
        most = omega arith;
        ending = refl;
        all = tt;
        is = refl;
      };
    }
rest_follows digits short false some =
    let more : 0 < digits.count = grind (arith, nat_tests) in
    record {
      more = 100 ∷ [];
      follows = record {
        digits = [];
        letter = 100;
        others = [];
        decimal = tt;
        some = omega arith;
        most = omega arith;
        ending = refl;
        all = tt;
        is = refl;
      };
    }

goes : (digits : Option Digits) → IsShort digits → Goes digits
goes None short = nothing_follows
goes (Some digits) short = rest_follows digits short (digits.count == 0) refl

-- where a text is stuck
pub record Departs (said : Said) (digits : Option Digits) (at : ℕ) (text : List ℕ) (k : ℕ) : Type 0 where
  pub front : List ℕ
  pub back : List ℕ
  pub more : List ℕ
  pub is : text ≡ front ++ back
  pub place : k ≡ at + length front
  pub stuck : (c : ℕ) (rest x : List ℕ) → back ≡ c ∷ rest → arguments (record { said = said; digits = digits }) at (front ++ (c ∷ x)) ≡ Err (Number k)
  pub follows : Follows digits (front ++ more)

on_step : (said said' : Said) (digits digits' : Option Digits) (at c : ℕ) (rest : List ℕ) (k : ℕ)
    → read_byte said digits at c ≡ Ok (record { said = said'; digits = digits' })
    → (d : Departs said' digits' (at + 1) rest k)
    → Follows digits (c ∷ (d.front ++ d.more)) → Departs said digits at (c ∷ rest) k
on_step said said' digits digits' at c rest k step d follows =
    let place : k ≡ at + 1 + length d.front = d.place in
    record {
      front = c ∷ d.front;
      back = d.back;
      more = d.more;
      is = ap (λ xs. c ∷ xs) d.is;
      place = omega arith;
      stuck = λ b r x e. ap (λ s. going_on s (λ next. arguments next (at + 1) (d.front ++ (b ∷ x)))) step ∙ d.stuck b r x e;
      follows = follows;
    }

abbrev stuck_at : ℕ → Result Said SpecFault
stuck_at at = Err (Number at)

here : (said : Said) (digits : Option Digits) (at c : ℕ) (rest : List ℕ) (k : ℕ) → IsShort digits
    → read_byte said digits at c ≡ Err (Number at) → stuck_at at ≡ Err (Number k)
    → Departs said digits at (c ∷ rest) k
here said digits at c rest k short step same =
    let g : Goes digits = goes digits short in
    let place : at ≡ k = cc in
    record {
      front = [];
      back = c ∷ rest;
      more = g.more;
      is = refl;
      place = omega arith;
      stuck = λ b r x e.
          let head : b ≡ c = cc in
          ap (λ y. going_on (read_byte said digits at y) (λ next. arguments next (at + 1) x)) head
          ∙ (ap (λ s. going_on s (λ next. arguments next (at + 1) x)) step ∙ same);
      follows = g.follows;
    }

begun_follows : (rest : List ℕ) → Rests 0 rest → Wholes (58 ∷ rest)
begun_follows rest r = record {
  arguments = record { digits = r.digits; letter = r.letter } ∷ r.others;
  all = (record { digits = r.decimal; some = let h : 1 ≤ 0 + length r.digits = r.some in omega arith; most = let h : 0 + length r.digits ≤ 9 = r.most in omega arith; letter = r.ending }, r.all);
  is = ap (λ xs. 58 ∷ xs) r.is;
}

digit_follows : (count c : ℕ) (rest : List ℕ) → IsAsciiDigit c → Rests (count + 1) rest → Rests count (c ∷ rest)
digit_follows count c rest digit r =
    let some : 1 ≤ count + 1 + length r.digits = r.some in
    let most : count + 1 + length r.digits ≤ 9 = r.most in
    record { digits = c ∷ r.digits; letter = r.letter; others = r.others; decimal = (digit, r.decimal); some = omega arith; most = omega arith; ending = r.ending; all = r.all; is = ap (λ xs. c ∷ xs) r.is }

letter_follows : (count c : ℕ) (rest : List ℕ) → 0 < count → count ≤ 9 → is_letter c ≡ true → Wholes rest → Rests count (c ∷ rest)
letter_follows count c rest some most letter w =
    record { digits = []; letter = c; others = w.arguments; decimal = tt; some = omega arith; most = omega arith; ending = letter; all = w.all; is = ap (λ xs. c ∷ xs) w.is }

colon_step : (said : Said) (c at : ℕ) (rest : List ℕ) (k : ℕ)
    → (arguments (inside said 0 0) (at + 1) rest ≡ Err (Number k) → Departs said (Some (record { count = 0; value = 0 })) (at + 1) rest k)
    → (t : Bool) → (c == 58) ≡ t
    → going_on (if t then Ok (inside said 0 0) else Err (Number at)) (λ next. arguments next (at + 1) rest) ≡ Err (Number k)
    → Departs said None at (c ∷ rest) k
colon_step said c at rest k more true colon is =
    let step : read_byte said None at c ≡ Ok (inside said 0 0) = grind (arith, nat_tests) in
    let d : Departs said (Some (record { count = 0; value = 0 })) (at + 1) rest k = more is in
    let same : 58 ≡ c = grind (arith, nat_tests) in
    let P : ℕ → Type 0 = λ b. Wholes (b ∷ (d.front ++ d.more)) in
    on_step said said None (Some (record { count = 0; value = 0 })) at c rest k step d (subst P same (begun_follows (d.front ++ d.more) d.follows))
colon_step said c at rest k more false other is =
    let step : read_byte said None at c ≡ Err (Number at) = grind (arith, nat_tests) in
    here said None at c rest k tt step is

repeated_only : (said : Said) (letter value : ℕ) (t : Bool) (k : ℕ) (f : Reading → Result Said SpecFault)
    → going_on (ended (if t then Err (Repeated letter) else Ok (with_number said letter value))) f ≡ Err (Number k)
    → (t ≡ false) × (f (between (with_number said letter value)) ≡ Err (Number k))
repeated_only said letter value true k f is = absurd (let e : Repeated letter ≡ Number k = cc in cc)
repeated_only said letter value false k f is = (refl, is)

inside_step : (said : Said) (digits : Digits) (c at : ℕ) (rest : List ℕ) (k : ℕ) → digits.count ≤ 9
    → (digits.count < 9 → arguments (inside said (digits.count + 1) (digits.value * 10 + (c - 48))) (at + 1) rest ≡ Err (Number k)
    → Departs said (Some (record { count = digits.count + 1; value = digits.value * 10 + (c - 48) })) (at + 1) rest k)
    → ((next : Said) → arguments (between next) (at + 1) rest ≡ Err (Number k) → Departs next None (at + 1) rest k)
    → (t u : Bool) → (is_ascii_digit c && nat_lt digits.count 9) ≡ t → (is_letter c && nat_lt 0 digits.count) ≡ u
    → going_on (if t then Ok (inside said (digits.count + 1) (digits.value * 10 + (c - 48))) else (if u then ended (adding said c digits.value) else Err (Number at)))
    (λ next. arguments next (at + 1) rest) ≡ Err (Number k)
    → Departs said (Some digits) at (c ∷ rest) k
inside_step said digits c at rest k short more others true u digit letter is =
    let few : digits.count < 9 = grind (arith, nat_tests) in
    let decimal : (48 ≤ c) × (c ≤ 57) = grind (arith, nat_tests) in
    let d : Departs said (Some (record { count = digits.count + 1; value = digits.value * 10 + (c - 48) })) (at + 1) rest k = more few is in
    on_step said said (Some digits) (Some (record { count = digits.count + 1; value = digits.value * 10 + (c - 48) })) at c rest k
    (digit_read said digits.count digits.value at c decimal few) d (digit_follows digits.count c (d.front ++ d.more) decimal d.follows)
inside_step said digits c at rest k short more others false true digit letter is =
    let some : 0 < digits.count = grind (arith, nat_tests) in
    let ending : is_letter c ≡ true = grind (arith, nat_tests) in
    let only : (is_some (number_of said c) ≡ false) × (arguments (between (with_number said c digits.value)) (at + 1) rest ≡ Err (Number k))
    = repeated_only said c digits.value (is_some (number_of said c)) k (λ next. arguments next (at + 1) rest) is in
    let d : Departs (with_number said c digits.value) None (at + 1) rest k = others (with_number said c digits.value) only.1 in
    let first : adding said c digits.value ≡ Ok (with_number said c digits.value)
    = let choose : Bool → Result Said SpecFault = λ t. if t then Err (Repeated c) else Ok (with_number said c digits.value) in ap choose only.0 in
    on_step said (with_number said c digits.value) (Some digits) None at c rest k
    (letter_read said digits.count digits.value at c ending some ∙ ap ended first) d (letter_follows digits.count c (d.front ++ d.more) some short ending d.follows)
inside_step said digits c at rest k short more others false false digit letter is =
    let step : read_byte said (Some digits) at c ≡ Err (Number at) = grind (arith, nat_tests) in
    here said (Some digits) at c rest k short step is

-- where a reading is stuck, what was read can be gone on with, but not by the byte that stands there
pub departs : (text : List ℕ) (said : Said) (digits : Option Digits) (at k : ℕ) → IsShort digits
    → arguments (record { said = said; digits = digits }) at text ≡ Err (Number k) → Departs said digits at text k
departs [] said None at k short is = absurd cc
departs [] said (Some digits) at k short is =
    let g : Goes (Some digits) = goes (Some digits) short in
    let place : at ≡ k = cc in
    record { front = []; back = []; more = g.more; is = refl; place = omega arith; stuck = λ c r x e. absurd cc; follows = g.follows }
departs (c ∷ rest) said None at k short is =
    colon_step said c at rest k (λ more. departs rest said (Some (record { count = 0; value = 0 })) (at + 1) k (omega arith) more)
    (c == 58) refl is
departs (c ∷ rest) said (Some digits) at k short is =
    inside_step said digits c at rest k short
    (λ few more. departs rest said (Some (record { count = digits.count + 1; value = digits.value * 10 + (c - 48) })) (at + 1) k (omega arith) more)
    (λ next more. departs rest next None (at + 1) k tt more)
    (is_ascii_digit c && nat_lt digits.count 9) (is_letter c && nat_lt 0 digits.count) refl refl is
