-- What some words ask for, by computing.
use Rattle.std.proofs.Common.{◌≡◌, ◌≢◌, ◌∙◌, refl, sym, ap, inl, inr, ℕ, ◌≤◌, ◌<◌, List, [], ◌∷◌, ◌++◌, None, Some, option_map, codes, arith, length, get_or, subst}
use Rattle.std.proofs.lemmas.Bool.{cases_eq, ne_eqb}
use Rattle.std.specs.Fmt.{decimal}
use Rattle.std.proofs.lemmas.Fmt.{decimal_is_IsNumeral}
use Rattle.std.proofs.lemmas.Str.Parse.{digit_at}
use Rattle.draid_script.proofs.Numbers.{decimal_of_number}
use Rattle.clap.proofs.OnLiterals.{clap_on_literals}
use Rattle.draid_script.specs.Word.{number_of}
use Rattle.draid_words.specs.Mode.{OfSession, OfWorkload, asked}

pub memory : asked (codes "session" ∷ []) ≡ Some (OfSession None)
unfolding clap_on_literals asked
memory = refl

pub folder : (dir : List ℕ) → asked (codes "session" ∷ (codes "--dir=" ++ dir) ∷ []) ≡ Some (OfSession (Some dir))
unfolding clap_on_literals asked
folder dir = refl

pub folder_before : (dir : List ℕ) → asked ((codes "--dir=" ++ dir) ∷ codes "session" ∷ []) ≡ Some (OfSession (Some dir))
unfolding clap_on_literals asked
folder_before dir = refl

pub nothing : asked [] ≡ None
unfolding clap_on_literals asked
nothing = refl

pub no_number : asked (codes "workload" ∷ []) ≡ None
unfolding clap_on_literals asked
no_number = refl

pub no_such_number : asked (codes "workload" ∷ codes "x" ∷ []) ≡ None
unfolding clap_on_literals asked number_of
no_such_number = refl

pub two_numbers : asked (codes "workload" ∷ codes "1" ∷ codes "2" ∷ []) ≡ None
unfolding clap_on_literals asked
two_numbers = refl

pub number_of_session : asked (codes "session" ∷ codes "1" ∷ []) ≡ None
unfolding clap_on_literals asked
number_of_session = refl

pub folder_of_workload : (dir : List ℕ) → asked (codes "workload" ∷ codes "1" ∷ (codes "--dir=" ++ dir) ∷ []) ≡ None
unfolding clap_on_literals asked
folder_of_workload dir = refl

pub two_folders : (dir dir' : List ℕ) → asked (codes "session" ∷ (codes "--dir=" ++ dir) ∷ (codes "--dir=" ++ dir') ∷ []) ≡ None
unfolding clap_on_literals asked
two_folders dir dir' = refl

pub no_folder : asked (codes "session" ∷ codes "--dir" ∷ []) ≡ None
unfolding clap_on_literals asked
no_folder = refl

pub help : asked (codes "--help" ∷ []) ≡ None
unfolding clap_on_literals asked
help = refl

-- a word whose first byte is a digit is the second word of a workload
abbrev IsTaken : ℕ → List ℕ → Type 0
IsTaken digit digits = asked (codes "workload" ∷ (digit ∷ digits) ∷ []) ≡ option_map OfWorkload (number_of (digit ∷ digits))

taken_0 : (digits : List ℕ) → IsTaken 48 digits
unfolding clap_on_literals asked
taken_0 digits = refl

taken_1 : (digits : List ℕ) → IsTaken 49 digits
unfolding clap_on_literals asked
taken_1 digits = refl

taken_2 : (digits : List ℕ) → IsTaken 50 digits
unfolding clap_on_literals asked
taken_2 digits = refl

taken_3 : (digits : List ℕ) → IsTaken 51 digits
unfolding clap_on_literals asked
taken_3 digits = refl

taken_4 : (digits : List ℕ) → IsTaken 52 digits
unfolding clap_on_literals asked
taken_4 digits = refl

taken_5 : (digits : List ℕ) → IsTaken 53 digits
unfolding clap_on_literals asked
taken_5 digits = refl

taken_6 : (digits : List ℕ) → IsTaken 54 digits
unfolding clap_on_literals asked
taken_6 digits = refl

taken_7 : (digits : List ℕ) → IsTaken 55 digits
unfolding clap_on_literals asked
taken_7 digits = refl

taken_8 : (digits : List ℕ) → IsTaken 56 digits
unfolding clap_on_literals asked
taken_8 digits = refl

taken_9 : (digits : List ℕ) → IsTaken 57 digits
unfolding clap_on_literals asked
taken_9 digits = refl

taken_digit : (digit : ℕ) (digits : List ℕ) → 48 ≤ digit → digit ≤ 57 → IsTaken digit digits
taken_digit digit digits low high =
    let by : (n : ℕ) → digit ≡ n → IsTaken n digits → IsTaken digit digits = λ n is taken. subst (λ (d : ℕ). IsTaken d digits) (sym is) taken in
    elim (cases_eq digit 48) [
      | inl is ↦ by 48 is (taken_0 digits)
      | inr not_0 ↦
          elim (cases_eq digit 49) [
            | inl is ↦ by 49 is (taken_1 digits)
            | inr not_1 ↦
                elim (cases_eq digit 50) [
                  | inl is ↦ by 50 is (taken_2 digits)
                  | inr not_2 ↦
                      elim (cases_eq digit 51) [
                        | inl is ↦ by 51 is (taken_3 digits)
                        | inr not_3 ↦
                            elim (cases_eq digit 52) [
                              | inl is ↦ by 52 is (taken_4 digits)
                              | inr not_4 ↦
                                  elim (cases_eq digit 53) [
                                    | inl is ↦ by 53 is (taken_5 digits)
                                    | inr not_5 ↦
                                        elim (cases_eq digit 54) [
                                          | inl is ↦ by 54 is (taken_6 digits)
                                          | inr not_6 ↦
                                              elim (cases_eq digit 55) [
                                                | inl is ↦ by 55 is (taken_7 digits)
                                                | inr not_7 ↦
                                                    elim (cases_eq digit 56) [
                                                      | inl is ↦ by 56 is (taken_8 digits)
                                                      | inr not_8 ↦
                                                          by 57 (omega arith) (taken_9 digits)
                                                    ]
                                              ]
                                        ]
                                  ]
                            ]
                      ]
                ]
          ]
    ]

taken_text : (text : List ℕ) → 0 < length text → 48 ≤ get_or text 0 0 → get_or text 0 0 ≤ 57
    → asked (codes "workload" ∷ text ∷ []) ≡ option_map OfWorkload (number_of text)
taken_text [] some low high = absurd (omega arith)
taken_text (digit ∷ digits) some low high = taken_digit digit digits low high

pub workload : (text : List ℕ) (number : ℕ) → number_of text ≡ Some number → asked (codes "workload" ∷ text ∷ []) ≡ Some (OfWorkload number)
workload text number is =
    let spelled = decimal_of_number text number is in
    let numeral = (decimal_is_IsNumeral number spelled.0).0 in
    let digit = digit_at (decimal number) 0 numeral.1 numeral.0 in
    subst (λ (word : List ℕ). asked (codes "workload" ∷ word ∷ []) ≡ option_map OfWorkload (number_of word)) (sym spelled.1)
    (taken_text (decimal number) (omega (arith, numeral.0)) (omega (arith, digit.0)) (omega (arith, digit.0)))
    ∙ ap (option_map OfWorkload) is

-- a folder as a word of its own, which begins with no hyphen
pub apart : (first : ℕ) (rest : List ℕ) → first ≢ 45 → asked (codes "session" ∷ codes "--dir" ∷ (first ∷ rest) ∷ []) ≡ Some (OfSession (Some (first ∷ rest)))
unfolding clap_on_literals asked
apart first rest other = let plain = ne_eqb first 45 other in simp (plain) refl

pub apart_before : (first : ℕ) (rest : List ℕ) → first ≢ 45 → asked (codes "--dir" ∷ (first ∷ rest) ∷ codes "session" ∷ []) ≡ Some (OfSession (Some (first ∷ rest)))
unfolding clap_on_literals asked
apart_before first rest other = let plain = ne_eqb first 45 other in simp (plain) refl
