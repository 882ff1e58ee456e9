-- What a reader reads of one field.
use Rattle.std.proofs.Common.{◌≡◌, ◌≤◌, ◌<◌, ◌+◌, ℕ, Bool, true, false, Option, Some, None, List, length, take, drop, Result, Ok, Err, inl, inr, refl, sym, ap, ◌∙◌, arith, lt-ltb, le-ltb}
use Rattle.std.specs.Prelude.{◌&&◌, ◌⊎◌, is_some, nat_le, nat_lt, if◌then◌else◌}
use Rattle.std.proofs.lemmas.Bool.{false≢true}
use Rattle.std.proofs.lemmas.Bool.Decides.{nat_tests}
use Rattle.byteorder.specs.Endian.{big_number}
use Rattle.draid_record.specs.declared.fault.Fault.{Fault}
use Rattle.draid_record.specs.Grammar.{check, number, text}
use Rattle.draid_record.specs.Reader.{Reads, state_by}
use Rattle.draid_record.specs.Reading.{bytes_at, cut, number_at, range, read, then_read}

-- the three ends of a number
abbrev number_by : Bool → Bool → ℕ → ℕ → List ℕ → Result (ℕ × List ℕ) Fault
number_by short fits n left rest = if short then Err (cut left) else if fits then Ok (n, rest) else Err (range left)

cut_by : (short fits : Bool) (n left : ℕ) (rest : List ℕ) → short ≡ true → number_by short fits n left rest ≡ Err (cut left)
cut_by true fits n left rest is = refl
cut_by false fits n left rest is = absurd (false≢true is)

range_by : (short fits : Bool) (n left : ℕ) (rest : List ℕ) → short ≡ false → fits ≡ false → number_by short fits n left rest ≡ Err (range left)
range_by true fits n left rest is not = absurd (false≢true (sym is))
range_by false true n left rest is not = absurd (false≢true (sym not))
range_by false false n left rest is not = refl

found_by : (short fits : Bool) (n left : ℕ) (rest : List ℕ) → short ≡ false → fits ≡ true → number_by short fits n left rest ≡ Ok (n, rest)
found_by true fits n left rest is fit = absurd (false≢true (sym is))
found_by false true n left rest is fit = refl
found_by false false n left rest is fit = absurd (false≢true fit)

is_out : (n low high : ℕ) → (n < low) ⊎ ((low ≤ n) × (high < n)) → (nat_le low n && nat_le n high) ≡ false
is_out n low high (inl l) = grind (arith, nat_tests)
is_out n low high (inr (_, l)) = grind (arith, nat_tests)

is_in : (n low high : ℕ) → low ≤ n → n ≤ high → (nat_le low n && nat_le n high) ≡ true
is_in n low high a b = grind (arith, nat_tests)

pub number_cut : (width low high : ℕ) (fault : Option Fault) (bytes : List ℕ) → is_some fault ≡ false → length bytes < width → Reads (state_by fault bytes) (Err (cut (length bytes))) 0 (number width low high)
unfolding read
number_cut width low high None bytes ok short =
    let is : number_at width low high bytes ≡ Err (cut (length bytes)) = cut_by (nat_lt (length bytes) width) (nat_le low (big_number width bytes) && nat_le (big_number width bytes) high) (big_number width bytes) (length bytes) (drop width bytes) (lt-ltb _ _ short) in
    record { is = ap (λ (r : Result (ℕ × List ℕ) Fault). then_read r (λ n. Ok n)) is }
number_cut width low high (Some f) bytes ok short = absurd (false≢true (sym ok))

pub number_out : (width low high n : ℕ) (fault : Option Fault) (bytes : List ℕ) → is_some fault ≡ false → width ≤ length bytes → n ≡ big_number width bytes → (n < low) ⊎ ((low ≤ n) × (high < n))
    → Reads (state_by fault bytes) (Err (range (length bytes))) 0 (number width low high)
unfolding read
number_out width low high n None bytes ok long n_is out =
    let fits : (nat_le low (big_number width bytes) && nat_le (big_number width bytes) high) ≡ false = rw (← n_is) (is_out n low high out) in
    let is : number_at width low high bytes ≡ Err (range (length bytes)) = range_by (nat_lt (length bytes) width) (nat_le low (big_number width bytes) && nat_le (big_number width bytes) high) (big_number width bytes) (length bytes) (drop width bytes) (le-ltb _ _ long) fits in
    record { is = ap (λ (r : Result (ℕ × List ℕ) Fault). then_read r (λ n. Ok n)) is }
number_out width low high n (Some f) bytes ok long n_is out = absurd (false≢true (sym ok))

pub number_found : (width low high n : ℕ) (fault : Option Fault) (bytes rest : List ℕ) → is_some fault ≡ false → width ≤ length bytes → n ≡ big_number width bytes → low ≤ n → n ≤ high → rest ≡ drop width bytes
    → Reads (state_by fault bytes) (state_by fault rest) n (number width low high)
unfolding read
number_found width low high n None bytes rest ok long n_is above below rest_is =
    let fits : (nat_le low (big_number width bytes) && nat_le (big_number width bytes) high) ≡ true = rw (← n_is) (is_in n low high above below) in
    let is : number_at width low high bytes ≡ Ok (big_number width bytes, drop width bytes) = found_by (nat_lt (length bytes) width) (nat_le low (big_number width bytes) && nat_le (big_number width bytes) high) (big_number width bytes) (length bytes) (drop width bytes) (le-ltb _ _ long) fits in
    record { is = ap (λ (r : Result (ℕ × List ℕ) Fault). then_read r (λ n. Ok n)) is ∙ ap (λ m. Ok (m, drop width bytes)) (sym n_is) ∙ ap (λ rest. Ok (n, rest)) (sym rest_is) }
number_found width low high n (Some f) bytes rest ok long n_is above below rest_is = absurd (false≢true (sym ok))

abbrev text_if : Bool → ℕ → List ℕ → List ℕ → Result (List ℕ × List ℕ) Fault
text_if short left text rest = if short then Err (cut left) else Ok (text, rest)

text_by : (short : Bool) (left : ℕ) (text rest : List ℕ) → short ≡ true → text_if short left text rest ≡ Err (cut left)
text_by true left text rest is = refl
text_by false left text rest is = absurd (false≢true is)

whole_by : (short : Bool) (left : ℕ) (text rest : List ℕ) → short ≡ false → text_if short left text rest ≡ Ok (text, rest)
whole_by true left text rest is = absurd (false≢true (sym is))
whole_by false left text rest is = refl

pub text_cut : (width : ℕ) (fault : Option Fault) (bytes value : List ℕ) → is_some fault ≡ false → length bytes < width → Reads (state_by fault bytes) (Err (cut (length bytes))) value (text width)
unfolding read
text_cut width None bytes value ok short =
    let is : bytes_at width bytes ≡ Err (cut (length bytes)) = text_by (nat_lt (length bytes) width) (length bytes) (take width bytes) (drop width bytes) (lt-ltb _ _ short) in
    record { is = ap (λ (r : Result (List ℕ × List ℕ) Fault). then_read r (λ n. Ok n)) is }
text_cut width (Some f) bytes value ok short = absurd (false≢true (sym ok))

pub text_found : (width : ℕ) (fault : Option Fault) (bytes value rest : List ℕ) → is_some fault ≡ false → width ≤ length bytes → value ≡ take width bytes → rest ≡ drop width bytes
    → Reads (state_by fault bytes) (state_by fault rest) value (text width)
unfolding read
text_found width None bytes value rest ok long value_is rest_is =
    let is : bytes_at width bytes ≡ Ok (take width bytes, drop width bytes) = whole_by (nat_lt (length bytes) width) (length bytes) (take width bytes) (drop width bytes) (le-ltb _ _ long) in
    record { is = ap (λ (r : Result (List ℕ × List ℕ) Fault). then_read r (λ n. Ok n)) is ∙ ap (λ (v : List ℕ). Ok (v, drop width bytes)) (sym value_is) ∙ ap (λ (rest : List ℕ). Ok (value, rest)) (sym rest_is) }
text_found width (Some f) bytes value rest ok long value_is rest_is = absurd (false≢true (sym ok))

pub check_kept : (holds : Bool) (back : ℕ) (fault : Option Fault) (bytes : List ℕ) → (holds ≡ true) ⊎ (is_some fault ≡ true) → Reads (state_by fault bytes) (state_by fault bytes) tt (check holds back)
unfolding read
check_kept holds back (Some f) bytes why = record { is = refl }
check_kept true back None bytes why = record { is = refl }
check_kept false back None bytes (inl is) = absurd (false≢true is)
check_kept false back None bytes (inr is) = absurd (false≢true is)

pub check_failed : (holds : Bool) (back : ℕ) (fault : Option Fault) (bytes : List ℕ) → holds ≡ false → is_some fault ≡ false → Reads (state_by fault bytes) (Err (range (length bytes + back))) tt (check holds back)
unfolding read
check_failed false back None bytes is ok = record { is = refl }
check_failed true back fault bytes is ok = absurd (false≢true (sym is))
check_failed false back (Some f) bytes is ok = absurd (false≢true (sym ok))
