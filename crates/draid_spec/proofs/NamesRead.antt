use Rattle.std.proofs.Common.{◌≡◌, ◌^◌, ◌<◌, ◌≤◌, ℕ, true, List, [], ◌∷◌, ◌++◌, codes, length, Some, Result, Ok, Err, IfOk, String, string_bytes, refl, ap, ◌∙◌, arith}
use Rattle.std.proofs.lemmas.Bool.Decides.{nat_tests}
use Rattle.std.proofs.lemmas.Fmt.{decimal_is_IsNumeral, decimal_digit, decimal_nonempty, length-decimal-le}
use Rattle.std.proofs.lemmas.Str.Parse.{digit_from_value}
use Rattle.std.specs.Fmt.{decimal}
use Rattle.std.specs.List.{AllByRecursion}
use Rattle.std.specs.Char.{IsAsciiDigit}
use Rattle.std.specs.Str.Parse.{AllDigits, digits_value}
use Rattle.std.specs.Result.{result_and}
use Rattle.std.specs.declared.alloc.Global.{Global}
use Rattle.std.specs.declared.alloc.AllocError.{AllocError}
use Rattle.draid_spec.specs.declared.spec.Spec.{Spec}
use Rattle.draid_spec.specs.declared.spec.SpecFault.{SpecFault}
use Rattle.draid_spec.specs.declared.text.Said.{Said}
use Rattle.draid_spec.specs.Spec.{IsSpec, need_of, have_of, checked_width}
use Rattle.draid_spec.specs.Said.{is_letter, checked_children, checked_limits, spec_checked}
use Rattle.draid_spec.specs.Name.{spec_name_of}
use Rattle.draid_spec.specs.Text.{meant, spec_by, said_by}
use Rattle.draid_spec.specs.Grammar.{Argument, IsArgument, Parts, IsParts, text_of, said_of}
use Rattle.draid_spec.proofs.TextRead.{text_read}

all_digits : (ds : List ℕ) → AllDigits 10 ds → AllByRecursion IsAsciiDigit ds
all_digits [] all = tt
all_digits (c ∷ ds) all = (digit_from_value c all.0, all_digits ds all.1)

-- a number before a letter
argument : ℕ → ℕ → Argument
argument n letter = record { digits = decimal n; letter = letter }

is_argument : (n letter : ℕ) → n ≤ 999999999 → is_letter letter ≡ true → IsArgument (argument n letter)
unfolding argument
is_argument n letter small is =
    let fits : n < 2 ^ 64 = omega arith in
    let nine : n < 10 ^ 9 = omega arith in
    let some : 0 < length (decimal n) = decimal_nonempty n fits in
    record {
      digits = all_digits (decimal n) (decimal_is_IsNumeral n fits).0.1;
      some = omega arith;
      most = length-decimal-le 9 n (omega arith) nine fits;
      letter = is;
    }

-- the parts of a name
parts_of : Spec → Parts
parts_of spec = record { parity = Some spec.parity; arguments = argument spec.ndata 100 ∷ (argument spec.children 99 ∷ (argument spec.spares 115 ∷ [])) }

name_text : (spec : Spec) → spec.parity ≤ 3 → spec_name_of spec ≡ text_of (parts_of spec)
unfolding parts_of argument
name_text spec small =
    ap (λ ds. codes "draid" ++ (ds ++ (codes ":" ++ (decimal spec.ndata
    ++ (codes "d:" ++ (decimal spec.children ++ (codes "c:" ++ (decimal spec.spares ++ codes "s")))))))) (decimal_digit spec.parity (omega arith))

-- what a name says
named : Spec → Said
named spec = record { parity = spec.parity; ndata = Some spec.ndata; children = Some spec.children; spares = Some spec.spares }

name_said : (spec : Spec) (version : ℕ) → IsSpec version spec → said_of (parts_of spec) ≡ Ok (named spec)
unfolding parts_of argument named
name_said spec version is =
    let value : (n : ℕ) → n ≤ 999999999 → digits_value 10 (decimal n) ≡ n = λ n small. (decimal_is_IsNumeral n (omega arith)).1 in
    let says : ℕ → ℕ → ℕ → Result Said SpecFault = λ d c s. Ok (record { parity = spec.parity; ndata = Some d; children = Some c; spares = Some s }) in
    ap (λ d. says d (digits_value 10 (decimal spec.children)) (digits_value 10 (decimal spec.spares))) (value spec.ndata is.most_data)
    ∙ (ap (λ c. says spec.ndata c (digits_value 10 (decimal spec.spares))) (value spec.children (omega arith))
    ∙ ap (λ s. says spec.ndata spec.children s) (value spec.spares (omega arith)))

children_pass : (n : ℕ) → checked_children (Some n) n ≡ Ok tt
children_pass n = grind (arith, nat_tests)

limits_pass : (spec : Spec) (version : ℕ) → IsSpec version spec → checked_limits (named spec) spec.children version ≡ Ok tt
unfolding named
limits_pass spec version is = grind (arith, nat_tests)

width_passes : (spec : Spec) → need_of spec ≤ have_of spec → checked_width spec ≡ Ok tt
width_passes spec fits = grind (arith, nat_tests)

name_checked : (spec : Spec) (version : ℕ) → IsSpec version spec → need_of spec ≤ have_of spec → spec_checked (named spec) spec.children version ≡ Ok spec
unfolding named
name_checked spec version is fits =
    let limits : checked_limits (named spec) spec.children version ≡ Ok tt = limits_pass spec version is in
    let all : Result Unit SpecFault → Result Unit SpecFault → Result Unit SpecFault → Result Spec SpecFault
    = λ r s t. result_and r (result_and s (result_and t (Ok spec))) in
    ap (λ r. all r (checked_limits (named spec) spec.children version) (checked_width spec)) (children_pass spec.children)
    ∙ (ap (λ s. all (Ok tt) s (checked_width spec)) limits
    ∙ ap (λ t. all (Ok tt) (Ok tt) t) (width_passes spec fits))

parts_are : (spec : Spec) (version : ℕ) → IsSpec version spec → IsParts (parts_of spec)
unfolding parts_of
parts_are spec version ranges = record {
  parity = (ranges.some_parity, ranges.most_parity);
  arguments = (is_argument spec.ndata 100 ranges.most_data refl, (is_argument spec.children 99 (omega arith) refl, (is_argument spec.spares 115 (omega arith) refl, tt)));
}

name_read : (spec : Spec) (name : List ℕ) → name ≡ spec_name_of spec → (version : ℕ) → IsSpec version spec → need_of spec ≤ have_of spec → spec_by name spec.children version ≡ Ok spec
name_read spec name is version ranges fits =
    let parts : IsParts (parts_of spec) = parts_are spec version ranges in
    let said : said_by name ≡ Ok (named spec)
    = ap (λ text. said_by text) (is ∙ name_text spec ranges.most_parity) ∙ (text_read (parts_of spec) parts ∙ name_said spec version ranges) in
    ap (λ r. meant r spec.children version) said ∙ name_checked spec version ranges fits

pub names_read : (spec : Spec) (r : Result (String Global) AllocError) → IfOk r (λ name. string_bytes name ≡ spec_name_of spec)
    → IfOk r (λ name. (version : ℕ) → IsSpec version spec → need_of spec ≤ have_of spec → spec_by (string_bytes name) spec.children version ≡ Ok spec)
names_read spec (Ok name) is = name_read spec (string_bytes name) is
names_read spec (Err error) is = tt
