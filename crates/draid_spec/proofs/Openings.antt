-- How the text of a spec begins.
use Rattle.std.proofs.Common.{◌≡◌, ◌∙◌, ◌-◌, ◌≤◌, ℕ, true, Err, List, [], ◌∷◌, length, get_or, take, drop, codes, nat_eq, sym, ap, arith}
use Rattle.std.specs.Prelude.{if◌then◌else◌}
use Rattle.std.specs.Char.{is_ascii_digit}
use Rattle.std.specs.Cmp.Lexicographic.{pointwise, same_text}
use Rattle.std.specs.Int.{is_in_range}
use Rattle.std.proofs.lemmas.Bool.Decides.{nat_tests}
use Rattle.std.proofs.lemmas.List.{take_all}
use Rattle.draid_spec.specs.declared.spec.SpecFault.TheVariants.{NotDraid, Parity}
use Rattle.draid_spec.specs.Text.{after_name, arguments, opened, said_by}

pub behind_name : (text rest : List ℕ) → pointwise nat_eq (take 5 text) (codes "draid") ≡ true → rest ≡ drop 5 text → after_name rest ≡ said_by text
behind_name text rest begins is =
    ap after_name is
    ∙ sym (ap (λ head. if pointwise nat_eq (codes "draid") head then after_name (drop 5 text) else Err NotDraid) (same_text (take 5 text) (codes "draid") (sym begins)))

-- a digit for the parity stands first
pub parity_first : (rest : List ℕ) → 1 ≤ length rest → 49 ≤ get_or rest 0 0 → get_or rest 0 0 ≤ 51
    → arguments (opened (get_or rest 0 0 - 48)) 6 (take (length rest - 1) (drop 1 rest)) ≡ after_name rest
parity_first [] some low high = absurd (omega arith)
parity_first (c ∷ rest) some low high =
    let digit : is_in_range 49 51 c ≡ true = grind (arith, nat_tests) in
    ap (arguments (opened (c - 48)) 6) (take_all (length (c ∷ rest) - 1) rest (omega arith))
    ∙ sym (ap (λ b. if b then arguments (opened (c - 48)) 6 rest else if is_ascii_digit c then Err Parity else arguments (opened 1) 5 (c ∷ rest)) digit)
