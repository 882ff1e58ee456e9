use Rattle.std.proofs.Common.{◌≡◌, ◌≢◌, ◌+◌, ◌-◌, ◌≤◌, ℕ, Bool, true, false, nat_eq, List, [], ◌∷◌, ◌++◌, length, take, drop, codes, Option, None, Some, IfSome, is_some, Result, Ok, Err, refl, sym, ap, ◌∙◌, subst, arith, append_assoc, ◌⊎◌, inl, inr, length-append, if◌then◌else◌}
use Rattle.std.proofs.lemmas.Bool.Decides.{nat_tests}
use Rattle.std.proofs.lemmas.List.{take-append-drop, append-nil}
use Rattle.std.specs.Prelude.{⊤}
use Rattle.std.specs.Cmp.Lexicographic.{same_text}
use Rattle.std.specs.Int.{is_in_range}
use Rattle.std.specs.Str.Parse.{digits_value}
use Rattle.std.specs.List.{starts_with}
use Rattle.std.specs.Char.{is_ascii_digit}
use Rattle.draid_spec.specs.declared.spec.SpecFault.{SpecFault}
use Rattle.draid_spec.specs.declared.spec.SpecFault.TheVariants.{NotDraid, Parity, Number, Repeated, Children, Width, Limit}
use Rattle.draid_spec.specs.declared.text.Said.{Said}
use Rattle.draid_spec.specs.Said.{nothing_said, number_of, with_number}
use Rattle.draid_spec.specs.Text.{opened, arguments, after_name, said_by}
use Rattle.draid_spec.specs.Grammar.{Argument, Parts, IsParts, Leaves, Accepts, Repeats, written, parity_digit, parity_of, text_of, said_then, said_with, said_of}
use Rattle.draid_spec.proofs.TextRead.{text_read}
use Rattle.draid_spec.proofs.TextOnly.{InPlace, Ends, Whole, read_whole}
use Rattle.draid_spec.proofs.TextLeft.{Departs, Wholes, departs}

-- where a text begins with the name
starts : (text : List ℕ) → starts_with nat_eq text (codes "draid") ≡ true → text ≡ codes "draid" ++ drop 5 text
starts text is =
    let name : codes "draid" ≡ take 5 text = same_text (codes "draid") (take 5 text) (sym is) in
    sym (take-append-drop 5 text) ∙ ap (λ xs. xs ++ drop 5 text) (sym name)

abbrev refused_name : Result Said SpecFault
refused_name = Err NotDraid

-- what was said before the arguments is 0 or 1 digits
pub record Opening (head : List ℕ) (parity : Option ℕ) : Type 0 where
  pub range : IfSome parity (λ p. (1 ≤ p) × (p ≤ 3))
  pub is : head ≡ parity_digit parity

-- a digit from 1 to 3
opening_digit : (c : ℕ) → is_in_range 49 51 c ≡ true → Opening (c ∷ []) (Some (c - 48))
opening_digit c is =
    let range : (49 ≤ c) × (c ≤ 51) = grind (arith, nat_tests) in
    let least : 49 ≤ c = range.0 in
    let most : c ≤ 51 = range.1 in
    let same : c ≡ 48 + (c - 48) = omega arith in
    record { range = (omega arith, omega arith); is = ap (λ d. d ∷ []) same }

-- what is behind the name is read in one of two ways, or refused
data Behind (text : List ℕ) (outcome : Result Said SpecFault) : Type 0 where
  plain : ((c : ℕ) (rest : List ℕ) → text ≡ c ∷ rest → is_ascii_digit c ≡ false) → arguments (opened 1) 5 text ≡ outcome → Behind text outcome
  digit : (c : ℕ) (rest : List ℕ) → text ≡ c ∷ rest → is_in_range 49 51 c ≡ true → arguments (opened (c - 48)) 6 rest ≡ outcome → Behind text outcome
  other : Err Parity ≡ outcome → Behind text outcome

behind : (text : List ℕ) (outcome : Result Said SpecFault) → after_name text ≡ outcome → Behind text outcome
behind [] outcome is = plain (λ c rest e. absurd cc) is
behind (c ∷ rest) outcome is = by_tests (is_in_range 49 51 c) (is_ascii_digit c) refl refl is
  where
    by_tests : (t u : Bool) → is_in_range 49 51 c ≡ t → is_ascii_digit c ≡ u
        → (if t then arguments (opened (c - 48)) 6 rest else (if u then Err Parity else arguments (opened 1) 5 (c ∷ rest))) ≡ outcome
        → Behind (c ∷ rest) outcome
    by_tests true u range decimal is = digit c rest refl range is
    by_tests false true range decimal is = other is
    by_tests false false range decimal is = plain (λ b r e. let same : b ≡ c = cc in ap is_ascii_digit same ∙ decimal) is

-- and so is the whole text
by_start : (text : List ℕ) (outcome : Result Said SpecFault) (t : Bool) → starts_with nat_eq text (codes "draid") ≡ t
    → (if t then after_name (drop 5 text) else Err NotDraid) ≡ outcome
    → ((text ≡ codes "draid" ++ drop 5 text) × Behind (drop 5 text) outcome) ⊎ (Err NotDraid ≡ outcome)
by_start text outcome true starts_so is = inl (starts text starts_so, behind (drop 5 text) outcome is)
by_start text outcome false starts_so is = inr is

-- the parts of a text whose arguments are whole
pub record Found (text : List ℕ) (outcome : Result Said SpecFault) : Type 0 where
  pub parts : Parts
  pub is_parts : IsParts parts
  pub tail : List ℕ
  pub is : text ≡ text_of parts ++ tail
  pub says : said_of parts ≡ outcome
  pub ends : Ends outcome tail

found : (text head rest : List ℕ) (parity : Option ℕ) (outcome : Result Said SpecFault) → text ≡ codes "draid" ++ (head ++ rest) → Opening head parity
    → Whole (nothing_said (parity_of parity)) rest outcome → Found text outcome
found text head rest parity outcome is o w =
    let split : head ++ rest ≡ (parity_digit parity ++ written w.arguments) ++ w.tail
    = ap (λ h. h ++ rest) o.is ∙ (ap (λ r. parity_digit parity ++ r) w.is ∙ sym (append_assoc (parity_digit parity) (written w.arguments) w.tail)) in
    record {
      parts = record { parity = parity; arguments = w.arguments };
      is_parts = record { parity = o.range; arguments = w.all };
      tail = w.tail;
      is = is ∙ ap (λ r. codes "draid" ++ r) split;
      says = w.says;
      ends = w.ends;
    }

-- only faults of the arguments and none at all
abbrev IsSaying : Result Said SpecFault → Type 0
IsSaying (Ok said) = ⊤
IsSaying (Err (Repeated letter)) = ⊤
IsSaying (Err fault) = ⊥

in_place : (outcome : Result Said SpecFault) → IsSaying outcome → InPlace outcome
in_place (Ok said) fine = tt
in_place (Err (Repeated letter)) fine = tt
in_place (Err (Number at)) fine = fine
in_place (Err NotDraid) fine = tt
in_place (Err Parity) fine = tt
in_place (Err (Children said given)) fine = tt
in_place (Err (Width need have)) fine = tt
in_place (Err (Limit which value)) fine = tt

not_saying : {A : Type 0} (fault : SpecFault) (outcome : Result Said SpecFault) → ¬ IsSaying (Err fault) → Err fault ≡ outcome → IsSaying outcome → A
not_saying fault outcome never is fine =
    let P : Result Said SpecFault → Type 0 = λ r. IsSaying r in
    absurd (never (subst P (sym is) fine))

found_behind : (text rest : List ℕ) (outcome : Result Said SpecFault) → text ≡ codes "draid" ++ rest → IsSaying outcome → Behind rest outcome → Found text outcome
found_behind text rest outcome is fine (plain first read) =
    found text [] rest None outcome is (record { range = tt; is = refl }) (read_whole rest (nothing_said 1) None 5 outcome tt (in_place outcome fine) read)
found_behind text rest outcome is fine (digit c more cut range read) =
    found text (c ∷ []) more (Some (c - 48)) outcome (is ∙ ap (λ r. codes "draid" ++ r) cut) (opening_digit c range)
    (read_whole more (nothing_said (c - 48)) None 6 outcome tt (in_place outcome fine) read)
found_behind text rest outcome is fine (other refusal) = not_saying Parity outcome (λ h. h) refusal fine

all_found : (text : List ℕ) (outcome : Result Said SpecFault) → said_by text ≡ outcome → IsSaying outcome → Found text outcome
all_found text outcome is fine = by_case (by_start text outcome (starts_with nat_eq text (codes "draid")) refl is)
  where
    by_case : ((text ≡ codes "draid" ++ drop 5 text) × Behind (drop 5 text) outcome) ⊎ (Err NotDraid ≡ outcome) → Found text outcome
    by_case (inl p) = found_behind text (drop 5 text) outcome p.0 fine p.1
    by_case (inr refusal) = not_saying NotDraid outcome (λ h. h) refusal fine

-- what is read is in the grammar
pub text_accepted : (text : List ℕ) (said : Said) → said_by text ≡ Ok said → Accepts text said
text_accepted text said is =
    let f : Found text (Ok said) = all_found text (Ok said) is tt in
    record { parts = f.parts; is_parts = f.is_parts; is = f.is ∙ (ap (λ t. text_of f.parts ++ t) f.ends ∙ append-nil (text_of f.parts)); says = f.says }

-- and so is the front of what repeats a letter
pub letter_repeated : (text : List ℕ) (letter : ℕ) → said_by text ≡ Err (Repeated letter) → Repeats text letter
letter_repeated text letter is =
    let f : Found text (Err (Repeated letter)) = all_found text (Err (Repeated letter)) is tt in
    record { parts = f.parts; is_parts = f.is_parts; rest = f.tail; is = f.is; says = f.says }

-- parts never say that a byte is out of place
says_no_number : (args : List Argument) (said : Said) (k : ℕ) → said_with said args ≢ Err (Number k)
says_no_number [] said k is = cc
says_no_number (a ∷ args) said k is = by_added (is_some (number_of said a.letter)) (λ next more. says_no_number args next k more) is
  where
    by_added : (t : Bool) → ((next : Said) → said_with next args ≢ Err (Number k))
        → said_then (if t then Err (Repeated a.letter) else Ok (with_number said a.letter (digits_value 10 a.digits))) (λ next. said_with next args) ≡ Err (Number k) → ⊥
    by_added true more is = let e : Repeated a.letter ≡ Number k = cc in cc
    by_added false more is = more (with_number said a.letter (digits_value 10 a.digits)) is

-- the first byte decides whether a parity stands
after_plain : (c : ℕ) (rest : List ℕ) → is_ascii_digit c ≡ false → after_name (c ∷ rest) ≡ arguments (opened 1) 5 (c ∷ rest)
after_plain c rest is = grind (arith, nat_tests)

after_parity : (c : ℕ) (rest : List ℕ) → is_in_range 49 51 c ≡ true → after_name (c ∷ rest) ≡ arguments (opened (c - 48)) 6 rest
after_parity c rest is = grind (arith, nat_tests)

plain_again : (front : List ℕ) (c : ℕ) (rest more text : List ℕ) → ((c : ℕ) (rest : List ℕ) → text ≡ c ∷ rest → is_ascii_digit c ≡ false)
    → text ≡ front ++ (c ∷ rest) → after_name (front ++ (c ∷ more)) ≡ arguments (opened 1) 5 (front ++ (c ∷ more))
plain_again [] c rest more text first is = after_plain c more (first c rest is)
plain_again (b ∷ front) c rest more text first is = after_plain b (front ++ (c ∷ more)) (first b (front ++ (c ∷ rest)) is)

-- a text that departs from the grammar behind its opening
leaves : (text head rest : List ℕ) (parity : Option ℕ) (start k : ℕ) → text ≡ codes "draid" ++ (head ++ rest) → Opening head parity → start ≡ 5 + length head
    → said_by text ≡ Err (Number k)
    → ((front : List ℕ) (c : ℕ) (r more : List ℕ) → rest ≡ front ++ (c ∷ r)
    → after_name (head ++ (front ++ (c ∷ more))) ≡ arguments (opened (parity_of parity)) start (front ++ (c ∷ more)))
    → Departs (nothing_said (parity_of parity)) None start rest k → Leaves text k
leaves text head rest parity start k is o starts_at read again d =
    let whole : Wholes (d.front ++ d.more) = d.follows in
    let place : k ≡ start + length d.front = d.place in
    let lengths : length (codes "draid" ++ (head ++ d.front)) ≡ 5 + (length head + length d.front)
    = length-append (codes "draid") (head ++ d.front) ∙ ap (λ n. 5 + n) (length-append head d.front) in
    record {
      front = codes "draid" ++ (head ++ d.front);
      back = d.back;
      cut = is ∙ ap (λ r. codes "draid" ++ r) (ap (λ r. head ++ r) d.is ∙ sym (append_assoc head d.front d.back));
      place = omega arith;
      before = record {
        parts = record { parity = parity; arguments = whole.arguments };
        is_parts = record { parity = o.range; arguments = whole.all };
        more = d.more;
        goes_on = ap (λ r. codes "draid" ++ r) (append_assoc head d.front d.more ∙ (ap (λ h. h ++ (d.front ++ d.more)) o.is ∙ ap (λ r. parity_digit parity ++ r) whole.is));
      };
      not_whole = λ parts is_parts e. says_no_number parts.arguments (nothing_said (parity_of parts.parity)) k
          (sym (text_read parts is_parts) ∙ (ap said_by (sym e) ∙ read));
      not_so = λ c r e f.
          let line : (codes "draid" ++ (head ++ d.front) ++ (c ∷ [])) ++ f.more ≡ codes "draid" ++ (head ++ (d.front ++ (c ∷ f.more)))
          = ap (λ r. codes "draid" ++ r) (append_assoc (head ++ d.front) (c ∷ []) f.more ∙ append_assoc head d.front (c ∷ f.more)) in
          let stuck : said_by (codes "draid" ++ (head ++ (d.front ++ (c ∷ f.more)))) ≡ Err (Number k)
          = again d.front c r f.more (d.is ∙ ap (λ b. d.front ++ b) e) ∙ d.stuck c r f.more e in
          says_no_number f.parts.arguments (nothing_said (parity_of f.parts.parity)) k
          (sym (text_read f.parts f.is_parts) ∙ (ap said_by (sym f.goes_on ∙ line) ∙ stuck));
    }

leaves_behind : (text rest : List ℕ) (k : ℕ) → text ≡ codes "draid" ++ rest → said_by text ≡ Err (Number k) → Behind rest (Err (Number k)) → Leaves text k
leaves_behind text rest k is said (plain first read) =
    leaves text [] rest None 5 k is (record { range = tt; is = refl }) refl said
    (λ front c r more e. plain_again front c r more rest first e) (departs rest (nothing_said 1) None 5 k tt read)
leaves_behind text rest k is said (digit c more cut range read) =
    leaves text (c ∷ []) more (Some (c - 48)) 6 k (is ∙ ap (λ r. codes "draid" ++ r) cut) (opening_digit c range) refl said
    (λ front b r x e. after_parity c (front ++ (b ∷ x)) range) (departs more (nothing_said (c - 48)) None 6 k tt read)
leaves_behind text rest k is said (other refusal) = absurd (let e : Parity ≡ Number k = cc in cc)

-- a number is refused exactly where the text leaves the grammar
pub text_left : (text : List ℕ) (k : ℕ) → said_by text ≡ Err (Number k) → Leaves text k
text_left text k is = by_case (by_start text (Err (Number k)) (starts_with nat_eq text (codes "draid")) refl is)
  where
    by_case : ((text ≡ codes "draid" ++ drop 5 text) × Behind (drop 5 text) (Err (Number k))) ⊎ (refused_name ≡ Err (Number k)) → Leaves text k
    by_case (inl p) = leaves_behind text (drop 5 text) k p.0 is p.1
    by_case (inr refusal) = absurd (let e : NotDraid ≡ Number k = cc in cc)
