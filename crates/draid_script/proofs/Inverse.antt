-- What is read says how the words were spelled.
use Rattle.std.proofs.Common.{◌≡◌, ℕ, ◌+◌, ◌-◌, ◌^◌, ◌<◌, ◌≤◌, ◌==◌, ◌&&◌, Bool, true, false, cond, find, nat_eq, nat_le, nat_lt, List, [], ◌∷◌, ◌++◌, length, drop, map, codes, Option, None, Some, Result, Ok, Err, refl, sym, ap, ◌∙◌, subst, inl, inr, arith}
use Rattle.draid_names.specs.declared.numbers.TheConstants.{LONGEST_BLOCK}
use Rattle.std.specs.Fmt.{decimal}
use Rattle.std.specs.List.{starts_with}
use Rattle.std.specs.Option.{ok_or}
use Rattle.std.specs.Str.{bytes_eq}
use Rattle.std.proofs.lemmas.Bool.{and_parts, cases_Bool, cond-false, cond-true, eqb-true, leb-true, ltb-true}
use Rattle.std.proofs.lemmas.Fmt.{decimal_digit}
use Rattle.std.proofs.lemmas.Slice.Eq.{bytes_eq-Decides, starts_is}
use Rattle.std.proofs.lemmas.Bool.Decides.{Decides-eqb}
use Rattle.draid_script.specs.declared.fault.LineFault.{LineFault}
use Rattle.draid_script.specs.declared.fault.LineFaultKind.TheVariants as why
use Rattle.draid_script.specs.declared.line.ArmArgument.{ArmArgument}
use Rattle.draid_script.specs.declared.line.ArmArgument.TheVariants.{Leaf, Spare}
use Rattle.draid_script.specs.declared.name.CommandName.{CommandName}
use Rattle.draid_script.specs.Fault.{fault, ◌>>=◌}
use Rattle.draid_script.specs.Field.{arm_at, block_at, count_at, number_at, number_in, spare_behind, within}
use Rattle.draid_script.specs.Grammar.{limit_at, one_number, two_numbers}
use Rattle.draid_script.specs.Line.{IsArmArgument, IsLimit, most_objects}
use Rattle.draid_script.specs.Name.{all_names, arm_of, name_of, name_text}
use Rattle.draid_script.specs.Word.{Placed, bytes_of, number_of}
use Rattle.draid_script.specs.Writing.{optional}
use Rattle.draid_script.proofs.Numbers.{decimal_of_number}

-- a first step that gave a value, and the second
pub then_inv : {A B : Type 0} (r : Result A LineFault) (f : A → Result B LineFault) (y : B) → (r >>= f) ≡ Ok y → (x : A) × (r ≡ Ok x) × (f x ≡ Ok y)
then_inv (Ok x) f y gives = (x, refl, gives)
then_inv (Err e) f y gives = cc

pub or_inv : {A : Type 0} (o : Option A) (e : LineFault) (x : A) → ok_or o e ≡ Ok x → o ≡ Some x
or_inv None e x gives = cc
or_inv (Some y) e x gives = cc

-- a test that was passed
pub guard_inv : {A : Type 0} (b : Bool) (x y : A) (e : LineFault) → cond b (Ok x) (Err e) ≡ Ok y → (b ≡ true) × (x ≡ y)
guard_inv true x y e gives = (refl, cc)
guard_inv false x y e gives = cc

pub number_inv : (word : Placed) (n : ℕ) → number_at word ≡ Ok n → (word.text ≡ decimal n) × (n < 2 ^ 64)
number_inv word n gives =
    let said = decimal_of_number word.text n (or_inv (number_of word.text) (fault why.Number word.at) n gives) in
    (said.1, said.0)

pub in_inv : (low limit : ℕ) (word : Placed) (n : ℕ) → number_in low limit word ≡ Ok n → (word.text ≡ decimal n) × (low ≤ n) × (n < limit)
in_inv low limit word n gives =
    let read = then_inv (number_at word) (within low limit word.at) n gives in
    let spelled = number_inv word read.0 read.1 in
    let test = guard_inv (nat_le low read.0 && nat_lt read.0 limit) read.0 n (fault why.Range word.at) read.2 in
    let parts = and_parts (nat_le low read.0) (nat_lt read.0 limit) test.0 in
    (spelled.0 ∙ ap decimal test.1, omega (arith, leb-true low read.0 parts.0, test.1), omega (arith, ltb-true read.0 limit parts.1, test.1))

pub count_inv : (first : ℕ) (word : Placed) (n : ℕ) → count_at first word ≡ Ok n → (word.text ≡ decimal n) × (1 ≤ n) × (n ≤ most_objects) × (first + n ≤ 2 ^ 32)
count_inv first word n gives =
    let read = then_inv (number_in 1 (most_objects + 1) word) _ n gives in
    let spelled = in_inv 1 (most_objects + 1) word read.0 read.1 in
    let test = guard_inv (nat_le (first + read.0) (2 ^ 32)) read.0 n (fault why.Range word.at) read.2 in
    (spelled.0 ∙ ap decimal test.1, omega (arith, spelled.1, test.1), omega (arith, spelled.2, test.1), omega (arith, leb-true (first + read.0) (2 ^ 32) test.0, test.1))

-- the texts of words
abbrev pub texts : List Placed → List (List ℕ)
texts words = map (λ word. word.text) words

pub one_inv : (limit end : ℕ) (words : List Placed) (n : ℕ) → one_number limit end words ≡ Ok n → (texts words ≡ decimal n ∷ []) × (n < limit)
one_inv limit end [] n gives = cc
one_inv limit end (word ∷ []) n gives =
    let spelled = in_inv 0 limit word n gives in
    (ap (λ (text : List ℕ). text ∷ []) spelled.0, spelled.2)
one_inv limit end (word ∷ next ∷ words) n gives = cc

pub two_inv : (limit limit' end : ℕ) (words : List Placed) (p : ℕ × ℕ) → two_numbers limit limit' end words ≡ Ok p → (texts words ≡ decimal p.0 ∷ decimal p.1 ∷ []) × (p.0 < limit) × (p.1 < limit')
two_inv limit limit' end [] p gives = cc
two_inv limit limit' end (word ∷ []) p gives = cc
two_inv limit limit' end (word ∷ word' ∷ []) p gives =
    let first = then_inv (number_in 0 limit word) _ p gives in
    let second = then_inv (number_in 0 limit' word') _ p first.2 in
    let spelled = in_inv 0 limit word first.0 first.1 in
    let spelled' = in_inv 0 limit' word' second.0 second.1 in
    let same : (first.0, second.0) ≡ p = cc in
    let P : ℕ × ℕ → Type 0 = λ p. (texts (word ∷ word' ∷ []) ≡ decimal p.0 ∷ decimal p.1 ∷ []) × (p.0 < limit) × (p.1 < limit') in
    subst P same (ap (λ (t : List ℕ). t ∷ word'.text ∷ []) spelled.0 ∙ ap (λ (t : List ℕ). decimal first.0 ∷ t ∷ []) spelled'.0, spelled.2, spelled'.2)
two_inv limit limit' end (word ∷ word' ∷ next ∷ words) p gives = cc

pub limit_inv : (end : ℕ) (words : List Placed) (limit : Option ℕ) → limit_at end words ≡ Ok limit → (texts words ≡ optional limit) × IsLimit limit
limit_inv end [] limit gives =
    let same : None ≡ limit = cc in
    let P : Option ℕ → Type 0 = λ l. ([] ≡ optional l) × IsLimit l in
    subst P same (refl, tt)
limit_inv end (word ∷ []) limit gives =
    let read = then_inv (number_in 1 (2 ^ 48) word) _ limit gives in
    let spelled = in_inv 1 (2 ^ 48) word read.0 read.1 in
    let same : Some read.0 ≡ limit = cc in
    let P : Option ℕ → Type 0 = λ l. (texts (word ∷ []) ≡ optional l) × IsLimit l in
    subst P same (ap (λ (t : List ℕ). t ∷ []) spelled.0, (spelled.1, spelled.2))
limit_inv end (word ∷ next ∷ words) limit gives = cc

-- the bytes of a block are spelled in hex
pub block_inv : (end : ℕ) (word : Placed) (bytes : List ℕ) → block_at end word ≡ Ok bytes → (bytes_of word.text ≡ Some bytes) × (length bytes ≤ LONGEST_BLOCK)
block_inv end word bytes gives =
    let read = then_inv _ _ bytes gives in
    let test = guard_inv (nat_le (length read.0) LONGEST_BLOCK) read.0 bytes (fault why.Range word.at) read.2 in
    (or_inv (bytes_of word.text) _ read.0 read.1 ∙ ap (λ (b : List ℕ). Some b) test.1, omega (arith, leb-true (length read.0) LONGEST_BLOCK test.0, ap length test.1))

-- the first word of a command
find_passes : {A : Type 0} (p : A → Bool) (xs : List A) (x : A) → find p xs ≡ Some x → p x ≡ true
find_passes p [] x found = cc
find_passes {A = A} p (y ∷ ys) x found =
    elim (cases_Bool (p y)) [
      | inl passes ↦
          let same : Some y ≡ Some x = sym (cond-true (p y) (Some y) (find p ys) passes) ∙ found in
          let here : y ≡ x = cc in
          let P : A → Type 0 = λ z. p z ≡ true in
          subst P here passes
      | inr fails ↦ find_passes p ys x (sym (cond-false (p y) (Some y) (find p ys) fails) ∙ found)
    ]

pub name_inv : (text : List ℕ) (n : CommandName) → name_of text ≡ Some n → text ≡ name_text n
unfolding name_of
name_inv text n found = sym ((bytes_eq-Decides (name_text n) text).0 (find_passes (λ name. bytes_eq (name_text name) text) all_names n found))

-- a choice that isn't refused
pub cond_inv : {A : Type 0} (b : Bool) (r : Result A LineFault) (e : LineFault) (y : A) → cond b r (Err e) ≡ Ok y → (b ≡ true) × (r ≡ Ok y)
cond_inv true r e y gives = (refl, gives)
cond_inv false r e y gives = cc

-- an arm is spelled as `detach` names it
spare_inv : (at : ℕ) (rest : List ℕ) (arm : ArmArgument) → spare_behind at rest ≡ Ok arm → (codes "draid" ++ rest ≡ arm_of arm) × IsArmArgument arm
spare_inv at [] arm gives = cc
spare_inv at (parity ∷ []) arm gives = cc
spare_inv at (parity ∷ dash ∷ []) arm gives = cc
spare_inv at (parity ∷ dash ∷ vdev ∷ []) arm gives = cc
spare_inv at (parity ∷ dash ∷ vdev ∷ dash' ∷ number) arm gives =
    let word : Placed = record { text = number; at = at } in
    let chosen = cond_inv (nat_le 49 parity && nat_le parity 51 && dash == 45 && vdev == 48 && dash' == 45) _ _ arm gives in
    let last = and_parts (nat_le 49 parity && nat_le parity 51 && dash == 45 && vdev == 48) (dash' == 45) chosen.0 in
    let middle = and_parts (nat_le 49 parity && nat_le parity 51 && dash == 45) (vdev == 48) last.0 in
    let first = and_parts (nat_le 49 parity && nat_le parity 51) (dash == 45) middle.0 in
    let range = and_parts (nat_le 49 parity) (nat_le parity 51) first.0 in
    let low : 49 ≤ parity = leb-true 49 parity range.0 in
    let high : parity ≤ 51 = leb-true parity 51 range.1 in
    let read = then_inv (number_in 0 (2 ^ 32) word) _ arm chosen.1 in
    let spelled = in_inv 0 (2 ^ 32) word read.0 read.1 in
    let one : dash ≡ 45 = eqb-true dash 45 first.1 in
    let two : vdev ≡ 48 = eqb-true vdev 48 middle.1 in
    let three : dash' ≡ 45 = eqb-true dash' 45 last.1 in
    let four : number ≡ decimal read.0 = spelled.0 in
    let digit : decimal (parity - 48) ≡ (48 + (parity - 48)) ∷ [] = decimal_digit (parity - 48) (omega arith) in
    let back : 48 + (parity - 48) ≡ parity = omega arith in
    let same : Spare (parity - 48) read.0 ≡ arm = cc in
    let words : parity ∷ dash ∷ vdev ∷ dash' ∷ number ≡ parity ∷ 45 ∷ 48 ∷ 45 ∷ decimal read.0 = cc in
    let P : ArmArgument → Type 0 = λ a. (codes "draid" ++ (parity ∷ dash ∷ vdev ∷ dash' ∷ number) ≡ arm_of a) × IsArmArgument a in
    subst P same (
      ap (λ (ws : List ℕ). codes "draid" ++ ws) (words ∙ ap (λ (p : ℕ). p ∷ 45 ∷ 48 ∷ 45 ∷ decimal read.0) (sym back)) ∙ ap (λ (ds : List ℕ). codes "draid" ++ (ds ++ (codes "-0-" ++ decimal read.0))) (sym digit),
      (omega arith, omega arith, spelled.2),
    )

pub arm_inv : (word : Placed) (arm : ArmArgument) → arm_at word ≡ Ok arm → (word.text ≡ arm_of arm) × IsArmArgument arm
arm_inv word arm gives =
    let starts = starts_with nat_eq word.text (codes "draid") in
    elim (cases_Bool (starts_with nat_eq word.text (codes "draid"))) [
      | inl passes ↦
          let whole : word.text ≡ codes "draid" ++ drop 5 word.text = (starts_is Decides-eqb word.text (codes "draid") starts refl).0 passes in
          let spare = spare_inv word.at (drop 5 word.text) arm (sym (cond-true starts _ _ passes) ∙ gives) in
          (whole ∙ spare.0, spare.1)
      | inr fails ↦
          let read = then_inv (number_in 0 (2 ^ 48) word) (λ leaf. Ok (Leaf leaf)) arm (sym (cond-false starts (spare_behind word.at (drop 5 word.text)) _ fails) ∙ gives) in
          let spelled = in_inv 0 (2 ^ 48) word read.0 read.1 in
          let same : Leaf read.0 ≡ arm = cc in
          let P : ArmArgument → Type 0 = λ a. (word.text ≡ arm_of a) × IsArmArgument a in
          subst P same (spelled.0, spelled.2)
    ]
