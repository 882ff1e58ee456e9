-- What a grammar spells is what is read by it.
use Rattle.std.proofs.Common.{◌≡◌, ℕ, ◌+◌, ◌^◌, ◌<◌, ◌≤◌, Bool, true, false, cond, ltb, leb, List, [], ◌++◌, length, take, drop, Result, Ok, Err, refl, sym, ap, ap₂, subst, ◌∙◌, append_assoc, arith}
use Rattle.std.specs.Prelude.{◌&&◌}
use Rattle.std.proofs.lemmas.Bool.{ltb-false, le-ltb}
use Rattle.std.proofs.lemmas.Bool.Decides.{nat_tests}
use Rattle.std.proofs.lemmas.List.{take_at, drop_at, take-append-drop, length-append, length-take, get_or-drop}
use Rattle.byteorder.specs.Endian.{big_bytes, big_number}
use Rattle.byteorder.specs.Numbers.{big_from-lt, big_number-reads_back, length-bytes_high_first}
use Rattle.draid_record.specs.declared.fault.Fault.{Fault}
use Rattle.draid_record.specs.Grammar.{Grammar, Done, Number, Bytes, Check, Spells, ◌>>=◌}
use Rattle.draid_record.specs.Reading.{bytes_at, cut, number_at, range, read, then_read}
use Rattle.draid_record.proofs.Digits.{IsBytes, written_back}

then_assoc : {A B C : Type 0} (r : Result A Fault) (f : A → Result B Fault) (g : B → Result C Fault) → then_read (then_read r f) g ≡ then_read r (λ x. then_read (f x) g)
then_assoc (Ok x) f g = refl
then_assoc (Err e) f g = refl

then_same : {A B : Type 0} (r : Result A Fault) (f g : A → Result B Fault) → ((x : A) → f x ≡ g x) → then_read r f ≡ then_read r g
then_same (Ok x) f g same = same x
then_same (Err e) f g same = refl

-- one grammar and another behind it are read one after the other
pub read_then : {A B : Type 0} (g : Grammar A) (f : A → Grammar B) (bytes : List ℕ) → read (g >>= f) bytes ≡ then_read (read g bytes) (λ x. read (f x.0) x.1)
unfolding read
read_then (Done x) f bytes = refl
read_then (Number width low high next) f bytes =
    then_same (number_at width low high bytes) _ _ (λ n. read_then (next n.0) f n.1)
    ∙ sym (then_assoc (number_at width low high bytes) (λ n. read (next n.0) n.1) (λ x. read (f x.0) x.1))
read_then (Bytes width next) f bytes =
    then_same (bytes_at width bytes) _ _ (λ n. read_then (next n.0) f n.1)
    ∙ sym (then_assoc (bytes_at width bytes) (λ n. read (next n.0) n.1) (λ x. read (f x.0) x.1))
read_then (Check true back next) f bytes = read_then next f bytes
read_then (Check false back next) f bytes = refl

-- ---- what is spelled is read

number_again : (width low high n : ℕ) (rest : List ℕ) → n < 256 ^ width → low ≤ n → n ≤ high → number_at width low high (big_bytes width n ++ rest) ≡ Ok (n, rest)
number_again width low high n rest small above below =
    let len = length-bytes_high_first width n in
    let long : ltb (length (big_bytes width n ++ rest)) width ≡ false = le-ltb _ _ (omega (arith, length-append (big_bytes width n) rest)) in
    let back = big_number-reads_back width n rest small in
    let test : (leb low n && leb n high) ≡ true = grind (arith, nat_tests) in
    rw (long, back, test, drop_at (big_bytes width n) rest width len) refl

bytes_again : (width : ℕ) (front rest : List ℕ) → length front ≡ width → bytes_at width (front ++ rest) ≡ Ok (front, rest)
bytes_again width front rest len =
    let long : ltb (length (front ++ rest)) width ≡ false = le-ltb _ _ (omega (arith, length-append front rest)) in
    rw (long, take_at front rest width len, drop_at front rest width len) refl

pub read_again : {A : Type 0} (g : Grammar A) (front rest : List ℕ) (value : A) → Spells g front value → read g (front ++ rest) ≡ Ok (value, rest)
unfolding read Spells
read_again (Done x) front rest value is = ap₂ (λ bytes v. Ok (v, bytes ++ rest)) is.0 (sym is.1)
read_again (Number width low high next) front rest value is =
    let n = is.0 in
    let behind = is.1 in
    let parts : front ++ rest ≡ big_bytes width n ++ (behind ++ rest) = ap (λ bytes. bytes ++ rest) is.2 ∙ append_assoc (big_bytes width n) behind rest in
    ap (λ bytes. then_read (number_at width low high bytes) (λ n. read (next n.0) n.1)) parts
    ∙ ap (λ r. then_read r (λ n. read (next n.0) n.1)) (number_again width low high n (behind ++ rest) is.3 is.4 is.5)
    ∙ read_again (next n) behind rest value is.6
read_again (Bytes width next) front rest value is =
    let first = is.0 in
    let behind = is.1 in
    let parts : front ++ rest ≡ first ++ (behind ++ rest) = ap (λ bytes. bytes ++ rest) is.2 ∙ append_assoc first behind rest in
    ap (λ bytes. then_read (bytes_at width bytes) (λ n. read (next n.0) n.1)) parts
    ∙ ap (λ r. then_read r (λ n. read (next n.0) n.1)) (bytes_again width first (behind ++ rest) is.3)
    ∙ read_again (next first) behind rest value is.4
read_again (Check holds back next) front rest value is = rw is.0 (read_again next front rest value is.1)

-- ---- what is read is spelled

-- what was taken from the front of bytes
pub record Takes {A : Type 0} (g : Grammar A) (bytes rest : List ℕ) (value : A) : Type 0 where
  pub front : List ℕ
  pub parts : bytes ≡ front ++ rest
  pub spelled : Spells g front value

IsBytes-drop : (n : ℕ) (bytes : List ℕ) → IsBytes bytes → IsBytes (drop n bytes)
IsBytes-drop n bytes h i = rw get_or-drop (h (n + i))

then_ok : {A B : Type 0} (r : Result A Fault) (f : A → Result B Fault) (y : B) → then_read r f ≡ Ok y → (x : A) × (r ≡ Ok x) × (f x ≡ Ok y)
then_ok (Ok x) f y e = (x, refl, e)
then_ok (Err d) f y e = absurd cc

done : {A : Type 0} → A → Result A Fault
done x = Ok x

ok_is : {A : Type 0} (x y : A) → done x ≡ done y → x ≡ y
unfolding done
ok_is x y e = cc

two_tests : {X : Type 0} (a b : Bool) (e d : Fault) (x y : X) → cond a (Err e) (cond b (Ok x) (Err d)) ≡ Ok y → (a ≡ false) × (b ≡ true) × (x ≡ y)
two_tests true b e d x y h = absurd cc
two_tests false true e d x y h = (refl, refl, cc)
two_tests false false e d x y h = absurd cc

one_test : {X : Type 0} (a : Bool) (e : Fault) (x y : X) → cond a (Err e) (Ok x) ≡ Ok y → (a ≡ false) × (x ≡ y)
one_test true e x y h = absurd cc
one_test false e x y h = (refl, cc)

-- a number that was read
record IsNumber (width low high : ℕ) (bytes rest : List ℕ) (n : ℕ) : Type 0 where
  parts : bytes ≡ big_bytes width n ++ rest
  small : n < 256 ^ width
  above : low ≤ n
  below : n ≤ high
  rest_fits : IsBytes rest

number_is : (width low high : ℕ) (bytes : List ℕ) (x : ℕ × List ℕ) → IsBytes bytes → number_at width low high bytes ≡ Ok x → IsNumber width low high bytes x.1 x.0
number_is width low high bytes x fits e =
    let t = two_tests (ltb (length bytes) width) (leb low (big_number width bytes) && leb (big_number width bytes) high) (cut (length bytes)) (range (length bytes)) (big_number width bytes, drop width bytes) x e in
    let long : width ≤ length bytes = ltb-false _ _ t.0 in
    let test = t.1 in
    let above : low ≤ big_number width bytes = grind (arith, nat_tests) in
    let below : big_number width bytes ≤ high = grind (arith, nat_tests) in
    subst (λ (y : ℕ × List ℕ). IsNumber width low high bytes y.1 y.0) t.2
    (record {
      parts = sym (take-append-drop width bytes) ∙ ap (λ bs. bs ++ drop width bytes) (sym (written_back width 0 bytes fits (omega arith)));
      small = big_from-lt 0 width bytes fits;
      above = above;
      below = below;
      rest_fits = IsBytes-drop width bytes fits;
    })

pub read_takes : {A : Type 0} (g : Grammar A) (bytes : List ℕ) (x : A × List ℕ) → IsBytes bytes → read g bytes ≡ Ok x → Takes g bytes x.1 x.0
unfolding read Spells done
read_takes {A = A} (Done v) bytes x fits e =
    subst (λ (y : A × List ℕ). Takes (Done v) bytes y.1 y.0) (ok_is (v, bytes) x e) (record { front = []; parts = refl; spelled = (refl, refl) })
read_takes (Number width low high next) bytes x fits e =
    let s = then_ok (number_at width low high bytes) (λ n. read (next n.0) n.1) x e in
    let n = number_is width low high bytes s.0 fits s.1 in
    let rest = read_takes (next s.0.0) s.0.1 x n.rest_fits s.2 in
    record {
      front = big_bytes width s.0.0 ++ rest.front;
      parts = n.parts ∙ ap (λ bs. big_bytes width s.0.0 ++ bs) rest.parts ∙ sym (append_assoc (big_bytes width s.0.0) rest.front x.1);
      spelled = (s.0.0, rest.front, refl, n.small, n.above, n.below, rest.spelled);
    }
read_takes (Bytes width next) bytes x fits e =
    let s = then_ok (bytes_at width bytes) (λ n. read (next n.0) n.1) x e in
    let t = one_test (ltb (length bytes) width) (cut (length bytes)) (take width bytes, drop width bytes) s.0 s.1 in
    let long : width ≤ length bytes = ltb-false _ _ t.0 in
    let front_is : take width bytes ≡ s.0.0 = ap (λ (p : List ℕ × List ℕ). p.0) t.1 in
    let rest_is : drop width bytes ≡ s.0.1 = ap (λ (p : List ℕ × List ℕ). p.1) t.1 in
    let rest = read_takes (next s.0.0) s.0.1 x (subst IsBytes rest_is (IsBytes-drop width bytes fits)) s.2 in
    record {
      front = s.0.0 ++ rest.front;
      parts = sym (take-append-drop width bytes) ∙ ap₂ (λ a b. a ++ b) front_is rest_is ∙ ap (λ bs. s.0.0 ++ bs) rest.parts ∙ sym (append_assoc s.0.0 rest.front x.1);
      spelled = (s.0.0, rest.front, refl, ap length (sym front_is) ∙ omega (arith, length-take width bytes), rest.spelled);
    }
read_takes (Check true back next) bytes x fits e =
    let rest = read_takes next bytes x fits e in
    record { front = rest.front; parts = rest.parts; spelled = (refl, rest.spelled) }
read_takes (Check false back next) bytes x fits e = absurd cc

-- what two grammars spell one behind the other
pub spells_then : {A B : Type 0} (g : Grammar A) (f : A → Grammar B) (front rest : List ℕ) (x : A) (y : B) → Spells g front x → Spells (f x) rest y → Spells (g >>= f) (front ++ rest) y
unfolding Spells
spells_then {A = A} (Done v) f front rest x y is more =
    subst (λ (bytes : List ℕ). Spells (f v) (bytes ++ rest) y) (sym is.0) (subst (λ (z : A). Spells (f z) rest y) is.1 more)
spells_then (Number width low high next) f front rest x y is more =
    (is.0, is.1 ++ rest, ap (λ bytes. bytes ++ rest) is.2 ∙ append_assoc (big_bytes width is.0) is.1 rest, is.3, is.4, is.5, spells_then (next is.0) f is.1 rest x y is.6 more)
spells_then (Bytes width next) f front rest x y is more =
    (is.0, is.1 ++ rest, ap (λ bytes. bytes ++ rest) is.2 ∙ append_assoc is.0 is.1 rest, is.3, spells_then (next is.0) f is.1 rest x y is.4 more)
spells_then (Check holds back next) f front rest x y is more = (is.0, spells_then next f front rest x y is.1 more)
