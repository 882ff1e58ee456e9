-- A slot that is read has an open gate, and its group where groups stand.
use Rattle.std.proofs.Common.{arith, ◌≡◌, ◌≤◌, ◌&&◌, ℕ, Bool, true, false, nat_le, nat_lt, List, [], ◌∷◌, Result, Ok, Err, length, drop, slice_index_or, refl, sym, ◌∙◌, ap, subst, if◌then◌else◌}
use Rattle.std.proofs.lemmas.Bool.Decides.{nat_tests}
use Rattle.byteorder.specs.Endian.{big_number}
use Rattle.draid_record.specs.declared.fault.Fault.{Fault}
use Rattle.draid_record.specs.declared.fault.RecordFault.{RecordFault}
use Rattle.draid_record.specs.declared.uber.UberBody.{UberBody}
use Rattle.draid_record.specs.Grammar.{Grammar, Done, Number, Bytes, Check}
use Rattle.draid_record.specs.Reading.{bytes_at, cut, number_at, range, read, then_read}
use Rattle.draid_record.specs.Uber.{behind_head, told, uber}

-- ---- what a grammar reads
then_ok : {A B : Type 0} (r : Result A Fault) (f : A → Result B Fault) (y : B) → then_read r f ≡ Ok y → (x : A) × (r ≡ Ok x) × (f x ≡ Ok y)
then_ok (Ok x) f y e = (x, refl, e)
then_ok (Err w) f y e = absurd (cc)

abbrev pub result_ok : {A : Type 0} → A → Result A Fault
result_ok x = Ok x

ok_is : {A : Type 0} (x y : A) → result_ok x ≡ Ok y → x ≡ y
ok_is x y e = cc

number_parts : (short fits : Bool) (n : ℕ) (rest : List ℕ) (left : ℕ) (x : ℕ × List ℕ) → (if short then Err (cut left) else if fits then Ok (n, rest) else Err (range left)) ≡ Ok x → (short ≡ false) × (fits ≡ true) × (x ≡ (n, rest))
number_parts true fits n rest left x e = absurd (cc)
number_parts false true n rest left x e = (refl, refl, cc)
number_parts false false n rest left x e = absurd (cc)

record Step (width low high : ℕ) (bytes : List ℕ) (n : ℕ) : Type 0 where
  pub is : n ≡ big_number width bytes
  pub low_is : low ≤ n
  pub high_is : n ≤ high
  pub long : width ≤ length bytes

number_step : {A : Type 0} (width low high : ℕ) (next : ℕ → Grammar A) (bytes : List ℕ) (x : A × List ℕ) → read (Number width low high next) bytes ≡ Ok x
    → (n : ℕ) × Step width low high bytes n × (read (next n) (drop width bytes) ≡ Ok x)
unfolding read
number_step width low high next bytes x e =
    let s = then_ok (number_at width low high bytes) (λ n. read (next n.0) n.1) x e in
    let t = number_parts (nat_lt (length bytes) width) (nat_le low (big_number width bytes) && nat_le (big_number width bytes) high) (big_number width bytes) (drop width bytes) (length bytes) s.0 s.1 in
    let short = t.0 in
    let fits = t.1 in (
      big_number width bytes,
      record {
        is = refl;
        low_is = grind (arith, nat_tests);
        high_is = grind (arith, nat_tests);
        long = grind (arith, nat_tests);
      },
      subst (λ (p : ℕ × List ℕ). read (next p.0) p.1 ≡ Ok x) t.2 s.2,
    )

-- each value that a grammar gives has this
abbrev pub Gives : {A : Type 0} → (A → Type 0) → Grammar A → Type 0
Gives P (Done x) = P x
Gives P (Number width low high next) = (n : ℕ) → Gives P (next n)
Gives P (Bytes width next) = (bytes : List ℕ) → Gives P (next bytes)
Gives P (Check holds back next) = Gives P next

read_gives : {A : Type 0} (P : A → Type 0) (g : Grammar A) (bytes : List ℕ) (x : A × List ℕ) → Gives P g → read g bytes ≡ Ok x → P x.0
unfolding read
read_gives {A = A} P (Done v) bytes x all e = subst (λ (p : A × List ℕ). P p.0) (ok_is (v, bytes) x e) all
read_gives P (Number width low high next) bytes x all e =
    let s = then_ok (number_at width low high bytes) (λ n. read (next n.0) n.1) x e in
    read_gives P (next s.0.0) s.0.1 x (all s.0.0) s.2
read_gives P (Bytes width next) bytes x all e =
    let s = then_ok (bytes_at width bytes) (λ n. read (next n.0) n.1) x e in
    read_gives P (next s.0.0) s.0.1 x (all s.0.0) s.2
read_gives P (Check true back next) bytes x all e = read_gives P next bytes x all e
read_gives P (Check false back next) bytes x all e = absurd (cc)

check_step : {A : Type 0} (holds : Bool) (back : ℕ) (next : Grammar A) (bytes : List ℕ) (x : A × List ℕ) → read (Check holds back next) bytes ≡ Ok x → read next bytes ≡ Ok x
unfolding read
check_step true back next bytes x e = e
check_step false back next bytes x e = absurd (cc)

abbrev pub record_ok : {A : Type 0} → A → Result A RecordFault
record_ok x = Ok x

fault_ok : {A : Type 0} (x y : A) → record_ok x ≡ Ok y → x ≡ y
fault_ok x y e = cc

told_ok : {A : Type 0} (len : ℕ) (r : Result (A × List ℕ) Fault) (v : A) → told len r ≡ Ok v → (rest : List ℕ) × (r ≡ Ok (v, rest))
told_ok len (Ok x) v e = (x.1, ap (λ w. Ok (w, x.1)) (fault_ok x.0 v e))
told_ok len (Err f) v e = absurd (cc)

first_byte : (bytes : List ℕ) → big_number 1 bytes ≡ slice_index_or bytes 0 0
first_byte [] = refl
first_byte (b ∷ bytes) = omega (arith)

drops : (bytes : List ℕ) → drop 2 (drop 4 (drop 1 bytes)) ≡ drop 7 bytes
drops [] = refl
drops (a ∷ []) = refl
drops (a ∷ b ∷ []) = refl
drops (a ∷ b ∷ c ∷ []) = refl
drops (a ∷ b ∷ c ∷ d ∷ []) = refl
drops (a ∷ b ∷ c ∷ d ∷ e ∷ []) = refl
drops (a ∷ b ∷ c ∷ d ∷ e ∷ f ∷ []) = refl
drops (a ∷ b ∷ c ∷ d ∷ e ∷ f ∷ g) = refl

pub uber_front : (slot : ℕ) (bytes : List ℕ) (body : UberBody) → told (length bytes) (read (uber slot) bytes) ≡ Ok body → (slice_index_or bytes 0 0 ≡ 90) × (big_number 8 (drop 7 bytes) ≡ body.group)
unfolding uber
uber_front slot bytes body e =
    let t = told_ok (length bytes) (read (uber slot) bytes) body e in
    let gate = number_step 1 90 90 _ bytes (body, t.0) t.1 in
    let magic = number_step 4 1146770754 1146770754 _ (drop 1 bytes) (body, t.0) gate.2 in
    let version = number_step 2 1 2 _ (drop 4 (drop 1 bytes)) (body, t.0) magic.2 in
    let group = number_step 8 1 _ _ (drop 2 (drop 4 (drop 1 bytes))) (body, t.0) version.2 in
    let behind = check_step _ 8 _ _ (body, t.0) group.2 in
    let first = first_byte bytes in
    let is = gate.1.is in
    let low = gate.1.low_is in
    let high = gate.1.high_is in
    let same : body.group ≡ group.0 = read_gives (λ (b : UberBody). b.group ≡ group.0) (behind_head (version.0, group.0)) _ (body, t.0) (λ a b c d s h m l seed leaf. refl) behind in
    (omega (arith, first, is, low, high), ap (big_number 8) (sym (drops bytes)) ∙ sym group.1.is ∙ sym same)
