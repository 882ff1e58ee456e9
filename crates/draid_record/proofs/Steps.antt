-- What a reader found one after another.
use Rattle.std.proofs.Common.{◌≡◌, ◌+◌, ℕ, Bool, false, List, Result, Ok, Err, refl, sym, ap, subst, ◌∙◌, arith}
use Rattle.std.specs.Prelude.{IfOk, is_err}
use Rattle.std.proofs.lemmas.Bool.{false≢true}
use Rattle.draid_record.specs.declared.fault.Fault.{Fault}
use Rattle.draid_record.specs.Grammar.{Grammar, Done, Number, Bytes, Check, ◌>>=◌, check, number, text}
use Rattle.draid_record.specs.Reader.{Reads, State, Took}
use Rattle.draid_record.specs.Reading.{read, then_read}
use Rattle.draid_record.proofs.Laws.{read_then}

abbrev pub fault_is : {A : Type 0} → Fault → Result A Fault
fault_is e = Err e

pub same_fault : {A : Type 0} (e d : Fault) → fault_is {A = A} e ≡ fault_is {A = A} d → e ≡ d
same_fault e d same = cc

-- no value is a fault
pub never : {A : Type 0} (x : A) (e : Fault) → fault_is {A = A} e ≡ Ok x → ⊥
never x e same = cc

pub joins : {A B : Type 0} (g : Grammar A) (f : A → Grammar B) (a b c : State) (x : A) (y : B) → Reads a b x g → Reads b c y (f x) → Reads a c y (g >>= f)
joins g f (Ok bytes) (Ok rest) c x y first behind = record { is = read_then g f bytes ∙ ap (λ r. then_read r (λ p. read (f p.0) p.1)) first.is ∙ behind.is }
joins g f (Ok bytes) (Err d) c x y first behind = record { is = read_then g f bytes ∙ ap (λ r. then_read r (λ p. read (f p.0) p.1)) first.is ∙ behind.is }
joins g f (Err e) (Ok rest) c x y first behind = absurd (never (x, rest) e first.is)
joins {A = A} g f (Err e) (Err d) c x y first behind = record { is = ap Err (same_fault {A = A × List ℕ} e d first.is) ∙ behind.is }

pub number_then : {A : Type 0} (width low high low' high' : ℕ) (next : ℕ → Grammar A) (a b c : State) (n : ℕ) (y : A) → low' ≡ low → high' ≡ high
    → Reads a b n (number width low' high') → Reads b c y (next n) → Reads a c y (Number width low high next)
number_then width low high low' high' next a b c n y low_is high_is first behind =
    let low_too : Reads a b n (number width low high') = subst (λ l. Reads a b n (number width l high')) low_is first in
    joins (number width low high) next a b c n y (subst (λ h. Reads a b n (number width low h)) high_is low_too) behind

pub check_then : {A : Type 0} (holds test : Bool) (back : ℕ) (next : Grammar A) (a b c : State) (y : A) → test ≡ holds
    → Reads a b tt (check test back) → Reads b c y next → Reads a c y (Check holds back next)
check_then holds test back next a b c y same first behind =
    joins (check holds back) (λ _. next) a b c tt y (subst (λ t. Reads a b tt (check t back)) same first) behind

-- the same, where the place of the field is known by another sum
pub check_back : {A : Type 0} (holds test : Bool) (back back' : ℕ) (next : Grammar A) (a b c : State) (y : A) → test ≡ holds → back' ≡ back
    → Reads a b tt (check test back') → Reads b c y next → Reads a c y (Check holds back next)
check_back holds test back back' next a b c y same at_is first behind =
    check_then holds test back next a b c y same (subst (λ n. Reads a b tt (check test n)) at_is first) behind

pub check_if : {A : Type 0} (holds test : Bool) (back : ℕ) (next : Grammar A) (a b c : State) (y : A) → IfOk a (λ _. test ≡ holds)
    → Reads a b tt (check test back) → Reads b c y next → Reads a c y (Check holds back next)
check_if holds test back next (Ok bytes) b c y same first behind = check_then holds test back next (Ok bytes) b c y same first behind
check_if holds test back next (Err e) b c y same first behind = check_then holds holds back next (Err e) b c y refl (record { is = first.is }) behind

pub text_then : {A : Type 0} (width : ℕ) (next : List ℕ → Grammar A) (a b c : State) (t : List ℕ) (y : A) → Reads a b t (text width) → Reads b c y (next t) → Reads a c y (Bytes width next)
text_then width next a b c t y first behind = joins (text width) next a b c t y first behind

pub done : {A : Type 0} (a : State) (x : A) → Reads a a x (Done x)
unfolding read
done a x = record { is = refl }

-- ---- what holds where there was no fault

pub kept : {A : Type 0} (P : Type 0) (g : Grammar A) (a b : State) (x : A) → Reads a b x g → IfOk a (λ _. P) → IfOk b (λ _. P)
kept P g (Ok bytes) (Ok rest) x reads p = p
kept P g a (Err d) x reads p = tt
kept P g (Err e) (Ok rest) x reads p = absurd (never (x, rest) e reads.is)

pub both : (P Q : Type 0) (a : State) → IfOk a (λ _. P) → IfOk a (λ _. Q) → IfOk a (λ _. P × Q)
both P Q (Ok bytes) p q = (p, q)
both P Q (Err d) p q = tt

pub so : (P Q : Type 0) (a : State) → (P → Q) → IfOk a (λ _. P) → IfOk a (λ _. Q)
so P Q (Ok bytes) f p = f p
so P Q (Err d) f p = tt

pub of_ok : (P : Type 0) (a : State) → is_err a ≡ false → IfOk a (λ _. P) → P
of_ok P (Ok bytes) ok p = p
of_ok P (Err d) ok p = absurd (false≢true (sym ok))

pub took_more : (m n : ℕ) (a b c : State) → Took m a b → Took n b c → Took (m + n) a c
took_more m n a b (Err d) first behind = tt
took_more m n (Ok x) (Ok y) (Ok z) first behind = omega arith
took_more m n (Err e) (Ok y) (Ok z) first behind = first
took_more m n a (Err e) (Ok z) first behind = absurd behind

-- ---- a reader that may run out of memory, behind a number

pub number_ok : {A X E : Type 0} (width low high low' high' : ℕ) (next : ℕ → Grammar A) (a b c : State) (n : ℕ) (view : X → A) (r : Result X E) → low' ≡ low → high' ≡ high
    → Reads a b n (number width low' high') → IfOk r (λ x. Reads b c (view x) (next n)) → IfOk r (λ x. Reads a c (view x) (Number width low high next))
number_ok width low high low' high' next a b c n view (Ok x) low_is high_is first behind = number_then width low high low' high' next a b c n (view x) low_is high_is first behind
number_ok width low high low' high' next a b c n view (Err e) low_is high_is first behind = tt
