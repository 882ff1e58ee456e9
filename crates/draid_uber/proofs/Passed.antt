-- A call that stops with the fault of another one.
use Rattle.std.proofs.Common.{◌≡◌, ◌∙◌, Result, Ok, Err, ap, sym}
use Rattle.std.specs.Prelude.{IsErr, IsErrAnd, IsErrOf, OnErr}

-- it answers nothing
pub no_answer : {T E : Type 0} (r : Result T E) (x : T) → IsErr r → r ≡ Ok x → ⊥
no_answer r x refused is = cc

-- what it leaves
pub leaves : {T E : Type 0} (r : Result T E) (P : Type 0) → P → OnErr r P
leaves (Ok x) P p = tt
leaves (Err e) P p = p

-- and it has the fault that the other had
pub passed : {T U E : Type 0} (r : Result T E) (f w : E) → IsErrAnd r (λ y. y ≡ f) → IsErrOf r w → IsErrOf {T = U} (Err f) w
passed (Ok x) f w h is = absurd h
passed (Err y) f w h is = (let same : y ≡ w = cc in ap Err (sym h ∙ same))

-- a call that answers has no fault
pub no_fault : {T E : Type 0} {x : T} {w : E} → Ok x ≡ Err w → ⊥
no_fault is = cc
