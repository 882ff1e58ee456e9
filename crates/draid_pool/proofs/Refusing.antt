-- What the answer of a call isn't.
use Rattle.std.proofs.Common.{◌≡◌, ◌∙◌, ◌⊎◌, inr, Bool, true, false, Result, Ok, Err, ap, subst, sym}
use Rattle.std.specs.Prelude.{IfErr, IfOk, IsErrAnd, IsErrOf, OnErr, OnOk}
use Rattle.draid_names.specs.declared.fault.DeviceFault.TheVariants as device
use Rattle.draid_pool.specs.declared.fault.SyncFault.TheVariants as sync

-- an answer is no refusal
pub no_refusal : {T E : Type 0} {x : T} {e : E} → Ok x ≡ Err e → ⊥
no_refusal is = cc

-- no device failed where memory is wanting
pub no_device : {T : Type 0} → IsErrOf {T = T} (Err device.NoMemory) device.Failed → ⊥
no_device is = cc

-- a sync that stopped for another reason wasn't stopped by the shelf
pub worn_no_shelf : {T : Type 0} → IsErrOf {T = T} (Err sync.Worn) sync.Shelf → ⊥
worn_no_shelf is = cc

pub last_no_shelf : {T : Type 0} → IsErrOf {T = T} (Err sync.Last) sync.Shelf → ⊥
last_no_shelf is = cc

pub memory_no_shelf : {T : Type 0} → IsErrOf {T = T} (Err sync.NoMemory) sync.Shelf → ⊥
memory_no_shelf is = cc

-- nor by the last number
pub worn_no_last : {T : Type 0} → IsErrOf {T = T} (Err sync.Worn) sync.Last → ⊥
worn_no_last is = cc

pub shelf_no_last : {T : Type 0} → IsErrOf {T = T} (Err sync.Shelf) sync.Last → ⊥
shelf_no_last is = cc

pub memory_no_last : {T : Type 0} → IsErrOf {T = T} (Err sync.NoMemory) sync.Last → ⊥
memory_no_last is = cc

pub not_both : (b : Bool) → b ≡ true → b ≡ false → ⊥
not_both b is isnt = cc

-- ---- a fault that is passed on

pub on_ok_passed : {T E : Type 0} (Q : E → Type 0) (r : Result T E) (P : Type 0) → IsErrAnd r Q → OnOk r P
on_ok_passed Q (Ok x) P h = absurd h
on_ok_passed Q (Err e) P h = tt

pub if_ok_passed : {T E : Type 0} (Q : E → Type 0) (r : Result T E) (P : T → Type 0) → IsErrAnd r Q → IfOk r P
if_ok_passed Q (Ok x) P h = absurd h
if_ok_passed Q (Err e) P h = tt

pub on_err_always : {T E : Type 0} (r : Result T E) (P : Type 0) → P → OnErr r P
on_err_always (Ok x) P h = tt
on_err_always (Err e) P h = h

pub on_ok_always : {T E : Type 0} (r : Result T E) (P : Type 0) → P → OnOk r P
on_ok_always (Ok x) P h = h
on_ok_always (Err e) P h = tt

pub on_err_right : {T E : Type 0} (r : Result T E) (P Q : Type 0) → OnErr r Q → OnErr r (P ⊎ Q)
on_err_right (Ok x) P Q h = tt
on_err_right (Err e) P Q h = inr h

pub if_err_passed : {T E : Type 0} (r : Result T E) (f : E) (P : E → Type 0) → IsErrAnd r (λ y. y ≡ f) → P f → IfErr r P
if_err_passed (Ok x) f P h p = absurd h
if_err_passed (Err y) f P h p = subst P (sym h) p

pub passed_is : {T E : Type 0} (r : Result T E) (f : E) → IsErrAnd r (λ y. y ≡ f) → r ≡ Err f
passed_is (Ok x) f h = absurd h
passed_is (Err y) f h = ap Err h

pub passed_back : {T U E : Type 0} (r : Result T E) (f w : E) → IsErrAnd r (λ y. y ≡ f) → IsErrOf {T = U} (Err f) w → IsErrOf r w
passed_back (Ok x) f w h is = absurd h
passed_back (Err y) f w h is = (let same : f ≡ w = cc in ap Err (h ∙ same))

pub passed : {T U E : Type 0} (r : Result T E) (f w : E) → IsErrAnd r (λ y. y ≡ f) → IsErrOf r w → IsErrOf {T = U} (Err f) w
passed (Ok x) f w h is = absurd h
passed (Err y) f w h is = (let same : y ≡ w = cc in ap Err (sym h ∙ same))
