-- Answers that differ.
use Rattle.std.proofs.Common.{◌≡◌, ◌≢◌, ◌∙◌, Option, Some, None, Result, Ok, Err, ap, refl, subst, sym, true≢false}
use Rattle.std.specs.Option.{IsSome}
use Rattle.std.specs.Result.{IsErr, IsOk}

pub ok_no_err : {T E : Type 0} {v : T} {e : E} → Ok v ≢ Err e
ok_no_err is = true≢false (sym (subst IsOk is refl))

pub failed_no_ok : {T E : Type 0} (r : Result T E) (v : T) → IsErr r → r ≢ Ok v
failed_no_ok r v failed is = true≢false (sym (subst IsErr is failed))

pub err_no_ok : {T E : Type 0} {v : T} {e : E} → Err e ≢ Ok v
err_no_ok is = failed_no_ok _ _ refl is

pub some_no_none : {T : Type 0} {v : T} → Some v ≢ None
some_no_none is = true≢false (sym (subst IsSome is refl))

abbrev option_of : {T E : Type 0} → Result (Option T) E → Option T
option_of (Ok v) = v
option_of (Err e) = None

pub value_no_end : {T E : Type 0} (r : Result (Option T) E) (v : T) → r ≡ Ok (Some v) → r ≢ Ok None
value_no_end r v some none = some_no_none (ap option_of (sym some ∙ none))
