use Rattle.std.proofs.Common.{◌≡◌, List, Ok, Err, Result, OnOk, OnErr, subst, sym}
use Rattle.draid_ranges.specs.declared.run.Run.{Run}

-- what holds of the runs before a call and of those that it may leave holds of those that it left
pub on_either : {T E : Type 0} (P : List Run → Type 0) (r : Result T E) (old after new : List Run) → OnOk r (new ≡ after) → OnErr r (new ≡ old) → P old → (new ≡ after → P new) → P new
on_either P (Ok v) old after new ok err h k = k ok
on_either P (Err e) old after new ok err h k = subst P (sym err) h

pub on_ok : {T E A B : Type 0} (r : Result T E) → OnOk r A → (A → B) → OnOk r B
on_ok (Ok v) ok k = k ok
on_ok (Err e) ok k = tt
