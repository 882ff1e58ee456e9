-- A pool that is as it was, where no lane ran; and what an answer holds.
use Rattle.std.proofs.Common.{◌≡◌, ℕ, Result, Ok, Err, length, ap, arith, subst}
use Rattle.std.specs.Prelude.{IfOk, IfErr}
use Rattle.draid_pool.specs.Failing.{AreasLater}
use Rattle.draid_pool.specs.Groups as sealing
use Rattle.draid_pool.specs.declared.pool.Pool.{Pool}
use Rattle.draid_pool.proofs.Keeping.{each_same}
use Rattle.draid_pool.proofs.Rises.{records_still}
use Rattle.draid_uber.specs.Uber.{count_of}
use Rattle.draid_pool.specs.Keeping.{SamePool}

pub of_ok : {T E : Type 0} (P : T → Type 0) (r : Result T E) (x : T) → r ≡ Ok x → IfOk r P → P x
of_ok P r x is holds = subst (λ z. IfOk z P) is holds

pub of_err : {T E : Type 0} (P : E → Type 0) (r : Result T E) (x : E) → r ≡ Err x → IfErr r P → P x
of_err P r x is holds = subst (λ z. IfErr z P) is holds

pub areas_same : {R A : Type 0} (old new : Pool R A) → SamePool old new → (faults : A → ℕ) → AreasLater faults old new
areas_same old new same faults = record {
  uber = (let is = ap (count_of faults) same.uber in omega (arith, is));
  many = ap (λ ss. length ss) same.metaslabs;
  shards = (each_same (sealing.AreasLater faults) (records_still faults) old new same.metaslabs).each;
}
