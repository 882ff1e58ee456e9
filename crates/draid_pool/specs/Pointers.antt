-- What calls on a pool say of its objects by the table of their pointers alone, whatever its devices hold.
use Rattle.std.specs.Prelude.{◌≡◌, ℕ, Option, nat_eq, List, length}
use Rattle.std.specs.HashMap.{get}
use Rattle.draid_names.specs.declared.pointer.Pointer.{Pointer}
use Rattle.draid_pool.specs.declared.pool.Pool.{Pool}
use Rattle.sha2.specs.Sha256.{sha256}

-- the pointer of an object's bytes, if it has some
abbrev pub pointer_in : {R A : Type 0} → Pool R A → ℕ → Option Pointer
pointer_in pool object = get nat_eq pool.own.objects object

-- each object has the pointer that it had
abbrev pub SamePointers : {R A : Type 0} → Pool R A → Pool R A → Type 0
SamePointers old new = (object : ℕ) → pointer_in new object ≡ pointer_in old object

-- bytes have a pointer's length and digest
pub record FitsPointer (pointer : Pointer) (bytes : List ℕ) : Type 0 where
  pub len : length bytes ≡ pointer.len
  pub digest : sha256 bytes ≡ pointer.digest
