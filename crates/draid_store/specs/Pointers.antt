-- What calls on the objects of a pool say by the table of their pointers alone, whatever its devices hold.
use Rattle.std.specs.Prelude.{◌≡◌, ◌==◌, ⊤, ℕ, List, Option, Some, None, Result, Ok, Err, if◌then◌else◌}
use Rattle.std.specs.declared.alloc.Global.{Global}
use Rattle.std.specs.declared.vec.Vec.{Vec}
use Rattle.draid_names.specs.declared.pointer.Pointer.{Pointer}
use Rattle.draid_names.specs.declared.refusal.ObjectFault.{ObjectFault}
use Rattle.draid_names.specs.declared.refusal.ObjectFault.TheVariants as fault
use Rattle.draid_names.specs.declared.refusal.WriteFault.{WriteFault}
use Rattle.draid_block.specs.declared.solve.Fetched.{Fetched}
use Rattle.draid_store.specs.declared.fault.FreeFault.{FreeFault}
use Rattle.draid_store.specs.declared.fault.FreeFault.TheVariants as free
use Rattle.draid_pool.specs.declared.pool.Pool.{Pool}
use Rattle.draid_pool.specs.Pointers.{pointer_in, SamePointers, FitsPointer}

-- one object has this pointer, or none, and each other the one that it had
abbrev pub SetsPointer : {R A : Type 0} → ℕ → Option Pointer → Pool R A → Pool R A → Type 0
SetsPointer object pointer old new = (other : ℕ) → pointer_in new other ≡ (if object == other then pointer else pointer_in old other)

-- the answer to a read: bytes of the pointer's length and digest; `no object` just where the object has none
abbrev pub ReadFinds : Option Pointer → Result (Vec ℕ Global) ObjectFault → Type 0
ReadFinds None result = result ≡ Err fault.NoObject
ReadFinds (Some pointer) (Ok bytes) = FitsPointer pointer bytes.items
ReadFinds (Some pointer) (Err fault.NoObject) = ⊥
ReadFinds (Some pointer) (Err why) = ⊤

-- that to the fetch of its block
abbrev pub FetchFinds : Option Pointer → Result Fetched ObjectFault → Type 0
FetchFinds None result = result ≡ Err fault.NoObject
FetchFinds (Some pointer) (Ok fetched) = fetched.pointer ≡ pointer
FetchFinds (Some pointer) (Err fault.NoObject) = ⊥
FetchFinds (Some pointer) (Err why) = ⊤

-- that to a write of some bytes
abbrev pub WriteSets : {R A : Type 0} → ℕ → List ℕ → Pool R A → Pool R A → Result Unit WriteFault → Type 0
WriteSets object bytes old new (Ok done) = (pointer : Pointer) × FitsPointer pointer bytes × SetsPointer object (Some pointer) old new
WriteSets object bytes old new (Err why) = SamePointers old new

-- that to a freeing, of a thread's table; nothing changed where it is to be tried again
abbrev pub TriesTake : ℕ → (table now : ℕ → Option Pointer) → Option (Result Unit FreeFault) → Type 0
TriesTake object table now None = (other : ℕ) → now other ≡ table other
TriesTake object table now (Some (Ok done)) = (pointer : Pointer) × (table object ≡ Some pointer) × ((other : ℕ) → now other ≡ (if object == other then None else table other))
TriesTake object table now (Some (Err free.NoObject)) = (table object ≡ None) × ((other : ℕ) → now other ≡ table other)

abbrev pub FreeTakes : {R A : Type 0} → ℕ → Pool R A → Pool R A → Result Unit FreeFault → Type 0
FreeTakes object old new result = TriesTake object (pointer_in old) (pointer_in new) (Some result)
