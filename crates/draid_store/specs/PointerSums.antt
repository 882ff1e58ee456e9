-- What a sum says of a pool's objects by the table of their pointers alone, whatever its devices hold.
use Rattle.std.specs.Prelude.{◌≡◌, ◌<◌, ◌+◌, ⊤, ℕ, List, [], ◌∷◌, Option, Some, None, Result, Ok, Err, flat_map, length}
use Rattle.sha2.specs.Sha256.{sha256}
use Rattle.sha2.specs.declared.Sha256.{Sha256}
use Rattle.draid_names.specs.declared.pointer.Pointer.{Pointer}
use Rattle.draid_names.specs.declared.refusal.ObjectFault.{ObjectFault}
use Rattle.draid_names.specs.declared.refusal.ObjectFault.TheVariants as fault
use Rattle.draid_block.specs.declared.solve.Fetched.{Fetched}
use Rattle.draid_store.specs.Batches.{Feeds}
use Rattle.draid_pool.specs.Pointers.{FitsPointer}
use Rattle.draid_store.specs.declared.fault.SumFault.{SumFault}

-- each of some objects from one on has a pointer, which its bytes fit
abbrev pub FitPointers : (ℕ → Option Pointer) → ℕ → List (List ℕ) → Type 0
FitPointers table first [] = ⊤
FitPointers table first (bytes ∷ more) = ((pointer : Pointer) × (table first ≡ Some pointer) × FitsPointer pointer bytes) × FitPointers table (first + 1) more

-- blocks of objects from one on are those of their pointers
abbrev pub BlocksOf : (ℕ → Option Pointer) → ℕ → List Fetched → Type 0
BlocksOf table first [] = ⊤
BlocksOf table first (fetched ∷ more) = (table first ≡ Some fetched.pointer) × BlocksOf table (first + 1) more

-- why an object with this pointer, or without one, gives no bytes
abbrev pub StopsFor : Option Pointer → ObjectFault → Type 0
StopsFor pointer fault.NoMemory = ⊤
StopsFor None why = why ≡ fault.NoObject
StopsFor (Some pointer) fault.NoObject = ⊥
StopsFor (Some pointer) (fault.Unreadable absent tried) = ⊤
StopsFor (Some pointer) fault.Worn = ⊤

-- the first of so many objects from one on that gives none
pub record StopsSum (table : ℕ → Option Pointer) (first count : ℕ) (lost : SumFault) : Type 0 where
  pub contents : List (List ℕ)
  pub within : length contents < count
  pub object_is : lost.object ≡ first + length contents
  pub fit : FitPointers table first contents
  pub stops : StopsFor (table lost.object) lost.why

-- a hasher was given the bytes of so many objects from one on
pub record AddsFitting (table : ℕ → Option Pointer) (first added : ℕ) (old new : Sha256) : Type 0 where
  pub contents : List (List ℕ)
  pub many : length contents ≡ added
  pub fit : FitPointers table first contents
  pub fed : Feeds contents old new

abbrev pub AddFinds : (ℕ → Option Pointer) → ℕ → ℕ → Sha256 → Sha256 → Result ℕ SumFault → Type 0
AddFinds table first count old new (Ok added) = AddsFitting table first added old new
AddFinds table first count old new (Err lost) = StopsSum table first count lost

-- the digest of the bytes of so many objects from one on, one after another
pub record DigestsFitting (table : ℕ → Option Pointer) (first count : ℕ) (digest : List ℕ) : Type 0 where
  pub contents : List (List ℕ)
  pub many : length contents ≡ count
  pub fit : FitPointers table first contents
  pub is : digest ≡ sha256 (flat_map (λ bytes. bytes) contents)

-- the answer to a sum
abbrev pub SumFinds : (ℕ → Option Pointer) → ℕ → ℕ → Result (List ℕ) SumFault → Type 0
SumFinds table first count (Ok digest) = DigestsFitting table first count digest
SumFinds table first count (Err lost) = StopsSum table first count lost
