-- What an import comes to, over a shelf on which the pool of a state rests, or a new pool that wasn't opened.
use Rattle.std.specs.Prelude.{◌≡◌, ◌≤◌, ⊤, ℕ, Option, Some, IsSomeAnd, Result, Ok, Err, slice_get}
use Rattle.draid_rack.specs.Rack.{Shape}
use Rattle.draid_rack.specs.declared.Rack as racks
use Rattle.draid_area.specs.declared.Area as areas
use Rattle.draid_spec.specs.declared.layout.Geometry.{Geometry}
use Rattle.draid_segments.specs.Segments.{Pieces}
use Rattle.draid_shelf.specs.Kits.{Held, KitCounts}
use Rattle.draid_session.specs.Opening.{Imports}
use Rattle.draid_session.specs.Session.{FindsNoGroup, LeavesState}
use Rattle.draid_session.specs.State.{Metaslab, State}
use Rattle.draid_pool.specs.Returning.{OwnCounts, Rests, SameCounts}
use Rattle.draid_pool.specs.Importable.{IsImportable}
use Rattle.draid_pool.specs.Taking.{HoldsMade}
use Rattle.draid_pool.specs.Pools.{Represents}
use Rattle.draid_import.specs.declared.fault.ImportFault.{ImportFault}
use Rattle.draid_import.specs.declared.fault.ImportFault.TheVariants as fault
use Rattle.draid_pool.specs.declared.pool.Pool.{Pool}

-- The pool of a state rests on a shelf that tells, and the shelf has its counts.
pub record RestsThere (x : State) (pieces : ℕ → Pieces) (told : Option Held) (leaves : ℕ → Option Shape) (counts : ℕ → KitCounts) (uber_count : ℕ) : Type 0 where
  pub held : IsSomeAnd told (Rests x pieces)
  pub importable : IsSomeAnd told (λ held. IsImportable x held leaves)
  pub counted : (m : ℕ) (y : Metaslab) → slice_get x.metaslabs m ≡ Some y → SameCounts y.counts (counts m)
  pub uber : uber_count ≡ x.uber_count

-- What a refused import leaves: the pool as it was, or as it is where its group was found.
pub record LeavesPool (x : State) (pieces : ℕ → Pieces) (told : Option Held) (leaves : ℕ → Option Shape) (counts : ℕ → KitCounts) (uber_count : ℕ) : Type 0 where
  pub y : State
  pub rests : RestsThere y pieces told leaves counts uber_count
  pub is : LeavesState x y

-- a group that the uberblock may have was found, and the pool stands for the state that it gives
pub record ImportsPool {R A : Type 0} (rack : racks.Ghosts R) (area : areas.Ghosts A) (x : State) (pool : Pool R A) : Type 0 where
  pub group : ℕ
  pub new : State
  pub imports : Imports x group new
  pub represents : Represents rack area pool new

-- the uberblock has no open gate, since no group was committed: nothing is left of a commit that was refused
pub record FindsNone (x : State) (pieces : ℕ → Pieces) (told : Option Held) (leaves : ℕ → Option Shape) (counts : ℕ → KitCounts) (uber_count : ℕ) : Type 0 where
  pub y : State
  pub is : FindsNoGroup x y
  pub rests : RestsThere y pieces told leaves counts uber_count

-- The answer. No record of such a pool has a fault, and neither has its check record.
abbrev pub ImportIs : {R A : Type 0} → racks.Ghosts R → areas.Ghosts A → State → (ℕ → Pieces) → Option Held → (ℕ → Option Shape) → (ℕ → KitCounts) → ℕ → Result (Pool R A) ImportFault → Type 0
ImportIs rack area x pieces told leaves counts uber_count (Ok pool) = ImportsPool rack area x pool
ImportIs rack area x pieces told leaves counts uber_count (Err fault.NoPool) = FindsNone x pieces told leaves counts uber_count
ImportIs rack area x pieces told leaves counts uber_count (Err (fault.Record metaslab place kind)) = ⊥
ImportIs rack area x pieces told leaves counts uber_count (Err (fault.Check place kind)) = ⊥
ImportIs rack area x pieces told leaves counts uber_count (Err fault.Shelf) = LeavesPool x pieces told leaves counts uber_count
ImportIs rack area x pieces told leaves counts uber_count (Err fault.NoMemory) = LeavesPool x pieces told leaves counts uber_count

-- ---- a new pool

-- none is found, or it is refused for a device or for want of memory
abbrev pub FindsNoPool : {P : Type 0} → Result P ImportFault → Type 0
FindsNoPool (Ok pool) = ⊥
FindsNoPool (Err fault.NoPool) = ⊤
FindsNoPool (Err (fault.Record metaslab place kind)) = ⊥
FindsNoPool (Err (fault.Check place kind)) = ⊥
FindsNoPool (Err fault.Shelf) = ⊤
FindsNoPool (Err fault.NoMemory) = ⊤

-- So it is over the devices of a new pool, to which no uberblock was committed. They are there still, and only calls on the area of the uberblock may have failed.
pub record LeavesMade {P : Type 0} (geometry : Geometry) (result : Result P ImportFault) (told : Option Held) (before after : ℕ → KitCounts) (own now : OwnCounts) : Type 0 where
  pub none : FindsNoPool result
  pub held : IsSomeAnd told (HoldsMade geometry)
  pub counts : (m : ℕ) → after m ≡ before m
  pub uber : own.uber ≤ now.uber
  pub checks : now.checks ≡ own.checks
