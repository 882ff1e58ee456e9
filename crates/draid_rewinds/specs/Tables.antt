-- Of each object the newest of the live blocks that were born up to a group.
use Rattle.std.specs.Prelude.{◌≡◌, ◌≤◌, ◌⊎◌, ℕ, List, Option, Some, slice_get}
use Rattle.draid_names.specs.declared.pointer.Pointer.{Pointer}
use Rattle.draid_rack.specs.declared.Rack as racks
use Rattle.draid_found.specs.Found.{Grows, Reaches}
use Rattle.draid_shard.specs.Fits.{Valid}
use Rattle.draid_shard.specs.Looks.{IsLive}
use Rattle.draid_shard.specs.declared.shard.Shard.{Shard}

abbrev pub AreValid : {R A : Type 0} → racks.Ghosts R → List (Shard R A) → Type 0
AreValid {R} {A} rack shards = (m : ℕ) (shard : Shard R A) → slice_get shards m ≡ Some shard → Valid rack shard

-- a live block of a metaslab was born up to a group
pub record IsBorn {R A : Type 0} (shard : Shard R A) (group : ℕ) (p : Pointer) : Type 0 where
  pub live : IsLive shard p
  pub upto : p.birth ≤ group

-- a block was kept in mind, if it is so
pub record NotesBorn {R A : Type 0} (shard : Shard R A) (group : ℕ) (pointer : Pointer) (old new : ℕ → Option Pointer) : Type 0 where
  pub newest : (object : ℕ) (p : Pointer) → new object ≡ Some p → (old object ≡ Some p) ⊎ ((p.object ≡ object) × (p ≡ pointer) × IsBorn shard group p)
  pub known : IsBorn shard group pointer → Reaches new pointer.object pointer.seq
  pub grows : Grows old new

-- so were those of a metaslab
pub record NotesBornIn {R A : Type 0} (shard : Shard R A) (group : ℕ) (old new : ℕ → Option Pointer) : Type 0 where
  pub newest : (object : ℕ) (p : Pointer) → new object ≡ Some p → (old object ≡ Some p) ⊎ ((p.object ≡ object) × IsBorn shard group p)
  pub known : (p : Pointer) → IsBorn shard group p → Reaches new p.object p.seq
  pub grows : Grows old new

-- A table leads to the newest of such blocks of each object that has one, in its metaslab.
pub record AreNewestBorn {R A : Type 0} (shards : List (Shard R A)) (group : ℕ) (newest : ℕ → Option Pointer) : Type 0 where
  pub pointers : (object : ℕ) (p : Pointer) → newest object ≡ Some p → (p.object ≡ object) × ((m : ℕ) × (shard : Shard R A) × (slice_get shards m ≡ Some shard) × IsBorn shard group p)
  pub known : (m : ℕ) (shard : Shard R A) (p : Pointer) → slice_get shards m ≡ Some shard → IsBorn shard group p → Reaches newest p.object p.seq
