-- The blocks that an import finds in the metaslabs that it opened.
use Rattle.std.specs.Prelude.{◌≡◌, ◌≤◌, ◌⊎◌, ℕ, List, Option, Some, slice_get}
use Rattle.draid_names.specs.declared.pointer.Pointer.{Pointer}
use Rattle.draid_rack.specs.declared.Rack as racks
use Rattle.draid_machine.specs.declared.names.Stage.TheVariants.{Live}
use Rattle.draid_entries.specs.declared.entry.Entry.{Entry}
use Rattle.draid_entries.specs.Entries.{entry_at}
use Rattle.draid_shard.specs.Looks.{IsLive}
use Rattle.draid_shard.specs.Fits.{Valid}
use Rattle.draid_shard.specs.declared.shard.Shard.{Shard}

-- ---- metaslabs

-- all blocks of a shard are live
abbrev pub AllLive : {R A : Type 0} → Shard R A → Type 0
AllLive shard = (first : ℕ) (e : Entry) → entry_at shard.entries first ≡ Some e → e.stage ≡ Live

-- a metaslab of which the blocks may be noted or freed
pub record IsReady {R A : Type 0} (rack : racks.Ghosts R) (m : ℕ) (shard : Shard R A) : Type 0 where
  pub valid : Valid rack shard
  pub number_is : shard.number ≡ m
  pub live : AllLive shard

-- each of some metaslabs is so
abbrev pub AreReady : {R A : Type 0} → racks.Ghosts R → List (Shard R A) → Type 0
AreReady {R} {A} rack shards = (m : ℕ) (shard : Shard R A) → slice_get shards m ≡ Some shard → IsReady rack m shard

-- ---- blocks

-- a table has a pointer of an object with at least this number
abbrev pub Reaches : (ℕ → Option Pointer) → (object seq : ℕ) → Type 0
Reaches table object seq = (p : Pointer) × (table object ≡ Some p) × (seq ≤ p.seq)

-- the numbers of a table's pointers don't fall
abbrev pub Grows : (ℕ → Option Pointer) → (ℕ → Option Pointer) → Type 0
Grows old new = (object : ℕ) (p : Pointer) → old object ≡ Some p → Reaches new object p.seq

-- a table has a block, or a newer one of its object
pub record KeepsNewer (pointer : Pointer) (old new : ℕ → Option Pointer) : Type 0 where
  pub newest : (object : ℕ) (p : Pointer) → new object ≡ Some p → (old object ≡ Some p) ⊎ ((pointer.object ≡ object) × (p ≡ pointer))
  pub known : Reaches new pointer.object pointer.seq
  pub grows : Grows old new

-- a block was noted
pub record NotesOne (pointer : Pointer) (old new : ℕ → Option Pointer) (before after : ℕ) : Type 0 where
  pub later : before ≤ after
  pub numbered : pointer.seq ≤ after
  pub one : (after ≡ before) ⊎ (after ≡ pointer.seq)
  pub table : KeepsNewer pointer old new

-- a number is that of a block of a shard
abbrev pub IsNumberOf : {R A : Type 0} → Shard R A → ℕ → Type 0
IsNumberOf shard seq = (first : ℕ) × (e : Entry) × (entry_at shard.entries first ≡ Some e) × (seq ≡ e.pointer.seq)

-- no block that was found has a greater number, and of each object one is kept in mind
pub record Notes {R A : Type 0} (shard : Shard R A) (old new : ℕ → Option Pointer) (before after : ℕ) : Type 0 where
  pub later : before ≤ after
  pub numbered : (first : ℕ) (e : Entry) → entry_at shard.entries first ≡ Some e → e.pointer.seq ≤ after
  pub newest : (object : ℕ) (p : Pointer) → new object ≡ Some p → (old object ≡ Some p) ⊎ ((p.object ≡ object) × (p.metaslab ≡ shard.number) × IsLive shard p)
  pub one : (after ≡ before) ⊎ IsNumberOf shard after
  pub known : (first : ℕ) (e : Entry) → entry_at shard.entries first ≡ Some e → Reaches new e.pointer.object e.pointer.seq
  pub grows : Grows old new

-- a pointer of an object is that of a live block of a metaslab
pub record LeadsTo {R A : Type 0} (shards : List (Shard R A)) (object : ℕ) (pointer : Pointer) : Type 0 where
  pub object_is : pointer.object ≡ object
  pub shard : Shard R A
  pub there : slice_get shards pointer.metaslab ≡ Some shard
  pub live : IsLive shard pointer

-- 0, or the number of a block of one of some shards
abbrev pub IsNumberIn : {R A : Type 0} → List (Shard R A) → ℕ → Type 0
IsNumberIn {R} {A} shards seq =
    (seq ≡ 0) ⊎ ((m : ℕ) × (shard : Shard R A) × (first : ℕ) × (e : Entry) × (slice_get shards m ≡ Some shard) × (entry_at shard.entries first ≡ Some e) × (seq ≡ e.pointer.seq))

-- what was found in all metaslabs: for each object its newest block, which is live, and the greatest number
pub record AreFound {R A : Type 0} (shards : List (Shard R A)) (newest : ℕ → Option Pointer) (seq : ℕ) : Type 0 where
  pub pointers : (object : ℕ) (pointer : Pointer) → newest object ≡ Some pointer → LeadsTo shards object pointer
  pub numbered : (m : ℕ) (shard : Shard R A) (first : ℕ) (e : Entry) → slice_get shards m ≡ Some shard → entry_at shard.entries first ≡ Some e → e.pointer.seq ≤ seq
  pub one : IsNumberIn shards seq
  pub known : (m : ℕ) (shard : Shard R A) (first : ℕ) (e : Entry) → slice_get shards m ≡ Some shard → entry_at shard.entries first ≡ Some e → Reaches newest e.pointer.object e.pointer.seq
