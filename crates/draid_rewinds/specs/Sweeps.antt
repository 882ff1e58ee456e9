-- What becomes of the metaslabs of a pool as the live blocks are freed to which a table of pointers doesn't lead.
use Rattle.std.specs.Prelude.{◌≡◌, ◌≤◌, ◌⊎◌, ℕ, List, [], ◌∷◌, Option, Some, length, slice_get, slice_set}
use Rattle.draid_names.specs.declared.pointer.Pointer.{Pointer}
use Rattle.draid_names.specs.declared.numbers.TheConstants.{LAST_NUMBER, NUMBERS}
use Rattle.draid_rack.specs.declared.Rack as racks
use Rattle.draid_area.specs.declared.Area as areas
use Rattle.draid_machine.specs.declared.names.Stage.TheVariants.{Freed, Live}
use Rattle.draid_entries.specs.declared.entry.Entry.{Entry}
use Rattle.draid_entries.specs.Entries.{entry_at}
use Rattle.draid_entries.specs.Maps.{staged}
use Rattle.draid_segments.specs.Segments.{Pieces}
use Rattle.draid_shard.specs.Calls.{SameKit}
use Rattle.draid_shard.specs.Changes.{SetsBlock}
use Rattle.draid_shard.specs.Fits.{Valid}
use Rattle.draid_shard.specs.Looks.{IsLive}
use Rattle.draid_shard.specs.Part.{Part}
use Rattle.draid_shard.specs.States.{part_of}
use Rattle.draid_shard.specs.declared.shard.Shard.{Shard}
use Rattle.draid_session.specs.State.{Metaslab}
use Rattle.draid_pool.specs.Metaslabs.{IsMetaslab}
use Rattle.draid_pool.specs.Shards.{FreesIn, Goes}

-- ---- one block

-- a group is open in a metaslab, and isn't behind the last
pub record IsOpenIn {R A : Type 0} (rack : racks.Ghosts R) (group : ℕ) (shard : Shard R A) : Type 0 where
  pub valid : Valid rack shard
  pub is_open : shard.open_group ≡ group
  pub low : group ≤ LAST_NUMBER

-- a live block, to which the table doesn't lead, was freed in a group
pub record FreesOne {R A : Type 0} (rack : racks.Ghosts R) (area : areas.Ghosts A) (table : ℕ → Option Pointer) (group : ℕ) (pointer : Pointer) (old new : Shard R A) : Type 0 where
  pub open_ : IsOpenIn rack group new
  pub live : IsLive old pointer
  pub other : table pointer.object ≡ Some pointer → ⊥
  pub part : part_of new ≡ part_of old
  pub kit : SameKit old new
  pub sets : SetsBlock old new pointer (Some (staged (Freed group) pointer))
  pub frees : (part : Part) (pieces : Pieces) (x : Metaslab) → IsMetaslab rack area part pieces old x → Goes rack area part pieces x new (FreesIn part.number pointer group group x)

-- or it isn't live, or the table leads to it
abbrev pub FreesIfOther : {R A : Type 0} → racks.Ghosts R → areas.Ghosts A → (ℕ → Option Pointer) → Pointer → (group : ℕ) → Shard R A → ℕ → Shard R A → Type 0
FreesIfOther rack area table pointer group old freed new =
    ((freed ≡ 1) × FreesOne rack area table group pointer old new) ⊎ ((freed ≡ 0) × (new ≡ old) × (IsLive old pointer → table pointer.object ≡ Some pointer))

-- ---- a metaslab

-- these were freed, one after another, the last one first here
abbrev pub FreesThese : {R A : Type 0} → racks.Ghosts R → areas.Ghosts A → (ℕ → Option Pointer) → (group : ℕ) → List Pointer → Shard R A → Shard R A → Type 0
FreesThese rack area table group [] old new = new ≡ old
FreesThese {R} {A} rack area table group (p ∷ ps) old new = (mid : Shard R A) × FreesThese rack area table group ps old mid × FreesOne rack area table group p mid new

-- the table leads to each block that is live
abbrev pub HasOnly : {R A : Type 0} → (ℕ → Option Pointer) → Shard R A → Type 0
HasOnly table shard = (first : ℕ) (e : Entry) → entry_at shard.entries first ≡ Some e → e.stage ≡ Live → table e.pointer.object ≡ Some e.pointer

-- all were freed to which it doesn't, so many
pub record FreesOthersIn {R A : Type 0} (rack : racks.Ghosts R) (area : areas.Ghosts A) (table : ℕ → Option Pointer) (group : ℕ) (old : Shard R A) (freed : ℕ) (new : Shard R A) : Type 0 where
  pub open_ : IsOpenIn rack group new
  pub pointers : List Pointer
  pub many : freed ≡ length pointers
  pub few : freed ≤ NUMBERS
  pub are : FreesThese rack area table group pointers old new
  pub only : HasOnly table new

-- ---- all metaslabs

-- these were freed in these metaslabs, the last one first here
abbrev pub FreesAll : {R A : Type 0} → racks.Ghosts R → areas.Ghosts A → (ℕ → Option Pointer) → (group : ℕ) → List (ℕ × Pointer) → List (Shard R A) → List (Shard R A) → Type 0
FreesAll rack area table group [] old new = new ≡ old
FreesAll {R} {A} rack area table group (d ∷ ds) old new =
    (mid : List (Shard R A)) × (before : Shard R A) × (after : Shard R A) × FreesAll rack area table group ds old mid × (slice_get mid d.0 ≡ Some before) × FreesOne rack area table group d.1 before after × (new ≡ slice_set mid d.0 after)

-- all were freed to which the table doesn't lead, so many
pub record FreesOthers {R A : Type 0} (rack : racks.Ghosts R) (area : areas.Ghosts A) (table : ℕ → Option Pointer) (group : ℕ) (old : List (Shard R A)) (freed : ℕ) (new : List (Shard R A)) : Type 0 where
  pub blocks : List (ℕ × Pointer)
  pub many : freed ≡ length blocks
  pub are : FreesAll rack area table group blocks old new
  pub only : (m : ℕ) (shard : Shard R A) → slice_get new m ≡ Some shard → HasOnly table shard
