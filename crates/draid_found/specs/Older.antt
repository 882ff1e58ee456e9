-- The blocks of some metaslabs that a checkpoint keeps and that aren't the newest of their objects, as they are listed.
use Rattle.std.specs.Prelude.{◌≡◌, ◌<◌, ◌≤◌, ◌⊎◌, ◌↔◌, ◌++◌, [], ◌∷◌, ℕ, Bool, true, false, List, Option, Some, Contains, slice_get}
use Rattle.draid_names.specs.declared.pointer.Pointer.{Pointer}
use Rattle.draid_machine.specs.declared.names.Key.{Key}
use Rattle.draid_entries.specs.declared.entry.Entry.{Entry}
use Rattle.draid_entries.specs.Entries.{entry_at}
use Rattle.draid_entries.specs.Maps.{key_of}
use Rattle.draid_record.specs.declared.checks.Dropped.{Dropped}
use Rattle.draid_shard.specs.declared.shard.Shard.{Shard}
use Rattle.draid_found.specs.Drops.{key_in}
use Rattle.draid_found.specs.Together.{NotesJust}

-- the object and the number of a block, as a check record names it
abbrev pub block_in : Pointer → Dropped
block_in p = record { object = p.object; seq = p.seq }

-- a table has a block, by its number
abbrev pub IsInTable : (ℕ → Option Pointer) → Pointer → Type 0
IsInTable table p = (own : Pointer) × (table p.object ≡ Some own) × (own.seq ≡ p.seq)

-- a metaslab has a block of this object and number, which was born up to a group, and isn't a table's
pub record HasOlder {R A : Type 0} (shard : Shard R A) (newest : ℕ → Option Pointer) (upto : ℕ) (key : Key) : Type 0 where
  pub first : ℕ
  pub e : Entry
  pub there : entry_at shard.entries first ≡ Some e
  pub key_is : key_of e.pointer ≡ key
  pub born : e.pointer.birth ≤ upto
  pub other : IsInTable newest e.pointer → ⊥

-- one of some metaslabs has it
pub record HaveOlder {R A : Type 0} (shards : List (Shard R A)) (newest : ℕ → Option Pointer) (upto : ℕ) (key : Key) : Type 0 where
  pub m : ℕ
  pub shard : Shard R A
  pub there : slice_get shards m ≡ Some shard
  pub has : HasOlder shard newest upto key

-- Each block that was born up to a group is a table's, or a check record names it, or it is listed; and those that are listed are such blocks, each once, and neither a table's nor named.
pub record ListsOlder {R A : Type 0} (shards : List (Shard R A)) (newest : ℕ → Option Pointer) (named : List Dropped) (upto : ℕ) (list : List Dropped) : Type 0 where
  pub are : (d : Dropped) → Contains list d → HaveOlder shards newest upto (key_in d)
  pub apart : (d : Dropped) → Contains list d → Contains named d → ⊥
  pub once : (i k : ℕ) (d : Dropped) → k < i → slice_get list i ≡ Some d → slice_get list k ≡ Some d → ⊥
  pub all : (m : ℕ) (shard : Shard R A) (first : ℕ) (e : Entry) → slice_get shards m ≡ Some shard → entry_at shard.entries first ≡ Some e → e.pointer.birth ≤ upto
      → IsInTable newest e.pointer ⊎ (Contains named (block_in e.pointer) ⊎ Contains list (block_in e.pointer))

-- ---- as they are listed

-- just what is named or listed is noted, and what is listed is listed once, and not named
pub record IsListing (named list : List Dropped) (noted : Key → Bool) : Type 0 where
  pub just : (key : Key) → (noted key ≡ true) ↔ (Contains named (record { object = key.object; seq = key.seq }) ⊎ Contains list (record { object = key.object; seq = key.seq }))
  pub apart : (d : Dropped) → Contains list d → Contains named d → ⊥
  pub once : (i k : ℕ) (d : Dropped) → k < i → slice_get list i ≡ Some d → slice_get list k ≡ Some d → ⊥

-- a block was noted, and listed where it wasn't noted yet
pub record ListsOne (p : Pointer) (old : List Dropped) (before : Key → Bool) (new : List Dropped) (after : Key → Bool) : Type 0 where
  pub notes : NotesJust p before after
  pub lists : ((before (key_of p) ≡ true) × (new ≡ old)) ⊎ ((before (key_of p) ≡ false) × (new ≡ old ++ block_in p ∷ []))

-- so it was if it was born up to a group and isn't a table's
abbrev pub ListsIfOlder : (ℕ → Option Pointer) → ℕ → Pointer → List Dropped → (Key → Bool) → List Dropped → (Key → Bool) → Type 0
ListsIfOlder newest upto p old before new after =
    ((p.birth ≤ upto → IsInTable newest p) × (new ≡ old) × (after ≡ before))
    ⊎ ((p.birth ≤ upto) × (IsInTable newest p → ⊥) × ListsOne p old before new after)

-- so was each block of a metaslab
pub record ListsOf {R A : Type 0} (shard : Shard R A) (newest : ℕ → Option Pointer) (upto : ℕ) (old : List Dropped) (before : Key → Bool) (new : List Dropped) (after : Key → Bool) : Type 0 where
  pub more : (key : Key) → before key ≡ true → after key ≡ true
  pub are : (d : Dropped) → Contains new d → Contains old d ⊎ HasOlder shard newest upto (key_in d)
  pub all : (first : ℕ) (e : Entry) → entry_at shard.entries first ≡ Some e → e.pointer.birth ≤ upto → IsInTable newest e.pointer ⊎ (after (key_of e.pointer) ≡ true)
  pub listing : (named : List Dropped) → IsListing named old before → IsListing named new after
