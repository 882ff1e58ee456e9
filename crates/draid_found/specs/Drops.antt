-- Which of the blocks that a check record names some metaslabs have.
use Rattle.std.specs.Prelude.{◌≡◌, ◌<◌, ◌≤◌, ◌⊎◌, ◌↔◌, ℕ, Bool, true, false, List, Some, slice_get, Contains, Option}
use Rattle.draid_names.specs.declared.pointer.Pointer.{Pointer}
use Rattle.draid_machine.specs.declared.names.Key.{Key}
use Rattle.draid_entries.specs.Maps.{key_of}
use Rattle.draid_record.specs.declared.checks.Dropped.{Dropped}
use Rattle.draid_shard.specs.declared.shard.Shard.{Shard}
use Rattle.draid_found.specs.Together.{HasBlock}
use Rattle.draid_found.specs.Found.{LeadsTo, Reaches, Grows}
use Rattle.draid_entries.specs.declared.entry.Entry.{Entry}
use Rattle.draid_entries.specs.Entries.{entry_at}
use Rattle.draid_shard.specs.Looks.{IsLive}

-- the object and the number of a block that a check record names
abbrev pub key_in : Dropped → Key
key_in d = record { object = d.object; seq = d.seq }

-- a metaslab has a block of this object and number, which was born up to a group
pub record HasBorn {R A : Type 0} (shard : Shard R A) (upto : ℕ) (key : Key) : Type 0 where
  pub block : HasBlock shard key
  pub born : block.e.pointer.birth ≤ upto

-- one of some metaslabs has it
pub record HaveBorn {R A : Type 0} (shards : List (Shard R A)) (upto : ℕ) (key : Key) : Type 0 where
  pub m : ℕ
  pub shard : Shard R A
  pub there : slice_get shards m ≡ Some shard
  pub has : HasBorn shard upto key

-- they have all that are named
abbrev pub HaveNamed : {R A : Type 0} → List (Shard R A) → ℕ → List Dropped → Type 0
HaveNamed shards upto drops = (i : ℕ) (d : Dropped) → slice_get drops i ≡ Some d → HaveBorn shards upto (key_in d)

-- they lack one, and have those before it
pub record LackNamed {R A : Type 0} (shards : List (Shard R A)) (upto : ℕ) (drops : List Dropped) (i : ℕ) : Type 0 where
  pub named : Dropped
  pub there : slice_get drops i ≡ Some named
  pub lack : HaveBorn shards upto (key_in named) → ⊥
  pub before : (k : ℕ) (d : Dropped) → k < i → slice_get drops k ≡ Some d → HaveBorn shards upto (key_in d)

-- ---- what is noted

-- a block was noted besides, if it was born up to a group
abbrev pub NotesBorn : ℕ → Pointer → (Key → Bool) → (Key → Bool) → Type 0
NotesBorn upto pointer old new = (key : Key) → (new key ≡ true) ↔ ((old key ≡ true) ⊎ ((key_of pointer ≡ key) × (pointer.birth ≤ upto)))

-- just the blocks of a metaslab that were born up to it
abbrev pub NotesBornOf : {R A : Type 0} → Shard R A → ℕ → (Key → Bool) → (Key → Bool) → Type 0
NotesBornOf shard upto old new = (key : Key) → (new key ≡ true) ↔ ((old key ≡ true) ⊎ HasBorn shard upto key)

-- just those of some metaslabs are noted
abbrev pub AreBornIn : {R A : Type 0} → List (Shard R A) → ℕ → (Key → Bool) → Type 0
AreBornIn shards upto noted = (key : Key) → (noted key ≡ true) ↔ HaveBorn shards upto key

-- all that are named were noted
abbrev pub AreNoted : (Key → Bool) → List Dropped → Type 0
AreNoted noted drops = (i : ℕ) (d : Dropped) → slice_get drops i ≡ Some d → noted (key_in d) ≡ true

-- one wasn't, and those before it were
pub record IsUnnotedAt (noted : Key → Bool) (drops : List Dropped) (i : ℕ) : Type 0 where
  pub named : Dropped
  pub there : slice_get drops i ≡ Some named
  pub out : noted (key_in named) ≡ false
  pub before : (k : ℕ) (d : Dropped) → k < i → slice_get drops k ≡ Some d → noted (key_in d) ≡ true

-- ---- beside them

-- a check record names a block
abbrev pub IsNamed : List Dropped → Pointer → Type 0
IsNamed drops p = Contains drops (record { object = p.object; seq = p.seq })

-- Of each object that has a block which isn't named a table has the newest of these, which is live.
pub record AreNewestBeside {R A : Type 0} (shards : List (Shard R A)) (drops : List Dropped) (newest : ℕ → Option Pointer) : Type 0 where
  pub pointers : (object : ℕ) (p : Pointer) → newest object ≡ Some p → LeadsTo shards object p × (IsNamed drops p → ⊥)
  pub known : (m : ℕ) (shard : Shard R A) (first : ℕ) (e : Entry) → slice_get shards m ≡ Some shard → entry_at shard.entries first ≡ Some e → (IsNamed drops e.pointer → ⊥)
      → Reaches newest e.pointer.object e.pointer.seq

-- ---- as it is found

-- just those that are named are noted
abbrev pub AreJustNamed : List Dropped → (Key → Bool) → Type 0
AreJustNamed drops noted = (key : Key) → (noted key ≡ true) ↔ Contains drops (record { object = key.object; seq = key.seq })

-- just this one was noted besides
abbrev pub NotesNamed : Key → (Key → Bool) → (Key → Bool) → Type 0
NotesNamed own old new = (key : Key) → (new key ≡ true) ↔ ((old key ≡ true) ⊎ (own ≡ key))

-- a block is kept in mind, unless it is noted
pub record NotesOneBeside (noted : Key → Bool) (pointer : Pointer) (old new : ℕ → Option Pointer) : Type 0 where
  pub newest : (object : ℕ) (p : Pointer) → new object ≡ Some p → (old object ≡ Some p) ⊎ ((pointer.object ≡ object) × (p ≡ pointer) × (noted (key_of pointer) ≡ false))
  pub known : noted (key_of pointer) ≡ false → Reaches new pointer.object pointer.seq
  pub grows : Grows old new

-- so are those of a metaslab
pub record NotesBeside {R A : Type 0} (noted : Key → Bool) (shard : Shard R A) (old new : ℕ → Option Pointer) : Type 0 where
  pub newest : (object : ℕ) (p : Pointer) → new object ≡ Some p → (old object ≡ Some p) ⊎ ((p.object ≡ object) × (p.metaslab ≡ shard.number) × IsLive shard p × (noted (key_of p) ≡ false))
  pub known : (first : ℕ) (e : Entry) → entry_at shard.entries first ≡ Some e → noted (key_of e.pointer) ≡ false → Reaches new e.pointer.object e.pointer.seq
  pub grows : Grows old new
