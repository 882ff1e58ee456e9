-- What the records of all metaslabs of one pool have in common, and which fault it is where they haven't.
use Rattle.std.specs.Prelude.{◌≡◌, ◌<◌, ◌+◌, ◌-◌, ◌*◌, ◌^◌, ◌&&◌, ◌⊎◌, ◌↔◌, ℕ, zero, suc, Bool, true, false, List, Option, Some, if◌then◌else◌, is_some, min, nat_eq, slice_get}
use Rattle.std.specs.HashSet.{HashSet, contains}
use Rattle.draid_record.specs.declared.fault.RecordFaultKind.{RecordFaultKind}
use Rattle.draid_record.specs.declared.fault.RecordFaultKind.TheVariants as why
use Rattle.draid_names.specs.declared.pointer.Pointer.{Pointer}
use Rattle.draid_machine.specs.declared.names.Key.{Key}
use Rattle.draid_entries.specs.declared.entry.Entry.{Entry}
use Rattle.draid_entries.specs.declared.entries.Entries.{Entries}
use Rattle.draid_entries.specs.Entries.{entry_at}
use Rattle.draid_entries.specs.Maps.{key_of}
use Rattle.draid_record.specs.declared.sizes.TheConstants.{BLOCK_BYTES, SLOT_COUNT_AT}
use Rattle.draid_shard.specs.Alike.{HaveSameArms}
use Rattle.draid_shard.specs.declared.shard.Shard.{Shard}

-- ---- blocks

abbrev pub pair_eq : ℕ × ℕ → ℕ × ℕ → Bool
pair_eq p q = nat_eq p.0 q.0 && nat_eq p.1 q.1

-- whether a block of this object and number was noted
abbrev pub noted_in : {S : Type 0} → HashSet (ℕ × ℕ) S → Key → Bool
noted_in keys key = contains pair_eq keys (key.object, key.seq)

-- a metaslab has a block of this object and number
pub record HasBlock {R A : Type 0} (shard : Shard R A) (key : Key) : Type 0 where
  pub first : ℕ
  pub e : Entry
  pub there : entry_at shard.entries first ≡ Some e
  pub key_is : key_of e.pointer ≡ key

-- how many blocks begin below a stripe
unfoldable pub blocks_below : Entries → ℕ → ℕ
blocks_below t zero = 0
blocks_below t (suc n) = blocks_below t n + (if is_some (entry_at t n) then 1 else 0)

-- where a block stands in the record from which its metaslab was opened: behind those of lower stripes. A number of 64 bits doesn't go on.
abbrev pub place_in : {R A : Type 0} → Shard R A → ℕ → ℕ
place_in shard first = min (shard.blocks_at + BLOCK_BYTES * blocks_below shard.entries first) (2 ^ 64 - 1)

-- just a block was noted besides
abbrev pub NotesJust : Pointer → (Key → Bool) → (Key → Bool) → Type 0
NotesJust pointer old new = (key : Key) → (new key ≡ true) ↔ ((old key ≡ true) ⊎ (key_of pointer ≡ key))

-- just the blocks of a metaslab were noted besides
abbrev pub NotesJustOf : {R A : Type 0} → Shard R A → (Key → Bool) → (Key → Bool) → Type 0
NotesJustOf shard old new = (key : Key) → (new key ≡ true) ↔ ((old key ≡ true) ⊎ HasBlock shard key)

-- no block of a metaslab was noted
abbrev pub IsUnnoted : {R A : Type 0} → Shard R A → (Key → Bool) → Type 0
IsUnnoted shard noted = (key : Key) → HasBlock shard key → noted key ≡ false

-- a metaslab below a number has a block of this object and number
pub record HasEarlier {R A : Type 0} (shards : List (Shard R A)) (n : ℕ) (key : Key) : Type 0 where
  pub m : ℕ
  pub below : m < n
  pub shard : Shard R A
  pub there : slice_get shards m ≡ Some shard
  pub block : HasBlock shard key

-- The metaslabs below a number are those of one pool: each has the arms of the first, and no block has the object and the number that a block of an earlier one has.
pub record AreTogether {R A : Type 0} (shards : List (Shard R A)) (n : ℕ) : Type 0 where
  pub alike : (m : ℕ) (first shard : Shard R A) → m < n → slice_get shards 0 ≡ Some first → slice_get shards m ≡ Some shard → HaveSameArms first.slots shard.slots
  pub once : (m : ℕ) (shard : Shard R A) (key : Key) → m < n → slice_get shards m ≡ Some shard → HasBlock shard key → HasEarlier shards m key → ⊥

-- ---- faults

-- a block of this metaslab is the first that has the object and the number of one that was noted
pub record IsNotedTwice {R A : Type 0} (shard : Shard R A) (noted : Key → Bool) (metaslab : Option ℕ) (place : ℕ) (kind : RecordFaultKind) : Type 0 where
  pub metaslab_is : metaslab ≡ Some shard.number
  pub kind_is : kind ≡ why.Twice
  pub key : Key
  pub block : HasBlock shard key
  pub place_is : place ≡ place_in shard block.first
  pub twice : noted key ≡ true
  pub lowest : (first : ℕ) (e : Entry) → first < block.first → entry_at shard.entries first ≡ Some e → noted (key_of e.pointer) ≡ false

-- a metaslab is the first that has other arms than the first one, and those below it are together
pub record HasOtherArms {R A : Type 0} (shards : List (Shard R A)) (metaslab : Option ℕ) (place : ℕ) (kind : RecordFaultKind) : Type 0 where
  pub m : ℕ
  pub metaslab_is : metaslab ≡ Some m
  pub place_is : place ≡ SLOT_COUNT_AT
  pub kind_is : kind ≡ why.Arms
  pub first : Shard R A
  pub begins : slice_get shards 0 ≡ Some first
  pub shard : Shard R A
  pub there : slice_get shards m ≡ Some shard
  pub differ : HaveSameArms first.slots shard.slots → ⊥
  pub together : AreTogether shards m

-- A metaslab has a block of the object and the number that a block of an earlier one has, and none that begins at a lower stripe. It has the arms of the first one,
-- and those below it are together.
pub record HasBlockTwice {R A : Type 0} (shards : List (Shard R A)) (metaslab : Option ℕ) (place : ℕ) (kind : RecordFaultKind) : Type 0 where
  pub m : ℕ
  pub metaslab_is : metaslab ≡ Some m
  pub kind_is : kind ≡ why.Twice
  pub shard : Shard R A
  pub there : slice_get shards m ≡ Some shard
  pub earlier : ℕ
  pub before : earlier < m
  pub other : Shard R A
  pub other_there : slice_get shards earlier ≡ Some other
  pub key : Key
  pub block : HasBlock shard key
  pub place_is : place ≡ place_in shard block.first
  pub twice : HasBlock other key
  pub lowest : (first : ℕ) (e : Entry) → first < block.first → entry_at shard.entries first ≡ Some e → HasEarlier shards m (key_of e.pointer) → ⊥
  pub alike : (first : Shard R A) → slice_get shards 0 ≡ Some first → HaveSameArms first.slots shard.slots
  pub together : AreTogether shards m

-- which fault metaslabs have first whose records were read whole
abbrev pub AreApart : {R A : Type 0} → List (Shard R A) → Option ℕ → ℕ → RecordFaultKind → Type 0
AreApart shards metaslab place kind = HasOtherArms shards metaslab place kind ⊎ HasBlockTwice shards metaslab place kind
