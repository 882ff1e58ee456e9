-- The block that an object had before is freed.
use Rattle.std.specs.Prelude.{◌≡◌, ℕ, Bool, false, Option, Some, None, ◌∷◌, ◌⊎◌, ◌≤◌, ◌<◌, All, nat_eq, if◌then◌else◌, List}
use Rattle.draid_machine.specs.Names.{key_eq}
use Rattle.draid_entries.specs.Maps.{key_of}
use Rattle.draid_names.specs.declared.pointer.Pointer.{Pointer}
use Rattle.draid_rack.specs.declared.Rack as racks
use Rattle.draid_area.specs.declared.Area as areas
use Rattle.draid_objects.specs.Changes as changes
use Rattle.draid_objects.specs.Changes.{Write, write_of}
use Rattle.draid_session.specs.Holds.{Hold}
use Rattle.draid_session.specs.Looks.{OnlyLooks}
use Rattle.draid_session.specs.State.{State, Store}
use Rattle.draid_session.specs.Writes.{FreesBlock, DropsBlock}
use Rattle.draid_pool.specs.Threads.{IsWholeBy, Knows, LeadsBy}
use Rattle.draid_store.specs.Open.{KnowsEarlier}
use Rattle.draid_shard.specs.declared.shard.Shard.{Shard}
use Rattle.draid_session.specs.Points.{KeepsBirth}
use Rattle.draid_objects.specs.Marks.{Dropped, check_by, is_dropped}
use Rattle.draid_pool.specs.Whole.{IsPointer, IsWhole, PointFits}
use Rattle.draid_pool.specs.declared.pool.Pool.{Pool}
use Rattle.draid_pool.specs.Pools.{Stands}
use Rattle.draid_pool.specs.Objects.{IsLastAt, IsPointerOf, blocks_of}
use Rattle.draid_uber.specs.Uber.{point_of}
use Rattle.draid_uber.specs.Points.{IsOther}
use Rattle.draid_checkpoint.specs.Check.{holds_birth}
use Rattle.draid_machine.specs.declared.names.Key.{Key}
use Rattle.draid_machine.specs.declared.names.Held.{Held}
use Rattle.draid_machine.specs.declared.names.Stage.TheVariants.{Live}
use Rattle.std.specs.HashMap.{get}

-- what is whole behind that: with the group for a floor, where it was freed
abbrev pub EarlierWhole : {R A : Type 0} → racks.Ghosts R → (ℕ → Bool) → (ℕ → Option (Shard R A)) → (ℕ → Option Pointer) → (seq floor : ℕ) → Option ℕ → Type 0
EarlierWhole rack owns now table seq floor None = IsWholeBy rack owns now table seq floor
EarlierWhole rack owns now table seq floor (Some group) = IsWholeBy rack owns now table seq group

-- no pointer of a table leads to the block of this one
abbrev pub IsApart : (ℕ → Option Pointer) → Pointer → Type 0
IsApart table p = (object : ℕ) (other : Pointer) → table object ≡ Some other → key_eq (key_of p) (key_of other) ≡ false

-- the checkpoint doesn't keep the block of an object
abbrev pub HasLoose : Store → ℕ → Type 0
HasLoose store object = (w : Write) → write_of store.changes object ≡ Some w → KeepsBirth store.marks w.birth → ⊥

-- It is dropped: where it lies is looked at, and a mark says so. The block stays.
pub record DropsEarlier (x : State) (we : Write) (floor : ℕ) (holds : List Hold) (store : Store) : Type 0 where
  pub group : ℕ
  pub drops : DropsBlock we floor group holds
  pub made : store ≡ record x.store { marks = Dropped (changes.key_of we) group ∷ x.store.marks; floor = group }

-- it is freed, or it is to be tried again
abbrev pub EarlierSays : {R A S : Type 0} → racks.Ghosts R → areas.Ghosts A → (S → ℕ → Shard R A → Shard R A → S → Type 0) → Bool → (owns now_owns : ℕ → Bool) → (last now : ℕ → Option (Shard R A)) → S → S → Pointer → (table then_table : ℕ → Option Pointer) → (seq floor : ℕ) → State → Write → Option ℕ → Type 0
EarlierSays rack area went shared owns now_owns last now a b p table then_table seq floor x we None = LeadsBy rack area went shared a b x (λ holds store. (store ≡ x.store) × OnlyLooks holds) (KnowsEarlier rack area now_owns now then_table seq floor p we)
EarlierSays rack area went shared owns now_owns last now a b p table then_table seq floor x we (Some group) = LeadsBy rack area went shared a b x (λ holds store. FreesBlock we floor group holds × (store ≡ record x.store { floor = group })) (Knows rack area now_owns now then_table seq group)

-- ---- a pool's own

-- which block is to be dropped in place of freed
abbrev pub KeptIs : Option ℕ → Option Pointer → Option Pointer → Type 0
KeptIs point None result = result ≡ None
KeptIs point (Some pointer) result = result ≡ (if holds_birth point pointer.birth then Some pointer else None)

-- The pool is whole, and this is the pointer of a live block, to which no pointer of its table leads. The checkpoint, which keeps it, has room for it.
pub record IsWholeBeside {R A : Type 0} (rack : racks.Ghosts R) (area : areas.Ghosts A) (pool : Pool R A) (pointer : Pointer) : Type 0 where
  pub whole : IsWhole rack area pool
  pub fits : PointFits 1 (point_of pool.uber) (get nat_eq pool.own.objects) pool.own.seq
  pub has : IsPointer pool pointer.object pointer
  pub apart : IsApart (get nat_eq pool.own.objects) pointer
  pub begun : pointer.seq ≤ pool.own.seq
  pub other : All (λ d. IsOther pointer.object pointer.seq d) (point_of pool.uber).drops

-- The pool stands for a state but for the block of a write, which is live, and isn't its object's any more, that has a later write: that is to be dropped, and wasn't yet.
pub record RepresentsBut {R A : Type 0} (rack : racks.Ghosts R) (area : areas.Ghosts A) (pool : Pool R A) (pointer : Pointer) (we : Write) (x : State) : Type 0 where
  pub stands : Stands rack area pool (get nat_eq pool.own.objects) x
  pub only : (m : ℕ) (k : Key) (h : Held) → blocks_of x.metaslabs m k ≡ Some h → h.stage ≡ Live → is_dropped (check_by x.store.marks) k ≡ false
      → ((m ≡ pointer.metaslab) × (k ≡ changes.key_of we)) ⊎ IsLastAt m k (write_of x.store.changes k.object)
  pub had : IsPointerOf pool.metaslabs.shards.items pointer we
  pub kept : KeepsBirth x.store.marks we.birth
  pub counts : is_dropped (check_by x.store.marks) (changes.key_of we) ≡ false
  pub newer : Write
  pub is_last : write_of x.store.changes we.object ≡ Some newer
  pub later : we.seq < newer.seq
