-- What one thread knows of its own objects, and what its commands do to that.
use Rattle.std.specs.Prelude.{◌≡◌, ◌==◌, ◌&&◌, ◌+◌, ◌≤◌, ⊤, ℕ, Bool, true, false, List, filter, Option, Some, None, length, max, slice_get, if◌then◌else◌}
use Rattle.sha2.specs.Sha256.{sha256}
use Rattle.draid_names.specs.declared.numbers.TheConstants.{LAST_NUMBER}
use Rattle.draid_names.specs.declared.pointer.Pointer.{Pointer}
use Rattle.draid_rack.specs.declared.Rack as racks
use Rattle.draid_area.specs.declared.Area as areas
use Rattle.draid_spec.specs.declared.layout.Geometry.{Geometry}
use Rattle.draid_machine.specs.declared.names.Held.{Held}
use Rattle.draid_machine.specs.declared.names.Key.{Key}
use Rattle.draid_machine.specs.declared.names.Stage.TheVariants.{Live}
use Rattle.draid_machine.specs.Names.{is_block, key_eq}
use Rattle.draid_segments.specs.Segments.{Pieces}
use Rattle.draid_entries.specs.Entries.{held_in}
use Rattle.draid_objects.specs.Blocks.{Blocks}
use Rattle.draid_objects.specs.Changes.{Change, Write, object_of, write_of}
use Rattle.draid_shard.specs.Looks.{IsLive}
use Rattle.draid_shard.specs.Fits.{Valid}
use Rattle.draid_shard.specs.Part.{Part, layout_in}
use Rattle.draid_shard.specs.States.{part_of}
use Rattle.draid_session.specs.Holds.{Hold}
use Rattle.draid_session.specs.State.{Metaslab, State, Store}
use Rattle.draid_pool.specs.Metaslabs.{IsMetaslab}
use Rattle.draid_pool.specs.Objects.{HoldsObjects, IsLastAt, blocks_of}
use Rattle.draid_pool.specs.Pools.{part_in}
use Rattle.draid_pool.specs.Follows.{FollowsBy}
use Rattle.draid_pool.specs.Drifts.{KeepsBytes, KeepsGroups, Since, groups_number}
use Rattle.draid_shard.specs.declared.shard.Shard.{Shard}
use Rattle.draid_objects.specs.Marks.{Dropped, Mark, check_by, is_dropped}
use Rattle.draid_objects.specs.Stores.{AreMarkedUpto, IsBehindChecks}

-- ---- what the blocks are of a thread's own objects

-- the places of its own objects' blocks, and some places but for one
abbrev pub all_of : (ℕ → Bool) → ℕ → Key → Bool
all_of owns m k = owns k.object

abbrev pub but : ℕ → Key → (ℕ → Key → Bool) → ℕ → Key → Bool
but n j mine m k = if (n == m) && key_eq j k then false else mine m k

abbrev pub own_blocks : (ℕ → Key → Bool) → Blocks → Blocks
own_blocks mine blocks m k = if mine m k then blocks m k else None

module _ (owns : ℕ → Bool) where
  abbrev pub own_changes : List Change → List Change
  own_changes changes = filter (λ c. owns (object_of c)) changes

  -- what befell the checkpoint by its own blocks, and by all
  abbrev pub is_own_mark : Mark → Bool
  is_own_mark (Dropped key group) = owns key.object
  is_own_mark mark = true

  abbrev pub own_store : Store → Store
  own_store store = record store { changes = own_changes store.changes; marks = filter is_own_mark store.marks }

-- no metaslab has committed a later group
abbrev pub Bounds : State → ℕ → Type 0
Bounds x c = (m : ℕ) (y : Metaslab) → slice_get x.metaslabs m ≡ Some y → y.world.committed ≤ c

-- The blocks of a thread's own objects store what befell them, from each group on up to which all metaslabs have committed, where those of some places are seen alone:
-- a write that is under way lies where none is seen. Each live one is that of its object's last write, where those of some places are seen: an earlier one that is
-- to be freed lies where none is. A checkpoint is of a group that is open in no metaslab any more, and no mark is of a group behind both the floor and one that is open.
pub record HoldsBut (owns : ℕ → Bool) (mine lives : ℕ → Key → Bool) (x : State) (pieces : ℕ → Pieces) : Type 0 where
  pub holds : (c : ℕ) → Bounds x c → HoldsObjects x.geometry c (own_store owns x.store) (own_blocks mine (blocks_of x.metaslabs)) pieces
  pub only : (m : ℕ) (k : Key) (h : Held) → own_blocks lives (blocks_of x.metaslabs) m k ≡ Some h → h.stage ≡ Live → is_dropped (check_by (own_store owns x.store).marks) k ≡ false → IsLastAt m k (write_of (own_changes owns x.store.changes) k.object)
  pub checks : (c : ℕ) → Bounds x c → (m : ℕ) (y : Metaslab) → slice_get x.metaslabs m ≡ Some y → IsBehindChecks c (own_store owns x.store).marks y.world.open_group
  pub marked : (m : ℕ) (y : Metaslab) → slice_get x.metaslabs m ≡ Some y → AreMarkedUpto (max x.store.floor y.world.open_group) (own_store owns x.store).marks

-- all of them are
abbrev pub HoldsOwn : (ℕ → Bool) → State → (ℕ → Pieces) → Type 0
HoldsOwn owns x pieces = HoldsBut owns (all_of owns) (all_of owns) x pieces

-- ---- pointers

module _ {R A : Type 0} (last : ℕ → Option (Shard R A)) where
  -- a pointer is that of a write's block, which is live in its metaslab
  pub record IsPointerAt (pointer : Pointer) (write : Write) : Type 0 where
    pub object_is : pointer.object ≡ write.object
    pub seq_is : pointer.seq ≡ write.seq
    pub metaslab_is : pointer.metaslab ≡ write.metaslab
    pub birth_is : pointer.birth ≡ write.birth
    pub len_is : pointer.len ≡ length write.bytes
    pub digest_is : pointer.digest ≡ sha256 write.bytes
    pub shard : Shard R A
    pub there : last pointer.metaslab ≡ Some shard
    pub live : IsLive shard pointer

  abbrev pub PointsAt : Option Pointer → Option Write → Type 0
  PointsAt None None = ⊤
  PointsAt (Some pointer) (Some write) = IsPointerAt pointer write
  PointsAt pointer write = ⊥

  -- the pointer of a live block of a thread's own object
  pub record HasPointer (rack : racks.Ghosts R) (owns : ℕ → Bool) (object : ℕ) (pointer : Pointer) : Type 0 where
    pub object_is : pointer.object ≡ object
    pub own : owns object ≡ true
    pub shard : Shard R A
    pub there : last pointer.metaslab ≡ Some shard
    pub valid : Valid rack shard
    pub live : IsLive shard pointer

-- ---- what a command needs, whatever is known of the devices

-- A metaslab as a thread left it. Of its blocks that are seen each has the number of a write that was begun, and none is of a write that is under way.
pub record IsHeldBy {R A : Type 0} (rack : racks.Ghosts R) (mine : Key → Bool) (seq : ℕ) (shard : Shard R A) : Type 0 where
  pub valid : Valid rack shard
  pub numbered : (key : Key) (h : Held) → mine key ≡ true → held_in shard.entries key ≡ Some h → key.seq ≤ seq
  pub settled : (key : Key) (h : Held) → mine key ≡ true → held_in shard.entries key ≡ Some h → is_block h.stage ≡ true

-- a floor is at most the group that was open in some metaslab as it was left
pub record IsNear {R A : Type 0} (floor : ℕ) (last : ℕ → Option (Shard R A)) : Type 0 where
  pub metaslab : ℕ
  pub shard : Shard R A
  pub there : last metaslab ≡ Some shard
  pub near : floor ≤ shard.open_group

-- What a thread has, where the blocks of some places are seen: its metaslabs, and pointers of live blocks. Its floor is near what it left. Where the groups are its own, all
-- metaslabs have committed the same one, and its floor is at most two ahead of that.
pub record IsWholeBut {R A : Type 0} (rack : racks.Ghosts R) (owns : ℕ → Bool) (mine : ℕ → Key → Bool) (last : ℕ → Option (Shard R A)) (table : ℕ → Option Pointer) (seq floor : ℕ) : Type 0 where
  pub shards : (m : ℕ) (shard : Shard R A) → last m ≡ Some shard → IsHeldBy rack (mine m) seq shard
  pub placed : (m : ℕ) (shard : Shard R A) → last m ≡ Some shard → shard.number ≡ m
  pub together : (m n : ℕ) (shard other : Shard R A) → owns groups_number ≡ true → last m ≡ Some shard → last n ≡ Some other → other.committed ≡ shard.committed
  pub next : (m : ℕ) (shard : Shard R A) → owns groups_number ≡ true → last m ≡ Some shard → floor ≤ shard.committed + 2
  pub pointers : (object : ℕ) (pointer : Pointer) → table object ≡ Some pointer → HasPointer last rack owns object pointer
  pub low : floor ≤ LAST_NUMBER
  pub reached : IsNear floor last

-- what each command of a thread needs and keeps
abbrev pub IsWholeBy : {R A : Type 0} → racks.Ghosts R → (ℕ → Bool) → (ℕ → Option (Shard R A)) → (ℕ → Option Pointer) → (seq floor : ℕ) → Type 0
IsWholeBy rack owns last table seq floor = IsWholeBut rack owns (all_of owns) last table seq floor

-- what was whole, where the blocks of some places are seen, is so then
abbrev pub KeepsWhole : {R A : Type 0} → racks.Ghosts R → (ℕ → Bool) → (ℕ → Key → Bool) → (last now : ℕ → Option (Shard R A)) → Type 0
KeepsWhole rack owns mine last now = (table : ℕ → Option Pointer) (seq floor : ℕ) → IsWholeBut rack owns mine last table seq floor → IsWholeBut rack owns mine now table seq floor

-- each metaslab has this layout
abbrev pub HaveLayout : {R A : Type 0} → Geometry → (ℕ → Option (Shard R A)) → Type 0
HaveLayout {R} {A} geometry last = (m : ℕ) (shard : Shard R A) → last m ≡ Some shard → shard.geometry ≡ geometry

-- a metaslab is the same as before, and so are its groups, arms and reserved events where the groups are the thread's own
pub record Stays {R A : Type 0} (owns : ℕ → Bool) (old new : Shard R A) : Type 0 where
  pub part : part_of new ≡ part_of old
  pub groups : owns groups_number ≡ true → KeepsGroups old new

-- so is each, and none comes or goes
pub record AllStay {R A : Type 0} (owns : ℕ → Bool) (last now : ℕ → Option (Shard R A)) : Type 0 where
  pub each : (m : ℕ) (shard : Shard R A) → last m ≡ Some shard → (after : Shard R A) × (now m ≡ Some after) × Stays owns shard after
  pub absent : (m : ℕ) → last m ≡ None → now m ≡ None

-- ---- states

-- The thread has these metaslabs as it left them, a table of pointers, the number of its last write and a floor. It knows the state of a pool as far as that: what
-- each metaslab was as it was left, and all of its own objects, but for what lies where nothing is seen.
pub record KnowsBut {R A : Type 0} (rack : racks.Ghosts R) (area : areas.Ghosts A) (owns : ℕ → Bool) (mine lives : ℕ → Key → Bool) (last : ℕ → Option (Shard R A)) (table : ℕ → Option Pointer) (number group : ℕ) (pieces : ℕ → Pieces) (x : State) : Type 0 where
  pub each : (m : ℕ) (shard : Shard R A) → last m ≡ Some shard → (y : Metaslab) × (slice_get x.metaslabs m ≡ Some y) × IsMetaslab rack area (part_in x m) (pieces m) shard y
  pub holds : HoldsBut owns mine lives x pieces
  pub objects : (object : ℕ) → owns object ≡ true → PointsAt last (table object) (write_of x.store.changes object)
  pub seq : x.store.seq ≡ number
  pub floor : x.store.floor ≡ group

-- none of its writes is under way
pub record Knows {R A : Type 0} (rack : racks.Ghosts R) (area : areas.Ghosts A) (owns : ℕ → Bool) (last : ℕ → Option (Shard R A)) (table : ℕ → Option Pointer) (number group : ℕ) (x : State) : Type 0 where
  pub pieces : ℕ → Pieces
  pub but_it : KnowsBut rack area owns (all_of owns) (all_of owns) last table number group pieces x

-- One hold of a thread's own: of a metaslab that stood for the one which was found, behind others' holds since this thread left it. Where all blocks had bytes, they have them behind it.
pub record Between {R A S : Type 0} (rack : racks.Ghosts R) (area : areas.Ghosts A) (went : S → ℕ → Shard R A → Shard R A → S → Type 0) (shared : Bool) (part : ℕ → Part) (a : S) (m : ℕ) (old found left : Metaslab) (b : S) : Type 0 where
  pub before : Shard R A
  pub after : Shard R A
  pub goes : went a m before after b
  pub pieces : Pieces
  pub now : Pieces
  pub found_is : IsMetaslab rack area (part m) pieces before found
  pub left_is : IsMetaslab rack area (part m) now after left
  pub since : Since (layout_in (part m)) old found
  pub alone : shared ≡ false → found ≡ old
  pub bytes : KeepsBytes rack area (part m) before found after

-- Holds of metaslabs by one thread led to a state of which this is known. They are what is said to be done, with what the thread has of its own then; between them
-- others may have held the metaslabs.
pub record LeadsBy {R A S : Type 0} (rack : racks.Ghosts R) (area : areas.Ghosts A) (went : S → ℕ → Shard R A → Shard R A → S → Type 0) (shared : Bool) (a b : S) (x : State) (does : List Hold → Store → Type 0) (known : State → Type 0) : Type 0 where
  pub holds : List Hold
  pub reached : State
  pub store : Store
  pub follows : FollowsBy (Between rack area went shared (part_in x)) (λ a x y b. ⊥) a holds x b reached
  pub done : does holds store
  pub knows : known (record reached { store = store })

-- a command
abbrev pub CarriesBy : {R A S : Type 0} → racks.Ghosts R → areas.Ghosts A → (S → ℕ → Shard R A → Shard R A → S → Type 0) → Bool → (ℕ → Bool) → (ℕ → Option (Shard R A)) → (ℕ → Option Pointer) → (seq floor : ℕ) → S → S → State → (List Hold → Store → Type 0) → Type 0
CarriesBy rack area went shared owns last table seq floor a b x does = LeadsBy rack area went shared a b x does (Knows rack area owns last table seq floor)
