-- How the metaslabs of an open pool hold its objects.
use Rattle.std.specs.Prelude.{◌≡◌, ◌≤◌, ◌+◌, ⊤, ℕ, true, List, Option, Some, None, length, option_map, slice_get, slice_index, max, All}
use Rattle.sha2.specs.Sha256.{sha256}
use Rattle.draid_gf.specs.Field.{IsByte}
use Rattle.draid_names.specs.declared.numbers.TheConstants.{LAST_NUMBER}
use Rattle.draid_names.specs.declared.pointer.Pointer.{Pointer}
use Rattle.draid_spec.specs.declared.layout.Geometry.{Geometry}
use Rattle.draid_block.specs.Blocks.{AreColumns, cut_of}
use Rattle.draid_machine.specs.declared.names.Key.{Key}
use Rattle.draid_machine.specs.declared.names.Held.{Held}
use Rattle.draid_machine.specs.Names.{is_block}
use Rattle.draid_machine.specs.State as machine
use Rattle.draid_objects.specs.Blocks.{Blocks, held_in}
use Rattle.draid_objects.specs.Changes.{Write, key_of, write_by}
use Rattle.draid_objects.specs.Marks.{mark_group}
use Rattle.draid_objects.specs.Stores.{AreMarkedUpto, IsBehindChecks, IsFloor, Stores}
use Rattle.draid_segments.specs.Segments.{Pieces}
use Rattle.draid_shard.specs.Looks.{IsLive}
use Rattle.draid_shard.specs.Columns.{ArePieces}
use Rattle.draid_shard.specs.declared.shard.Shard.{Shard}
use Rattle.draid_session.specs.Rooms.{stripes_for}
use Rattle.draid_session.specs.State.{Metaslab, State, Store}

-- the states of the metaslabs, by number, and what they hold
abbrev pub worlds_of : List Metaslab → ℕ → Option machine.State
worlds_of metaslabs m = option_map (λ (x : Metaslab). x.world) (slice_get metaslabs m)

abbrev pub blocks_of : List Metaslab → Blocks
blocks_of metaslabs = held_in (worlds_of metaslabs)

-- the pieces of a write's block are the rows of the columns of its bytes, or of others that have their length and digest
pub record HasPieces (geometry : Geometry) (write : Write) (pieces : Pieces) : Type 0 where
  pub content : List ℕ
  pub len : length content ≡ length write.bytes
  pub digest : sha256 content ≡ sha256 write.bytes
  pub bytes : (j : ℕ) → IsByte (slice_index content j)
  pub columns : List (List ℕ)
  pub are : AreColumns (cut_of geometry) content columns
  pub rows : ArePieces geometry.props.sector geometry.g (stripes_for geometry write.bytes) columns (key_of write) pieces

-- The blocks store what befell the objects, beside the checkpoint; and the floor is one for each of them. No write is under way, and none that is held has a greater number than the
-- last. Nothing befell the checkpoint before the first group. The pieces of each block are those of its write's bytes.
pub record HoldsObjects (geometry : Geometry) (committed : ℕ) (store : Store) (blocks : Blocks) (pieces : ℕ → Pieces) : Type 0 where
  pub stores : Stores sha256 committed store.changes store.marks blocks
  pub floors : (object : ℕ) → IsFloor store.changes blocks object store.floor
  pub settled : (m : ℕ) (k : Key) (h : Held) → blocks m k ≡ Some h → is_block h.stage ≡ true
  pub numbered : (m : ℕ) (k : Key) (h : Held) → blocks m k ≡ Some h → k.seq ≤ store.seq
  pub positive : All (λ m. 1 ≤ mark_group m) store.marks
  pub bytes : (m : ℕ) (k : Key) (h : Held) (write : Write) → blocks m k ≡ Some h → write_by store.changes k ≡ Some write
      → HasPieces geometry write (pieces m)

-- Each metaslab has committed the pool's group. No call has used a group behind the next one of a metaslab in which that group alone is committed. A checkpoint that a group has from the
-- committed one on is of a group that is open in no metaslab any more, and no mark is of a group that none has opened.
pub record HasGroups (x : State) : Type 0 where
  pub committed : (m : ℕ) (y : Metaslab) → slice_get x.metaslabs m ≡ Some y → y.world.committed ≡ x.committed
  pub next : x.store.floor ≤ x.committed + 2
  pub last : x.store.floor ≤ LAST_NUMBER
  pub checks : (m : ℕ) (y : Metaslab) → slice_get x.metaslabs m ≡ Some y → IsBehindChecks x.committed x.store.marks y.world.open_group
  pub marked : AreMarkedUpto (max x.store.floor (x.committed + 1)) x.store.marks

-- a block is that of an object's last write
abbrev pub IsLastAt : ℕ → Key → Option Write → Type 0
IsLastAt m key None = ⊥
IsLastAt m key (Some write) = (write.metaslab ≡ m) × (key_of write ≡ key)

-- ---- the table

-- A pointer is that of a write's block, which is live in its metaslab.
pub record IsPointerOf {R A : Type 0} (shards : List (Shard R A)) (pointer : Pointer) (write : Write) : Type 0 where
  pub object_is : pointer.object ≡ write.object
  pub seq_is : pointer.seq ≡ write.seq
  pub metaslab_is : pointer.metaslab ≡ write.metaslab
  pub birth_is : pointer.birth ≡ write.birth
  pub len_is : pointer.len ≡ length write.bytes
  pub digest_is : pointer.digest ≡ sha256 write.bytes
  pub shard : Shard R A
  pub there : slice_get shards pointer.metaslab ≡ Some shard
  pub live : IsLive shard pointer

-- an object's pointer is there just where it has bytes, and is that of their write's block
abbrev pub PointsTo : {R A : Type 0} → List (Shard R A) → Option Pointer → Option Write → Type 0
PointsTo shards None None = ⊤
PointsTo shards (Some pointer) (Some write) = IsPointerOf shards pointer write
PointsTo shards pointer write = ⊥
