-- What an import finds of a pool that rests on a shelf: the body of its uberblock, a group of each metaslab, and the newest block of each object.
use Rattle.std.specs.Prelude.{◌≡◌, ◌+◌, ◌<◌, ◌≤◌, ◌⊎◌, ℕ, false, true, List, Option, Some, None, IsSomeAnd, length, slice_get}
use Rattle.draid_rack.specs.Rack.{Shape}
use Rattle.draid_rack.specs.declared.Rack as racks
use Rattle.draid_area.specs.Area as content
use Rattle.draid_area.specs.declared.Area as areas
use Rattle.draid_map.specs.Place.{IsLayout}
use Rattle.draid_names.specs.declared.pointer.Pointer.{Pointer}
use Rattle.draid_machine.specs.declared.names.Held.{Held as Block}
use Rattle.draid_machine.specs.declared.names.Key.{Key}
use Rattle.draid_machine.specs.declared.names.Stage.TheVariants.{Live}
use Rattle.draid_machine.specs.Images.{IsImage}
use Rattle.draid_machine.specs.State as machine
use Rattle.draid_objects.specs.Marks.{Mark, check_by, counted, is_dropped}
use Rattle.draid_checkpoint.specs.Check.{holds_birth}
use Rattle.draid_objects.specs.Blocks.{Blocks, SaysOf}
use Rattle.draid_objects.specs.Changes.{upto, write_of}
use Rattle.draid_record.specs.declared.uber.UberBody.{UberBody}
use Rattle.draid_segments.specs.Segments.{Pieces}
use Rattle.draid_shelf.specs.Kits.{KitCounts, KitTold}
use Rattle.draid_shelf.specs.declared.kit.Kit.{Kit}
use Rattle.draid_stable.specs.Opening.{has_leaf_arm}
use Rattle.draid_stable.specs.Stable as stable
use Rattle.draid_entries.specs.declared.entry.Entry.{Entry}
use Rattle.draid_entries.specs.Entries.{entry_at}
use Rattle.draid_entries.specs.Maps.{held_at, key_of, staged}
use Rattle.draid_pool.specs.Groups.{ListsOnce}
use Rattle.draid_shard.specs.declared.shard.Shard.{Shard}
use Rattle.draid_uber.specs.Uber.{point_of}
use Rattle.draid_uber.specs.declared.uber.Uber.{Uber}
use Rattle.draid_session.specs.Follows.{Follows}
use Rattle.draid_session.specs.Holds.{Hold}
use Rattle.draid_session.specs.Opening.{Finds, Frees, FreesOlder, IsLastSeq, LeafIn, MayFind, Reopens, VersionIn}
use Rattle.draid_session.specs.Points.{IsPointOf, KeepsBirth}
use Rattle.draid_session.specs.State.{Metaslab, State}
use Rattle.draid_found.specs.Found.{LeadsTo}
use Rattle.draid_pool.specs.Returning.{RestsOn, SameCounts}
use Rattle.draid_pool.specs.Importable.{AllAlike, HasImageLeaves, HasPoolVersions, Shared}
use Rattle.draid_pool.specs.Metaslabs.{IsMetaslab}
use Rattle.draid_pool.specs.Objects.{HasGroups, HoldsObjects, blocks_of}
use Rattle.draid_pool.specs.Pools.{part_in}
use Rattle.draid_pool.specs.Records.{HasImages, HasLeafNumbers, area_for}
use Rattle.draid_pool.specs.Ubers.{IsUber, body_of}

-- a body that was found is that of a group which the uberblock may have, and the state's layout is at its version
pub record FindsBody (x : State) (body : UberBody) : Type 0 where
  pub may : MayFind x body.group
  pub some : 0 < body.group
  pub leaf : LeafIn x body.group body.next_leaf
  pub version : VersionIn x body.group x.geometry.props.version
  pub is : body ≡ body_of x.geometry x.geometry.props.version body.group body.next_leaf

-- as a metaslab is opened no count of calls on its devices falls, but for those of leaves that go
pub record CountsOn {R A : Type 0} (rack : racks.Ghosts R) (area : areas.Ghosts A) (kit : Kit R A) (shard : Shard R A) : Type 0 where
  pub rack_count : rack.faults kit.rack None ≤ rack.faults shard.rack None
  pub leaf_counts : (leaf : ℕ) → has_leaf_arm shard.slots leaf ≡ true → rack.faults kit.rack (Some leaf) ≤ rack.faults shard.rack (Some leaf)
  pub even : area.faults kit.even ≤ area.faults shard.even
  pub odd : area.faults kit.odd ≤ area.faults shard.odd

-- ---- metaslabs

-- a metaslab of a state was opened from its image of a group
pub record OpensFound {R A : Type 0} (rack : racks.Ghosts R) (area : areas.Ghosts A) (x : State) (group m : ℕ) (pieces : Pieces) (y : Metaslab) (shard : Shard R A) : Type 0 where
  pub z : Metaslab
  pub reopens : Reopens x.geometry x.perms group m y z
  pub is : IsMetaslab rack area (part_in x m) pieces shard z
  pub once : (image : machine.Image) → IsImage z.world image → content.OnTold (area_for image.group (area.told shard.even) (area.told shard.odd)) (ListsOnce x.geometry m image)

-- a metaslab of a state rests on a kit as its image of a group has it, and the kit has its counts, and the leaves that the image names
pub record RestsFound (x : State) (group m : ℕ) (pieces : Pieces) (y : Metaslab) (kit : KitTold) (known : Option Shape) (counts : KitCounts) : Type 0 where
  pub z : Metaslab
  pub reopens : Reopens x.geometry x.perms group m y z
  pub rests : RestsOn x m pieces z kit
  pub counted : SameCounts z.counts counts
  pub once : (image : machine.Image) → IsImage z.world image → ListsOnce x.geometry m image (stable.area_of image.group kit.even kit.odd)
  pub leaves : (image : machine.Image) → IsImage z.world image → IsSomeAnd known (HasImageLeaves x.geometry image)

-- the state that a group and its number of the next leaf give, with these metaslabs and marks
abbrev pub found_state : State → (group next : ℕ) → List Metaslab → List Mark → (seq uber_count : ℕ) → State
found_state x group next metaslabs marks seq uber_count = record {
  geometry = x.geometry;
  perms = x.perms;
  metaslabs = metaslabs;
  store = record { changes = upto group x.store.changes; marks = marks; seq = seq; floor = group + 1 };
  committed = group;
  kept_leaf = next;
  next_leaf = next;
  kept_version = x.geometry.props.version;
  next_version = x.geometry.props.version;
  uber_count = uber_count;
  pending = false;
  told = true;
}

-- ---- what is found

-- Shards stand for the metaslabs of a state, and the uberblock is the state's: all that a pool has of it but the table of its objects. Older blocks may be live. Its layout is at the version that
-- the committed group has.
pub record StandsFound {R A : Type 0} (rack : racks.Ghosts R) (area : areas.Ghosts A) (shards : List (Shard R A)) (uber : Uber A) (pieces : ℕ → Pieces) (x : State) : Type 0 where
  pub layout : IsLayout x.geometry x.perms
  pub many : length x.metaslabs ≡ x.geometry.props.metaslabs
  pub shards_are : length shards ≡ length x.metaslabs
  pub each : (m : ℕ) (shard : Shard R A) (y : Metaslab) → slice_get shards m ≡ Some shard → slice_get x.metaslabs m ≡ Some y → IsMetaslab rack area (part_in x m) (pieces m) shard y
  pub holds : HoldsObjects x.geometry x.committed x.store (blocks_of x.metaslabs) pieces
  pub groups : HasGroups x
  pub uber_is : IsUber area uber x
  pub images : HasImages x
  pub leaves : HasLeafNumbers x
  pub shared : Shared
  pub versions : HasPoolVersions x.kept_version x.next_version shared
  pub at_version : x.kept_version ≡ x.geometry.props.version
  pub alike : AllAlike shared x
  pub open_groups : (m : ℕ) (y : Metaslab) → slice_get x.metaslabs m ≡ Some y → y.world.open_group ≡ x.committed + 1
  pub floor : x.store.floor ≡ x.committed + 1

-- the blocks of a state that the checkpoint doesn't keep alone
abbrev pub counted_of : State → Blocks
counted_of x = counted (check_by x.store.marks) (blocks_of x.metaslabs)

-- what they say of its objects is what befell these
abbrev pub SaysObjects : State → Type 0
SaysObjects x = (object : ℕ) → SaysOf (counted_of x) object (write_of x.store.changes object)

-- Of the blocks of a found state some were freed that have later ones, and shards stand for the state that this gave.
pub record FreedOlder {R A : Type 0} (rack : racks.Ghosts R) (area : areas.Ghosts A) (mid : State) (shards : List (Shard R A)) (uber : Uber A) (pieces : ℕ → Pieces) : Type 0 where
  pub holds : List Hold
  pub reached : State
  pub follows : Follows holds mid reached
  pub older : FreesOlder mid mid.committed holds
  pub stands : StandsFound rack area shards uber pieces reached
  pub same_store : reached.store ≡ mid.store
  pub same_group : reached.committed ≡ mid.committed
  pub each : (m : ℕ) (key : Key) (h : Block) → blocks_of mid.metaslabs m key ≡ Some h → Frees m key holds ⊎ (blocks_of reached.metaslabs m key ≡ Some h)
  pub kept : (m : ℕ) (key : Key) (h : Block) → blocks_of reached.metaslabs m key ≡ Some h → h.stage ≡ Live → blocks_of mid.metaslabs m key ≡ Some h

-- ---- the newest blocks

-- a table has pointers of live blocks
abbrev pub HasPointers : {R A : Type 0} → List (Shard R A) → (ℕ → Option Pointer) → Type 0
HasPointers shards newest = (object : ℕ) (p : Pointer) → newest object ≡ Some p → LeadsTo shards object p

-- a block stays: it is its object's newest, or the checkpoint of this group keeps it
abbrev pub Stays : (ℕ → Option Pointer) → Option ℕ → Pointer → Type 0
Stays newest own p = (newest p.object ≡ Some p) ⊎ (holds_birth own p.birth ≡ true)

-- for each object of which there is a block a table has a block of it, and none has a greater number
pub record IsNewestOf (blocks : Blocks) (newest : ℕ → Option Pointer) : Type 0 where
  pub own : (object : ℕ) (p : Pointer) → newest object ≡ Some p → p.object ≡ object
  pub there : (object : ℕ) (p : Pointer) → newest object ≡ Some p → blocks p.metaslab (key_of p) ≡ Some (held_at (staged Live p))
  pub greatest : (m : ℕ) (k : Key) (h : Block) → blocks m k ≡ Some h → (p : Pointer) × (newest k.object ≡ Some p) × (k.seq ≤ p.seq)

-- no block is live but those that stay
abbrev pub AreLeft : {R A : Type 0} → List (Shard R A) → (ℕ → Option Pointer) → Option ℕ → Type 0
AreLeft {R} {A} shards newest own = (m : ℕ) (shard : Shard R A) (first : ℕ) (e : Entry) → slice_get shards m ≡ Some shard → entry_at shard.entries first ≡ Some e → e.stage ≡ Live
    → Stays newest own e.pointer

-- the greatest number of a block in the shards, 0 where there is none
pub record IsLastIn {R A : Type 0} (shards : List (Shard R A)) (seq : ℕ) : Type 0 where
  pub one : (seq ≡ 0) ⊎ ((m : ℕ) × (shard : Shard R A) × (first : ℕ) × (e : Entry) × (slice_get shards m ≡ Some shard) × (entry_at shard.entries first ≡ Some e) × (seq ≡ e.pointer.seq))
  pub all : (m : ℕ) (shard : Shard R A) (first : ℕ) (e : Entry) → slice_get shards m ≡ Some shard → entry_at shard.entries first ≡ Some e → e.pointer.seq ≤ seq

-- ---- the objects of what was found

-- Of a found state: its blocks are live and store what befell the objects, which those say that count; and a table has the newest of these of each object. Its checkpoint is of this group, and keeps
-- what it keeps alone; and what it keeps it keeps alone, but for the blocks of the table.
pub record KnowsObjects (mid : State) (pieces : ℕ → Pieces) (newest : ℕ → Option Pointer) (own : Option ℕ) : Type 0 where
  pub says : SaysObjects mid
  pub holds : HoldsObjects mid.geometry mid.committed mid.store (blocks_of mid.metaslabs) pieces
  pub live : (m : ℕ) (k : Key) (h : Block) → blocks_of mid.metaslabs m k ≡ Some h → h.stage ≡ Live
  pub newest_is : IsNewestOf (counted_of mid) newest
  pub point : IsPointOf mid.store.marks own
  pub kept : (m : ℕ) (k : Key) (h : Block) → blocks_of mid.metaslabs m k ≡ Some h → is_dropped (check_by mid.store.marks) k ≡ true → KeepsBirth mid.store.marks h.birth
  pub dropped : (m : ℕ) (k : Key) (h : Block) → blocks_of mid.metaslabs m k ≡ Some h → KeepsBirth mid.store.marks h.birth
      → (is_dropped (check_by mid.store.marks) k ≡ true) ⊎ ((p : Pointer) × (newest k.object ≡ Some p) × (key_of p ≡ k))

-- A group of a state was found, with the objects of its metaslabs, and shards stand for what it gives, of which older blocks may be freed.
pub record IsFoundOf {R A : Type 0} (rack : racks.Ghosts R) (area : areas.Ghosts A) (x : State) (uber : Uber A) (pieces : ℕ → Pieces) (newest : ℕ → Option Pointer) (seq : ℕ) (shards : List (Shard R A)) : Type 0 where
  pub group : ℕ
  pub mid : State
  pub finds : Finds x group mid
  pub last : IsLastSeq mid mid.store.seq
  pub seq_is : mid.store.seq ≡ seq
  pub knows : KnowsObjects mid pieces newest (point_of uber).group
  pub freed : FreedOlder rack area mid shards uber pieces
