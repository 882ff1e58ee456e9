-- What an import finds on a shelf, and what it leaves there where it is refused, for each shelf that tells.
use Rattle.std.specs.Prelude.{◌≡◌, ◌≤◌, ◌+◌, ◌⊎◌, ℕ, List, Option, None, Ok, IsSome, MatchOption, length, nat_eq, option_map}
use Rattle.std.specs.HashMap.{get}
use Rattle.draid_names.specs.declared.pointer.Pointer.{Pointer}
use Rattle.draid_rack.specs.Rack.{Shape}
use Rattle.draid_rack.specs.declared.Rack as racks
use Rattle.draid_area.specs.Area.{flushes}
use Rattle.draid_area.specs.declared.Area as areas
use Rattle.draid_spec.specs.declared.layout.Geometry.{Geometry}
use Rattle.draid_record.specs.Record.{RecordTold, limits_of, record_of}
use Rattle.draid_segments.specs.Acts.{DropsBut, IsNamed}
use Rattle.draid_shelf.specs.Kits.{Held, KitCounts, KitTold, OnHeld}
use Rattle.draid_pool.specs.Taking.{takes_areas}
use Rattle.draid_stable.specs.Images.{image_by}
use Rattle.draid_stable.specs.Stable as stable
use Rattle.draid_shard.specs.declared.shard.Shard.{Shard}
use Rattle.draid_uber.specs.Slots.{group_of}
use Rattle.draid_uber.specs.Uber.{kept_of, layout_of, next_leaf_of, point_of}
use Rattle.draid_uber.specs.declared.uber.Uber.{Uber}
use Rattle.draid_session.specs.Making.{vdev_name_of}
use Rattle.draid_session.specs.State.{limit_of}
use Rattle.draid_found.specs.Together.{AreTogether}
use Rattle.draid_import.specs.Checking.{HoldsCheck}
use Rattle.draid_import.specs.Faulty.{TellsBody}
use Rattle.draid_import.specs.Found.{AreFreed, AreReopened, IsFoundUber, IsRecovered, OpensAllOver, SameButFlushed}
use Rattle.draid_import.specs.Imported.{AreLeft}
use Rattle.draid_import.specs.Points.{IsFoundBeside}
use Rattle.draid_pool.specs.declared.pool.Pool.{Pool}
use Rattle.draid_pool.specs.Pools.{HasNames}

-- ---- a pool

-- What is read of a pool that a shelf holds: its uberblock names a group; each metaslab is opened from its record of the group, on what the shelf held for it; they
-- are those of one pool; and beside the group's check record of each object there is the newest block, and the uberblock keeps the checkpoint.
pub record IsRead {R A : Type 0} (rack : racks.Ghosts R) (area : areas.Ghosts A) (held : Option Held) (leaves : ℕ → Option Shape) (counts : ℕ → KitCounts) (uber : Uber A) (shards : List (Shard R A))
    (newest : ℕ → Option Pointer) (seq : ℕ) : Type 0 where
  pub found : IsFoundUber area uber
  pub body : TellsBody held uber
  pub reopened : AreReopened rack (layout_of uber) (group_of (kept_of uber)) shards
  pub over : OpensAllOver rack area (limit_of (layout_of uber)) (group_of (kept_of uber)) (next_leaf_of uber) (takes_areas held) leaves counts shards
  pub together : AreTogether shards (length shards)
  pub blocks : IsFoundBeside (HoldsCheck (group_of (kept_of uber)) held) shards (group_of (kept_of uber)) 0 newest seq uber

-- A pool is made of these: it has the uberblock's layout, and of the metaslabs' blocks just the newest of each object and those that the checkpoint keeps are live.
pub record IsMadeOf {R A : Type 0} (rack : racks.Ghosts R) (shards : List (Shard R A)) (uber : Uber A) (newest : ℕ → Option Pointer) (seq : ℕ) (pool : Pool R A) : Type 0 where
  pub uber_is : pool.uber ≡ uber
  pub layout : pool.geometry ≡ layout_of uber
  pub objects : (object : ℕ) → get nat_eq pool.own.objects object ≡ newest object
  pub seq_is : pool.own.seq ≡ seq
  pub floor : pool.own.floor ≡ group_of (kept_of uber) + 1
  pub freed : AreFreed rack newest (point_of uber).group shards pool.metaslabs.shards.items
  pub only : AreLeft pool.metaslabs.shards.items newest (point_of uber).group

-- a pool is what was read of a shelf
pub record IsReadPool {R A : Type 0} (rack : racks.Ghosts R) (area : areas.Ghosts A) (held : Option Held) (leaves : ℕ → Option Shape) (counts : ℕ → KitCounts) (uber_count : ℕ) (pool : Pool R A) : Type 0 where
  pub uber : Uber A
  pub shards : List (Shard R A)
  pub newest : ℕ → Option Pointer
  pub seq : ℕ
  pub recovered : IsRecovered area held uber_count uber
  pub read : IsRead rack area held leaves counts uber shards newest seq
  pub made : IsMadeOf rack shards uber newest seq pool

-- ---- findings

-- a shelf holds a pool with this last group, with this name, and with so many objects
pub record FindsPool {R A : Type 0} (rack : racks.Ghosts R) (area : areas.Ghosts A) (held : Option Held) (leaves : ℕ → Option Shape) (counts : ℕ → KitCounts) (group : ℕ) (name : List ℕ) (objects : ℕ) : Type 0 where
  pub uber : Uber A
  pub shards : List (Shard R A)
  pub newest : ℕ → Option Pointer
  pub seq : ℕ
  pub read : IsRead rack area held leaves counts uber shards newest seq
  pub group_is : group ≡ group_of (kept_of uber)
  pub name_is : name ≡ vdev_name_of (layout_of uber).spec
  pub names : HasNames newest objects

-- a shelf knows the leaves of each metaslab whose devices it holds
abbrev pub KnowsLeaves : Held → (ℕ → Option Shape) → Type 0
KnowsLeaves held leaves = (m : ℕ) → IsSome (held.kits m) → IsSome (leaves m)

-- ---- what a refusal leaves

-- The devices of a metaslab as its opening from a record of this group leaves them: the areas tell what they did, and of the rack no leaf went that the record names.
pub record IsOpenedKit (geometry : Geometry) (m group next : ℕ) (old new : KitTold) : Type 0 where
  pub value : RecordTold
  pub read : record_of (limits_of geometry m group next) (stable.area_of group old.even old.odd).bytes ≡ Ok value
  pub rack : DropsBut (IsNamed (image_by value)) old.rack new.rack
  pub even : new.even ≡ old.even
  pub odd : new.odd ≡ old.odd

-- they are as they were, or so
abbrev pub IsKitBack : Geometry → ℕ → ℕ → ℕ → Option KitTold → Option KitTold → Type 0
IsKitBack geometry m group next old new = (new ≡ old) ⊎ MatchOption old ⊥ (λ x. MatchOption new ⊥ (λ y. IsOpenedKit geometry m group next x y))

-- all that was taken is held again: the area of the uberblock, which was flushed, and the devices of each metaslab
pub record IsHeldAgain (geometry : Geometry) (group next : ℕ) (old new : Held) : Type 0 where
  pub uber : new.uber ≡ option_map flushes old.uber
  pub checks : new.checks ≡ old.checks
  pub kits : (m : ℕ) → IsKitBack geometry m group next (old.kits m) (new.kits m)

-- an uberblock was found, and metaslabs were opened from the records of its group
pub record LeavesOpened {A : Type 0} (area : areas.Ghosts A) (old new : Option Held) : Type 0 where
  pub uber : Uber A
  pub found : IsFoundUber area uber
  pub body : TellsBody old uber
  pub held : OnHeld new (λ y. MatchOption old ⊥ (λ x. IsHeldAgain (layout_of uber) (group_of (kept_of uber)) (next_leaf_of uber) x y))

-- no count fell of a rack as a whole, or of an area
pub record KeepsKitCounts (before after : KitCounts) : Type 0 where
  pub rack : before.rack None ≤ after.rack None
  pub even : before.even ≤ after.even
  pub odd : before.odd ≤ after.odd

-- A refused import gives back all that it took, and the shelf tells where it did: nothing was opened, and but for a flush all is as it was; or metaslabs were opened.
pub record LeavesAll {A : Type 0} (area : areas.Ghosts A) (old new : Option Held) (before after : ℕ → KitCounts) (count now : ℕ) : Type 0 where
  pub tells : OnHeld old (λ x. IsSome new)
  pub held : OnHeld new (λ y. MatchOption old ⊥ (λ x. SameButFlushed x y)) ⊎ LeavesOpened area old new
  pub counts : (m : ℕ) → KeepsKitCounts (before m) (after m)
  pub uber : count ≤ now
