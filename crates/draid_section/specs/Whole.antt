-- From a whole pool to lanes that are whole, and back.
use Rattle.std.specs.Prelude.{◌≡◌, ◌≤◌, ◌<◌, ◌⊎◌, ℕ, true, false, nat_eq, List, [], Option, Some, length, slice_get, None}
use Rattle.std.specs.HashMap.{get}
use Rattle.std.specs.declared.vec.Vec.{Vec}
use Rattle.std.specs.declared.alloc.Global.{Global}
use Rattle.draid_names.specs.declared.numbers.TheConstants.{OBJECTS}
use Rattle.draid_names.specs.declared.pointer.Pointer.{Pointer}
use Rattle.draid_rack.specs.declared.Rack as racks
use Rattle.draid_area.specs.declared.Area as areas
use Rattle.draid_shard.specs.declared.shard.Shard.{Shard}
use Rattle.draid_turn.specs.Calls.{Caller, Lock}
use Rattle.draid_turn.specs.Numbers.{HoldsSome, holds}
use Rattle.draid_turn.specs.declared.past.Past.{Past}
use Rattle.draid_turn.specs.declared.span.Span.{Span}
use Rattle.draid_uber.specs.declared.uber.Uber.{Uber}
use Rattle.draid_pool.specs.Drifts.{groups_number}
use Rattle.draid_pool.specs.Looking.{HasMany}
use Rattle.draid_pool.specs.Threads.{HaveLayout, IsWholeBy}
use Rattle.draid_pool.specs.Whole.{IsWhole}
use Rattle.draid_pool.specs.declared.cell.Cell.{Cell}
use Rattle.draid_pool.specs.declared.own.Own.{Own}
use Rattle.draid_pool.specs.declared.pool.Pool.{Pool}
use Rattle.draid_lanes.specs.Locks.{AreOf, last_in, owned_by}
use Rattle.draid_section.specs.Opening.{AreLocked, AreUnlocked}
use Rattle.draid_lanes.specs.Ubers.{IsLane, IsUberOf}
use Rattle.draid_uber.specs.Uber.{point_of}

-- ---- a lane that begins

-- the numbers that a lane holds: at least one, and not that of the groups
pub record AreLaneNumbers (numbers : List Span) : Type 0 where
  pub some : HoldsSome numbers
  pub no_groups : holds groups_number numbers ≡ false

-- the pointer that a pool has of an object
abbrev pub pointer_in : {R A : Type 0} → Pool R A → ℕ → Option Pointer
pointer_in pool object = get nat_eq pool.own.objects object

-- the pointer that a thread has of an object of its own
abbrev pub pointer_of : Own → ℕ → Option Pointer
pointer_of own object = get nat_eq own.objects object

-- pointers that a pool has, of objects whose numbers are held
abbrev pub IsTableOf : {R A : Type 0} → Pool R A → List Span → (ℕ → Option Pointer) → Type 0
IsTableOf pool numbers table = (object : ℕ) (pointer : Pointer) → table object ≡ Some pointer → (pointer_in pool object ≡ Some pointer) × (holds object numbers ≡ true)

module _ {R A : Type 0} where
  -- A lane begins as its commands need it. Its passes are a lane's, it is whole by its own objects with any of the pool's pointers of these, and its metaslabs are the pool's.
  pub record LaneBegins (rack : racks.Ghosts R) (pool : Pool R A) (locks : List (Lock (Cell R A))) (numbers : List Span) (passes : List (Caller (Past (Cell R A)))) : Type 0 where
    pub lane : IsLane rack locks passes
    pub whole : (table : ℕ → Option Pointer) → IsTableOf pool numbers table → IsWholeBy rack (owned_by passes) (last_in locks passes) table pool.own.seq pool.own.floor
    pub layout : HaveLayout pool.geometry (last_in locks passes)
    pub many : HasMany rack (length locks) (last_in locks passes)

-- ---- lanes that have ended

module _ {R A : Type 0} (rack : racks.Ghosts R) (area : areas.Ghosts A) where
  -- a lane has its passes, and is whole by its own objects as it left them
  pub record LaneEnded (locks : List (Lock (Cell R A))) (passes : List (Caller (Past (Cell R A)))) (own : Own) : Type 0 where
    pub fits : AreOf rack locks passes
    pub whole : IsWholeBy rack (owned_by passes) (last_in locks passes) (pointer_of own) own.seq own.floor

  -- Lanes of a whole pool have ended, with these passes, and each with what it has of its own objects. The uberblock was taken out of its lock, with the passes of the groups. Then each metaslab
  -- was taken out of its own, behind all passes of these lists and those that were kept back, which did nothing. Each object is a lane's, or is held by those that were kept back.
  pub record LanesEnded (pool : Pool R A) (locks : List (Lock (Cell R A))) (rests : List (Caller (Past (Cell R A)))) (lanes : List (Vec (Caller (Past (Cell R A))) Global)) (owns : List Own) (uber : Uber A) (shards : List (Shard R A)) : Type 0 where
    pub whole : IsWhole rack area pool
    pub firsts : List (Caller (Past (Cell R A)))
    pub locked : AreLocked pool.metaslabs.shards.items locks firsts
    pub groups : Vec (Caller (Past (Cell R A))) Global
    pub governs : IsUberOf rack area locks uber groups
    pub unpointed : (point_of pool.uber).group ≡ None
    pub point : point_of uber ≡ point_of pool.uber
    pub lists : List (Vec (Caller (Past (Cell R A))) Global)
    pub unlocked : AreUnlocked rack area locks rests lists shards
    pub groups_in : (k : ℕ) × (slice_get lists k ≡ Some groups)
    pub lanes_in : (i : ℕ) (lane : Vec (Caller (Past (Cell R A))) Global) → slice_get lanes i ≡ Some lane → (k : ℕ) × (slice_get lists k ≡ Some lane)
    pub many : length owns ≡ length lanes
    pub each : (i : ℕ) (lane : Vec (Caller (Past (Cell R A))) Global) (own : Own) → slice_get lanes i ≡ Some lane → slice_get owns i ≡ Some own → LaneEnded locks lane.items own
    pub many_rests : length rests ≡ length locks
    pub rests_new : (m : ℕ) (pass : Caller (Past (Cell R A))) → slice_get rests m ≡ Some pass → pass.seen ≡ []
    pub all : (object : ℕ) → object < OBJECTS → (owned_by rests object ≡ true) ⊎ ((i : ℕ) × (lane : Vec (Caller (Past (Cell R A))) Global) × (slice_get lanes i ≡ Some lane) × (owned_by lane.items object ≡ true))

module _ {R A : Type 0} (pool : Pool R A) (rests : List (Caller (Past (Cell R A)))) (lanes : List (Vec (Caller (Past (Cell R A))) Global)) (owns : List Own) where
  -- a lane owns the object and has this pointer of it
  pub record IsOfLane (object : ℕ) (pointer : Pointer) : Type 0 where
    pub place : ℕ
    pub lane : Vec (Caller (Past (Cell R A))) Global
    pub own : Own
    pub lane_is : slice_get lanes place ≡ Some lane
    pub own_is : slice_get owns place ≡ Some own
    pub owned : owned_by lane.items object ≡ true
    pub there : pointer_of own object ≡ Some pointer

  -- no lane owned the object, and the pool had this pointer of it
  pub record IsOfPool (object : ℕ) (pointer : Pointer) : Type 0 where
    pub owned : owned_by rests object ≡ true
    pub there : pointer_in pool object ≡ Some pointer

  -- A pool of the same layout is put together of these metaslabs, this uberblock and what the lanes have. Its pointers are theirs, and those of the earlier pool that are of no lane's objects. Its
  -- last write has no lower number than any of theirs, and its floor isn't above all of theirs.
  pub record IsGathered (uber : Uber A) (shards : List (Shard R A)) (new : Pool R A) : Type 0 where
    pub geometry : new.geometry ≡ pool.geometry
    pub metaslabs : new.metaslabs.shards.items ≡ shards
    pub uber_is : new.uber ≡ uber
    pub pool_seq : pool.own.seq ≤ new.own.seq
    pub lane_seq : (i : ℕ) (own : Own) → slice_get owns i ≡ Some own → own.seq ≤ new.own.seq
    pub floor : (new.own.floor ≤ pool.own.floor) ⊎ ((i : ℕ) × (own : Own) × (slice_get owns i ≡ Some own) × (new.own.floor ≤ own.floor))
    pub objects : (object : ℕ) (pointer : Pointer) → pointer_in new object ≡ Some pointer → IsOfPool object pointer ⊎ IsOfLane object pointer
