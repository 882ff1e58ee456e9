-- A section, from a whole pool to a whole pool: what lanes get of it, what they did, and what is put together behind them.
use Rattle.std.specs.Prelude.{◌≡◌, ◌≤◌, ◌++◌, ◌∷◌, ℕ, List, [], Some, None, length, nat_eq, slice_get, vec_capacity, if◌then◌else◌}
use Rattle.std.specs.HashMap.{get, spare}
use Rattle.std.specs.declared.vec.Vec.{Vec}
use Rattle.std.specs.declared.alloc.Global.{Global}
use Rattle.draid_rack.specs.declared.Rack as racks
use Rattle.draid_area.specs.declared.Area as areas
use Rattle.draid_shard.specs.declared.shard.Shard.{Shard}
use Rattle.draid_spec.specs.declared.layout.Geometry.{Geometry}
use Rattle.draid_turn.specs.Calls.{Caller, Lock}
use Rattle.draid_turn.specs.Numbers.{holds}
use Rattle.draid_turn.specs.declared.past.Past.{Past}
use Rattle.draid_turn.specs.declared.span.Span.{Span}
use Rattle.draid_holds.specs.Passes.{shares}
use Rattle.draid_uber.specs.declared.uber.Uber.{Uber}
use Rattle.draid_pool.specs.declared.cell.Cell.{Cell}
use Rattle.draid_pool.specs.declared.own.Own.{Own}
use Rattle.draid_pool.specs.declared.pool.Pool.{Pool}
use Rattle.draid_lanes.specs.Lanes.{IsWholeLane, table_of}
use Rattle.draid_lanes.specs.Locks.{last_in, owned_by}
use Rattle.draid_lanes.specs.Meeting.{groups_alone}
use Rattle.draid_lanes.specs.declared.lane.Lane.{Lane}
use Rattle.draid_lanes.specs.declared.uber.UberCell.{UberCell}
use Rattle.draid_lanes.specs.Ubers.{IsUberOf}
use Rattle.draid_section.specs.Opening.{AreDealt, AreLocked, AreRooms, AreUnlocked, IsDealt}
use Rattle.draid_tables.specs.Owns.{AreDealtOut, TakesAll, most_objects}
use Rattle.draid_section.specs.Running.{JobsRan, MayRunEach}
use Rattle.draid_section.specs.Turning.{AreOfLanes, IsUberLock, UberComesBack}
use Rattle.draid_section.specs.Whole.{pointer_in}
use Rattle.draid_section.specs.declared.seats.Shares.{Shares}
use Rattle.draid_uber.specs.Uber.{point_of}

-- ---- a lane that begins

module _ {R A G W J : Type 0} (rack : racks.Ghosts R) (area : areas.Ghosts A) where
  -- The lane at this place begins, with its job. It is whole and holds just the numbers of its list; its metaslabs and the uberblock are the pool's, and so are its pointers, of the objects that it holds.
  pub record BeginsLane (pool : Pool R A) (lists : List (Vec Span Global)) (jobs : List J) (i : ℕ) (job : J) (lane : Lane R A G W) : Type 0 where
    pub job_is : slice_get jobs i ≡ Some job
    pub number : lane.metaslabs.lane ≡ i
    pub whole : IsWholeLane rack area lane
    pub geometry : lane.geometry ≡ pool.geometry
    pub metaslabs : (m : ℕ) → last_in lane.metaslabs.turns.now lane.metaslabs.passes.items m ≡ slice_get pool.metaslabs.shards.items m
    pub uber : lane.uber.now.first.uber ≡ pool.uber
    pub list : Vec Span Global
    pub list_is : slice_get lists i ≡ Some list
    pub owns : (n : ℕ) → owned_by lane.metaslabs.passes.items n ≡ holds n list.items
    pub objects : (object : ℕ) → table_of lane object ≡ (if holds object list.items then pointer_in pool object else None)
    pub seq : lane.own.seq ≡ pool.own.seq
    pub floor : lane.own.floor ≡ pool.own.floor

  -- No checkpoint stands, and each job has what it needs of such a lane.
  pub record MayRunAll (needs : J → Lane R A G W → Type 0) (pool : Pool R A) (lists : List (Vec Span Global)) (jobs : List J) : Type 0 where
    pub unpointed : (point_of pool.uber).group ≡ None
    pub each : (i : ℕ) (job : J) (lane : Lane R A G W) → BeginsLane pool lists jobs i job lane → needs job lane

  -- ---- what was done

  module _ (relates : J → Lane R A G W → J → Lane R A G W → Type 0) (geometry : Geometry) where
    -- Each lane got a pass of the uberblock's lock. Then their jobs were done, and the uberblock was taken out of it.
    pub record RunsOver (locks : List (Lock (Cell R A))) (lock : Lock (UberCell R A)) (old new : Shares R A J) (uber : Uber A) (groups : Vec (Caller (Past (Cell R A))) Global) : Type 0 where
      pub rest : Caller (Past (UberCell R A))
      pub passes : List (Caller (Past (UberCell R A)))
      pub of_lanes : AreOfLanes lock (length old.passes.items) passes rest
      pub nexts : List (Caller (Past (UberCell R A)))
      pub ran : JobsRan relates locks lock geometry old new passes nexts
      pub back : UberComesBack rack area lock rest nexts uber groups

    -- The uberblock was put under a lock, with the passes of the groups, and the jobs were done.
    pub record RunsUnder (locks : List (Lock (Cell R A))) (uber : Uber A) (groups : Vec (Caller (Past (Cell R A))) Global) (old new : Shares R A J) (uber' : Uber A) (groups' : Vec (Caller (Past (Cell R A))) Global) : Type 0 where
      pub lock : Lock (UberCell R A)
      pub first : Caller (Past (UberCell R A))
      pub made : IsUberLock uber locks groups lock first
      pub over : RunsOver locks lock old new uber' groups'

    -- Each lane got passes of the metaslabs that hold the numbers of its list; those of the last list are the groups'. The jobs were done, and each metaslab was taken out of its lock.
    pub record RunsLocked (locks : List (Lock (Cell R A))) (uber : Uber A) (lists : List (Vec Span Global)) (owns : Vec Own Global) (jobs : Vec J Global) (uber' : Uber A) (shards : List (Shard R A)) (owns' : Vec Own Global) (jobs' : Vec J Global) : Type 0 where
      pub dealt : List (Vec (Caller (Past (Cell R A))) Global)
      pub rests : List (Caller (Past (Cell R A)))
      pub deals : AreDealt locks lists dealt rests
      pub old : Shares R A J
      pub owns_are : old.owns ≡ owns
      pub jobs_are : old.jobs ≡ jobs
      pub groups : Vec (Caller (Past (Cell R A))) Global
      pub shared : dealt ≡ old.passes.items ++ groups ∷ []
      pub new : Shares R A J
      pub owns_then : new.owns ≡ owns'
      pub jobs_then : new.jobs ≡ jobs'
      pub groups' : Vec (Caller (Past (Cell R A))) Global
      pub under : RunsUnder locks uber groups old new uber' groups'
      pub unlocked : AreUnlocked rack area locks rests (new.passes.items ++ groups' ∷ []) shards

  -- ---- what jobs need, as far as locks are made

  module _ (needs : J → Lane R A G W → Type 0) (geometry : Geometry) where
    -- of lanes that get passes of the uberblock's lock
    abbrev pub MayRunOver : List (Lock (Cell R A)) → Lock (UberCell R A) → Shares R A J → Type 0
    MayRunOver locks lock shares = (passes : List (Caller (Past (UberCell R A)))) (rest : Caller (Past (UberCell R A))) → AreOfLanes lock (length shares.passes.items) passes rest → MayRunEach needs locks lock geometry shares passes

    -- of lanes over an uberblock that is put under a lock
    abbrev pub MayRunUnder : List (Lock (Cell R A)) → Uber A → Vec (Caller (Past (Cell R A))) Global → Shares R A J → Type 0
    MayRunUnder locks uber groups shares = (lock : Lock (UberCell R A)) (first : Caller (Past (UberCell R A))) → IsUberLock uber locks groups lock first → MayRunOver locks lock shares

    -- of lanes that get passes of the metaslabs
    abbrev pub MayRunLocked : List (Lock (Cell R A)) → Uber A → List (Vec Span Global) → Vec Own Global → Vec J Global → Type 0
    MayRunLocked locks uber lists owns jobs =
        (dealt : List (Vec (Caller (Past (Cell R A))) Global)) (rests : List (Caller (Past (Cell R A)))) (groups : Vec (Caller (Past (Cell R A))) Global) (old : Shares R A J) → AreDealt locks lists dealt rests → dealt ≡ old.passes.items ++ groups ∷ [] → old.owns ≡ owns → old.jobs ≡ jobs
        → MayRunUnder locks uber groups old

-- ---- a pool

module _ {R A G W J : Type 0} (rack : racks.Ghosts R) (area : areas.Ghosts A) where
  -- The metaslabs of a pool were put under locks. Lanes ran their jobs over them, each with what was dealt to it; and the pool was put together of what they left.
  pub record RunsInLanes (relates : J → Lane R A G W → J → Lane R A G W → Type 0) (pool : Pool R A) (lists : List (Vec Span Global)) (jobs : Vec J Global) (new : Pool R A) (done : Vec J Global) : Type 0 where
    pub geometry : new.geometry ≡ pool.geometry
    pub locks : List (Lock (Cell R A))
    pub firsts : List (Caller (Past (Cell R A)))
    pub locked : AreLocked pool.metaslabs.shards.items locks firsts
    pub groups : Vec Span Global
    pub alone : groups.items ≡ groups_alone
    pub owns : Vec Own Global
    pub dealt : AreDealtOut pool.own lists owns.items
    pub owns' : Vec Own Global
    pub ran : RunsLocked rack area relates pool.geometry locks pool.uber (lists ++ groups ∷ []) owns jobs new.uber new.metaslabs.shards.items owns' done
    pub takes : TakesAll lists owns'.items pool.own new.own

module _ {R A : Type 0} where
  -- a pool has these parts
  pub record IsMadeOf (geometry : Geometry) (shards : Vec (Shard R A) Global) (uber : Uber A) (own : Own) (pool : Pool R A) : Type 0 where
    pub geometry_is : pool.geometry ≡ geometry
    pub shards_are : pool.metaslabs.shards ≡ shards
    pub uber_is : pool.uber ≡ uber
    pub own_is : pool.own ≡ own

  -- what is dealt to lanes of a pool, beside locks: tables, room for passes, and all lists of numbers, with that of the groups behind them; the pool's table has room for what comes back
  pub record IsPlanned (old new : Own) (lists all : List (Vec Span Global)) (metaslabs : ℕ) (rooms : List (Vec (Caller (Past (Cell R A))) Global)) (owns : List Own) : Type 0 where
    pub groups : Vec Span Global
    pub alone : groups.items ≡ groups_alone
    pub lists_are : all ≡ lists ++ groups ∷ []
    pub rooms_are : AreRooms (length all) metaslabs rooms
    pub dealt : AreDealtOut old lists owns
    pub room : most_objects lists metaslabs ≤ spare new.objects

-- what a pool has of its own is the same
pub record SameOwn (old new : Own) : Type 0 where
  pub objects : (object : ℕ) → get nat_eq new.objects object ≡ get nat_eq old.objects object
  pub seq : new.seq ≡ old.seq
  pub floor : new.floor ≡ old.floor

-- the last list is that of the groups, and there are so many others
pub record EndWithGroups (lists : List (Vec Span Global)) (count : ℕ) : Type 0 where
  pub front : List (Vec Span Global)
  pub groups : Vec Span Global
  pub is : lists ≡ front ++ groups ∷ []
  pub many : length front ≡ count
  pub alone : groups.items ≡ groups_alone

module _ {R A : Type 0} (rack : racks.Ghosts R) (area : areas.Ghosts A) where
  -- the uberblock is that of these metaslabs, with any passes of theirs that hold the groups
  abbrev pub GovernsFirst : List (Lock (Cell R A)) → Uber A → Type 0
  GovernsFirst locks uber = (groups : Vec (Caller (Past (Cell R A))) Global) → IsDealt locks groups_alone groups.items → length locks ≤ vec_capacity groups → IsUberOf rack area locks uber groups
