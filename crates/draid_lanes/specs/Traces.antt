-- What lanes do to the locks of a section, told from the state in which it began: each turn that a lane had of a lock, at its place in the lock's history, and the session's holds in it.
use Rattle.std.specs.Prelude.{◌≡◌, ◌<◌, ◌≤◌, ◌++◌, ◌∷◌, ℕ, true, List, [], Option, Some, None, All, Contains, flat_map, length, map, slice_get}
use Rattle.draid_rack.specs.declared.Rack as racks
use Rattle.draid_area.specs.declared.Area as areas
use Rattle.draid_machine.specs.Created.{IsReached}
use Rattle.draid_machine.specs.Names.{is_block}
use Rattle.draid_machine.specs.declared.names.Held.{Held}
use Rattle.draid_machine.specs.declared.names.Key.{Key}
use Rattle.draid_segments.specs.Segments.{Pieces}
use Rattle.draid_session.specs.Follows.{Follows}
use Rattle.draid_session.specs.Holds.{Hold}
use Rattle.draid_session.specs.Lanes.{SameAt, SamePool, SwitchesAgree, holds_of, is_of}
use Rattle.draid_session.specs.State.{Metaslab, State, Store}
use Rattle.draid_shard.specs.Part.{Part, layout_in}
use Rattle.draid_shard.specs.declared.shard.Shard.{Shard}
use Rattle.draid_turn.specs.Calls.{Caller, Lock}
use Rattle.draid_turn.specs.History.{left_by}
use Rattle.draid_turn.specs.Lists.{Ascends, StartsWith}
use Rattle.draid_turn.specs.declared.past.Past.{Past}
use Rattle.draid_pool.specs.Bytes.{HasBytes}
use Rattle.draid_pool.specs.Drifts.{KeepsBytes, Since}
use Rattle.draid_pool.specs.Importable.{AllAlike, HasPoolVersions, Shared}
use Rattle.draid_pool.specs.Metaslabs.{IsMetaslab}
use Rattle.draid_pool.specs.Pools.{part_in}
use Rattle.draid_pool.specs.Records.{HasImages, HasLeafNumbers}
use Rattle.draid_pool.specs.Shards.{FollowsIn}
use Rattle.draid_pool.specs.Threads.{Knows}
use Rattle.draid_pool.specs.Ubers.{IsUber}
use Rattle.draid_pool.specs.declared.cell.Cell.{Cell}
use Rattle.draid_lanes.specs.Lanes.{table_of}
use Rattle.draid_lanes.specs.Locks.{last_in, left_in, owned_by}
use Rattle.draid_lanes.specs.declared.lane.Lane.{Lane}
use Rattle.draid_lanes.specs.declared.uber.UberCell.{UberCell}
use Rattle.draid_objects.specs.Marks.{check_by}

-- ---- turns

-- One turn that a lane had of a lock: its place in the lock's history, and what was done in it.
pub record LaneTurn : Type 0 where
  pub place : ℕ
  pub holds : List Hold

-- the places of turns of one lock
abbrev pub places_in : List LaneTurn → List ℕ
places_in turns = map (λ (turn : LaneTurn). turn.place) turns

-- what was done in them, one after another
abbrev pub holds_in : List LaneTurn → List Hold
holds_in turns = flat_map (λ (turn : LaneTurn). turn.holds) turns

-- ---- what stood there

-- a metaslab that came from another by events, which is one that a legal history gives, and for which a shard stands
pub record Came {R A : Type 0} (rack : racks.Ghosts R) (area : areas.Ghosts A) (part : Part) (x : Metaslab) (now : Shard R A) : Type 0 where
  pub began : IsReached (layout_in part) x.world
  pub reached : Metaslab
  pub pieces : Pieces
  pub is : IsMetaslab rack area part pieces now reached
  pub since : Since (layout_in part) x reached

module _ {R A : Type 0} (rack : racks.Ghosts R) (area : areas.Ghosts A) (x : State) where
  -- a metaslab of a state is what that of the first state came to, up to so much of its lock's history
  pub record CameAt (lock : Lock (Cell R A)) (seen : List (Past (Cell R A))) (m : ℕ) (y : Metaslab) : Type 0 where
    pub first : Metaslab
    pub there : slice_get x.metaslabs m ≡ Some first
    pub came : Came rack area (part_in x m) first (left_in lock seen)
    pub is : came.reached ≡ y

  -- Up to so much of a lock's history: wherever the metaslab stood, its blocks had bytes of their length and digest, of whose columns the rack has what its pieces say.
  abbrev pub HadBytes : Lock (Cell R A) → List (Past (Cell R A)) → ℕ → Type 0
  HadBytes lock seen m =
      (log : List (Past (Cell R A))) (y : Metaslab) → StartsWith seen log → CameAt lock log m y
      → (pieces : Pieces) × IsMetaslab rack area (part_in x m) pieces (left_in lock log) y
      × ((k : Key) (h : Held) → y.world.core.held k ≡ Some h → is_block h.stage ≡ true → HasBytes (part_in x m).geometry h k pieces)

  -- A state of the pool as it is known to who holds the uberblock: each metaslab is what it came to up to where the passes of the groups saw it, and of the uberblock it has what the value has. So far it is a state of a
  -- whole pool, whatever befell the objects.
  pub record IsGoverned (cell : UberCell R A) (z : State) : Type 0 where
    pub pool : SamePool x z
    pub store : z.store ≡ x.store
    pub each : (m : ℕ) (lock : Lock (Cell R A)) (pass : Caller (Past (Cell R A))) → slice_get cell.turns.now m ≡ Some lock → slice_get cell.groups.items m ≡ Some pass
        → (y : Metaslab) × (slice_get z.metaslabs m ≡ Some y) × CameAt lock pass.seen m y
    pub committed : (m : ℕ) (y : Metaslab) → slice_get z.metaslabs m ≡ Some y → y.world.committed ≡ z.committed
    pub uber : IsUber area cell.uber z
    pub images : HasImages z
    pub leaves : HasLeafNumbers z
    pub shared : Shared
    pub versions : HasPoolVersions z.kept_version z.next_version shared
    pub alike : AllAlike shared z
    pub switches : SwitchesAgree x → SwitchesAgree z

  -- ---- what a turn did

  -- A turn of a metaslab's lock that a pass has seen: at its place the metaslab was what it had come to, and the holds led to what it had come to then. Where all its blocks had bytes, they have them behind the turn.
  pub record IsShardTurn (lock : Lock (Cell R A)) (seen : List (Past (Cell R A))) (m place : ℕ) (holds : List Hold) : Type 0 where
    pub log : List (Past (Cell R A))
    pub left : Past (Cell R A)
    pub place_is : place ≡ length log
    pub begins : StartsWith seen (log ++ left ∷ [])
    pub found : Metaslab
    pub reached : Metaslab
    pub found_is : CameAt lock log m found
    pub reached_is : CameAt lock (log ++ left ∷ []) m reached
    pub follows : FollowsIn (layout_in (part_in x m)) m holds found reached
    pub bytes : KeepsBytes rack area (part_in x m) (left_in lock log) found left.left.shard

  -- A turn of the uberblock's lock that a pass has seen: whatever state of the pool stood at its place, the holds led from there to one that stood behind it.
  pub record IsUberTurn (lock : Lock (UberCell R A)) (seen : List (Past (UberCell R A))) (place : ℕ) (holds : List Hold) : Type 0 where
    pub log : List (Past (UberCell R A))
    pub left : Past (UberCell R A)
    pub place_is : place ≡ length log
    pub begins : StartsWith seen (log ++ left ∷ [])
    pub of_uber : All (λ hold. is_of None hold ≡ true) holds
    pub goes : (z : State) → IsGoverned (left_by lock.first log) z → (w : State) × (y : State) × Follows holds z w × SameAt None w y × IsGoverned left.left y

  -- ---- what a lane did

  module _ {G W : Type 0} where
    -- A lane did this, one hold after another, between two of its states. Of each lock it had turns for that, one behind another: each at a place that is its own then, behind all that it had seen. None is of a metaslab that isn't there.
    pub record HadTurns (old new : Lane R A G W) (turns : Option ℕ → List LaneTurn) (holds : List Hold) : Type 0 where
      pub locks : new.metaslabs.turns.now ≡ old.metaslabs.turns.now
      pub uber_lock : new.uber.now ≡ old.uber.now
      pub many : length new.metaslabs.passes.items ≡ length old.metaslabs.passes.items
      pub same : (lock : Option ℕ) → holds_of lock holds ≡ holds_in (turns lock)
      pub own : (m : ℕ) (pass next : Caller (Past (Cell R A))) → slice_get old.metaslabs.passes.items m ≡ Some pass → slice_get new.metaslabs.passes.items m ≡ Some next → next.own ≡ pass.own ++ places_in (turns (Some m))
      pub seen : (m : ℕ) (pass next : Caller (Past (Cell R A))) → slice_get old.metaslabs.passes.items m ≡ Some pass → slice_get new.metaslabs.passes.items m ≡ Some next → StartsWith next.seen pass.seen
      pub above : (m : ℕ) (pass : Caller (Past (Cell R A))) → slice_get old.metaslabs.passes.items m ≡ Some pass → All (λ place. length pass.seen ≤ place) (places_in (turns (Some m)))
      pub ascends : (lock : Option ℕ) → Ascends (places_in (turns lock))
      pub uber_own : new.pass.own ≡ old.pass.own ++ places_in (turns None)
      pub uber_seen : StartsWith new.pass.seen old.pass.seen
      pub uber_above : All (λ place. length old.pass.seen ≤ place) (places_in (turns None))
      pub shards : (m : ℕ) (turn : LaneTurn) → Contains (turns (Some m)) turn
          → (lock : Lock (Cell R A)) × (pass : Caller (Past (Cell R A))) × (slice_get new.metaslabs.turns.now m ≡ Some lock) × (slice_get new.metaslabs.passes.items m ≡ Some pass) × IsShardTurn lock pass.seen m turn.place turn.holds
      pub ubers : (turn : LaneTurn) → Contains (turns None) turn → IsUberTurn new.uber.now new.pass.seen turn.place turn.holds

    -- The lane knows a state of which its own objects and its metaslabs are, as it left them: each is what that of the first state came to, up to where the lane saw it. The places of its holds ascend, and are
    -- among what it saw.
    pub record StandsAt (lane : Lane R A G W) (y : State) : Type 0 where
      pub same : y ≡ record x { metaslabs = y.metaslabs; store = y.store }
      pub many : length y.metaslabs ≡ length x.metaslabs
      pub each : (m : ℕ) (lock : Lock (Cell R A)) (pass : Caller (Past (Cell R A))) → slice_get lane.metaslabs.turns.now m ≡ Some lock → slice_get lane.metaslabs.passes.items m ≡ Some pass
          → (z : Metaslab) × (slice_get y.metaslabs m ≡ Some z) × CameAt lock pass.seen m z
      pub ordered : (m : ℕ) (pass : Caller (Past (Cell R A))) → slice_get lane.metaslabs.passes.items m ≡ Some pass → Ascends pass.own × All (λ place. place < length pass.seen) pass.own
      pub knows : Knows rack area (owned_by lane.metaslabs.passes.items) (last_in lane.metaslabs.turns.now lane.metaslabs.passes.items) (table_of lane) lane.own.seq lane.own.floor y

    -- so it was in all that a lane saw
    abbrev pub SawBytes : Lane R A G W → Type 0
    SawBytes lane = (m : ℕ) (lock : Lock (Cell R A)) (pass : Caller (Past (Cell R A))) → slice_get lane.metaslabs.turns.now m ≡ Some lock → slice_get lane.metaslabs.passes.items m ≡ Some pass → HadBytes lock pass.seen m

    -- what a lane did, and to what that led it: it is what is said to be done, with what the lane has of its own then
    pub record LeadsLane (says : List Hold → Store → Type 0) (old new : Lane R A G W) : Type 0 where
      pub turns : Option ℕ → List LaneTurn
      pub holds : List Hold
      pub had : HadTurns old new turns holds
      pub reached : State
      pub done : says holds reached.store
      pub stands : StandsAt new reached

    -- so from each state that it may have known
    abbrev pub LaneTold : (says : Store → List Hold → Store → Type 0) → Lane R A G W → Lane R A G W → Type 0
    LaneTold says old new = (y : State) → StandsAt old y → LeadsLane (says y.store) old new

    -- so from each in which no checkpoint stands
    abbrev pub ToldUnpointed : (says : Store → List Hold → Store → Type 0) → Lane R A G W → Lane R A G W → Type 0
    ToldUnpointed says old new = (y : State) → StandsAt old y → check_by y.store.marks ≡ None → LeadsLane (says y.store) old new
