-- What is done to a lane's metaslabs by who holds the uberblock, and what the lane has behind it.
use Rattle.std.specs.Prelude.{◌≡◌, ◌≢◌, ◌<◌, ◌≤◌, ◌+◌, ℕ, Bool, true, false, List, Option, Some, None, length, slice_get}
use Rattle.draid_rack.specs.declared.Rack as racks
use Rattle.draid_area.specs.declared.Area as areas
use Rattle.draid_spec.specs.declared.layout.Geometry.{Geometry}
use Rattle.draid_shard.specs.Alike.{ShareArms}
use Rattle.draid_shard.specs.Fits.{IsLeaf}
use Rattle.draid_shard.specs.declared.shard.Shard.{Shard}
use Rattle.draid_turn.specs.Calls.{Caller, Did, Lock}
use Rattle.draid_turn.specs.declared.past.Past.{Past}
use Rattle.draid_uber.specs.Slots.{group_of}
use Rattle.draid_uber.specs.Uber as ubers
use Rattle.draid_uber.specs.declared.uber.Uber.{Uber}
use Rattle.draid_pool.specs.Drifts.{Drifts, groups_number}
use Rattle.draid_pool.specs.Grouping.{ClosesNext}
use Rattle.draid_pool.specs.Rounds.{EachIs, NoneBeyond}
use Rattle.draid_pool.specs.Threads.{HaveLayout, KeepsWhole, all_of}
use Rattle.draid_pool.specs.declared.cell.Cell.{Cell}
use Rattle.draid_lanes.specs.Locks.{AreOf, last_in, owned_by}
use Rattle.draid_lanes.specs.Meeting.{EachMeets, EachParts}
use Rattle.draid_lanes.specs.Ubers.{IsLane, UberStep}
use Rattle.draid_lanes.specs.declared.locked.Locked.{Locked}
use Rattle.draid_lanes.specs.declared.uber.UberCell.{UberCell}

-- ---- what is known

-- Who has the groups of so many metaslabs, and the uberblock. Each has committed the group that the uberblock names, as it was left; and so left all have the same arms, whose
-- leaves have numbers below that of the next leaf. But for its version the uberblock has the metaslabs' layout.
pub record IsGovernor {R A : Type 0} (rack : racks.Ghosts R) (area : areas.Ghosts A) (count : ℕ) (locks : List (Lock (Cell R A))) (passes : List (Caller (Past (Cell R A)))) (uber : Uber A) : Type 0 where
  pub all : count ≡ length locks
  pub some : 0 < count
  pub few : count ≤ 64
  pub fits : AreOf rack locks passes
  pub own : owned_by passes groups_number ≡ true
  pub valid : ubers.Valid area.size uber
  pub ready : EachIs count (ClosesNext rack (group_of (ubers.kept_of uber) + 1)) (last_in locks passes)
  pub beyond : NoneBeyond count (last_in locks passes)
  pub leaves : (m : ℕ) (shard : Shard R A) → last_in locks passes m ≡ Some shard → (leaf : ℕ) → IsLeaf shard.slots leaf → leaf < ubers.next_leaf_of uber
  pub alike : (m n : ℕ) (shard other : Shard R A) → last_in locks passes m ≡ Some shard → last_in locks passes n ≡ Some other → ShareArms shard.slots other.slots
  pub layout : (m : ℕ) (lock : Lock (Cell R A)) → slice_get locks m ≡ Some lock → ubers.layout_in (ubers.layout_of uber) lock.first.shard.geometry.props.version ≡ lock.first.shard.geometry

-- others may have held each since it was left, and none comes or goes
pub record EachDrifts {R A : Type 0} (rack : racks.Ghosts R) (area : areas.Ghosts A) (owns : ℕ → Bool) (last now : ℕ → Option (Shard R A)) : Type 0 where
  pub each : (m : ℕ) (shard : Shard R A) → last m ≡ Some shard → (after : Shard R A) × (now m ≡ Some after) × Drifts rack area true owns shard after
  pub absent : (m : ℕ) → last m ≡ None → now m ≡ None

-- A lane's passes as they have the groups: they hold what they held and the groups, and others may have held each metaslab since the lane left it.
pub record IsMet {R A : Type 0} (rack : racks.Ghosts R) (area : areas.Ghosts A) (locks : List (Lock (Cell R A))) (lanes met : List (Caller (Past (Cell R A)))) : Type 0 where
  pub groups : owned_by met groups_number ≡ true
  pub others : (n : ℕ) → n ≢ groups_number → owned_by met n ≡ owned_by lanes n
  pub drifts : EachDrifts rack area (owned_by lanes) (last_in locks lanes) (last_in locks met)

-- ---- what is kept

-- what was whole of some that a thread owns without the groups is so then
abbrev pub KeepsSome : {R A : Type 0} → racks.Ghosts R → (ℕ → Bool) → (last now : ℕ → Option (Shard R A)) → Type 0
KeepsSome rack owns last now = (some : ℕ → Bool) → some groups_number ≡ false → ((n : ℕ) → some n ≡ true → owns n ≡ true) → KeepsWhole rack some (all_of some) last now

-- where all had a layout they have it
abbrev pub KeepsLayout : {R A : Type 0} → (last now : ℕ → Option (Shard R A)) → Type 0
KeepsLayout last now = (geometry : Geometry) → HaveLayout geometry last → HaveLayout geometry now

module _ {R A G W : Type 0} where
  -- how a lane left its metaslabs
  abbrev pub lane_last : Locked R A G W → ℕ → Option (Shard R A)
  lane_last lane = last_in lane.turns.now lane.passes.items

  -- what was whole of all that a lane owns is so then
  abbrev pub KeepsLane : racks.Ghosts R → (old new : Locked R A G W) → Type 0
  KeepsLane rack old new = KeepsWhole rack (owned_by old.passes.items) (all_of (owned_by old.passes.items)) (lane_last old) (lane_last new)

-- ---- what is done

module _ {R A G W O : Type 0} (rack : racks.Ghosts R) (area : areas.Ghosts A) where
  -- a lane that may have so many metaslabs governed, and what it needs it has as they are met
  pub record MayGovern (needs : O → Locked R A G W → Type 0) (count : ℕ) (lane : Locked R A G W) (op : O) : Type 0 where
    pub all : count ≡ length lane.turns.now
    pub lane_is : IsLane rack lane.turns.now lane.passes.items
    pub needed : (met : Locked R A G W) → met.turns.now ≡ lane.turns.now → IsMet rack area lane.turns.now lane.passes.items met.passes.items → needs op met

  -- The lane met the passes that hold the groups; then it was done to its metaslabs and the uberblock; and then it gave the groups up.
  pub record Governed (relates : O → Locked R A G W → Uber A → O → Locked R A G W → Uber A → Type 0) (old : Locked R A G W) (op : O) (u : Uber A) (groups : List (Caller (Past (Cell R A)))) (new : Locked R A G W) (done : O) (v : Uber A) (given : List (Caller (Past (Cell R A)))) : Type 0 where
    pub met : Locked R A G W
    pub after : Locked R A G W
    pub same : (met.turns.now ≡ old.turns.now) × (after.turns.now ≡ old.turns.now)
    pub meets : EachMeets rack area old.turns.now old.passes.items groups met.passes.items
    pub related : relates op met u done after v
    pub parts : EachParts old.turns.now after.passes.items new.passes.items given

  -- so in the uberblock's cell, which keeps the locks of the metaslabs
  pub record GovernedCell (relates : O → Locked R A G W → Uber A → O → Locked R A G W → Uber A → Type 0) (old : Locked R A G W) (op : O) (found : UberCell R A) (new : Locked R A G W) (done : O) (left : UberCell R A) : Type 0 where
    pub met : Locked R A G W
    pub after : Locked R A G W
    pub same : (met.turns.now ≡ old.turns.now) × (after.turns.now ≡ old.turns.now)
    pub meets : EachMeets rack area old.turns.now old.passes.items found.groups.items met.passes.items
    pub related : relates op met found.uber done after left.uber
    pub parts : EachParts old.turns.now after.passes.items new.passes.items left.groups.items
    pub turns : left.turns.now ≡ found.turns.now

  -- so in one turn of the uberblock, at a place of its history that is the pass's own
  abbrev pub GovernedIn : (O → Locked R A G W → Uber A → O → Locked R A G W → Uber A → Type 0) → Lock (UberCell R A) → Locked R A G W → O → Locked R A G W → O → (pass next : Caller (Past (UberCell R A))) → Type 0
  GovernedIn relates lock old op new done pass next =
      Did {O = Locked R A G W × O} (λ a past. UberStep rack area a.turns.now past.left.turns.now a.uber past.left.uber past.left.groups) (λ x u y v. GovernedCell relates x.0 x.1 u y.0 y.1 v) (λ x. None) lock.first (old, op) (new, done) pass next

  -- what is so in a turn, behind it
  pub record HasGoverned (relates : O → Locked R A G W → Uber A → O → Locked R A G W → Uber A → Type 0) (old : Locked R A G W) (op : O) (found : UberCell R A) (new : Locked R A G W) (done : O) (left : UberCell R A) : Type 0 where
    pub step : UberStep rack area found.turns.now left.turns.now found.uber left.uber left.groups
    pub turns : new.turns.now ≡ old.turns.now
    pub owns : owned_by new.passes.items ≡ owned_by old.passes.items
    pub lane : IsLane rack new.turns.now new.passes.items
    pub layout : KeepsLayout (lane_last old) (lane_last new)
    pub whole : KeepsLane rack old new
    pub governed : Governed relates old op found.uber found.groups.items new done left.uber left.groups.items
