-- Metaslabs that are put under locks, the passes that lanes have of these, and metaslabs that are taken out again.
use Rattle.std.specs.Prelude.{◌≡◌, ◌<◌, ◌≤◌, ◌+◌, ◌∷◌, ◌++◌, ◌&&◌, ⊤, ℕ, All, List, [], Option, Some, None, true, length, map, not, reverse, slice_get, vec_capacity}
use Rattle.std.specs.declared.vec.Vec.{Vec}
use Rattle.std.specs.declared.alloc.Global.{Global}
use Rattle.draid_rack.specs.declared.Rack as racks
use Rattle.draid_area.specs.declared.Area as areas
use Rattle.draid_shard.specs.declared.shard.Shard.{Shard}
use Rattle.draid_turn.specs.Calls.{Caller, Closes, Follows, Lock, newcomer}
use Rattle.draid_turn.specs.History.{number_of}
use Rattle.draid_turn.specs.Lists.{StartsWith, merge, one_if, times}
use Rattle.draid_turn.specs.Numbers.{HoldsOther, all_numbers, holds, number_limit}
use Rattle.draid_turn.specs.declared.past.Past.{Past}
use Rattle.draid_turn.specs.declared.span.Span.{Span}
use Rattle.draid_holds.specs.Passes.{AllSeen, AreInside, ClosesEach, FollowsOwn, holders, makers, shares}
use Rattle.draid_pool.specs.declared.cell.Cell.{Cell}
use Rattle.draid_lanes.specs.Locks.{Step}

module _ {R A : Type 0} where
  -- each metaslab lies under a lock of its own, and a pass of it, which has seen nothing, holds all numbers
  pub record AreLocked (shards : List (Shard R A)) (locks : List (Lock (Cell R A))) (firsts : List (Caller (Past (Cell R A)))) : Type 0 where
    pub many : length locks ≡ length shards
    pub many_firsts : length firsts ≡ length shards
    pub each : (m : ℕ) (shard : Shard R A) → slice_get shards m ≡ Some shard
        → (lock : Lock (Cell R A)) × (slice_get locks m ≡ Some lock) × (lock.first.shard ≡ shard) × (slice_get firsts m ≡ Some (newcomer lock.table [] all_numbers))

  -- each pass is of its lock, has seen nothing and holds all numbers
  abbrev pub AreFirst : List (Lock (Cell R A)) → List (Caller (Past (Cell R A))) → Type 0
  AreFirst [] [] = ⊤
  AreFirst (lock ∷ locks) (first ∷ firsts) = (first ≡ newcomer lock.table [] all_numbers) × AreFirst locks firsts
  AreFirst locks firsts = ⊥

  -- a metaslab as it was put under a lock
  abbrev pub shard_under : Lock (Cell R A) → Shard R A
  shard_under lock = lock.first.shard

  -- the metaslabs that were put under locks
  abbrev pub shards_under : List (Lock (Cell R A)) → List (Shard R A)
  shards_under locks = map shard_under locks

  -- each pass is of its lock
  pub record BelongTo (locks : List (Lock (Cell R A))) (passes : List (Caller (Past (Cell R A)))) : Type 0 where
    pub many : length passes ≡ length locks
    pub each : (m : ℕ) (lock : Lock (Cell R A)) (pass : Caller (Past (Cell R A))) → slice_get locks m ≡ Some lock → slice_get passes m ≡ Some pass → pass.table ≡ lock.table

  -- for each of so many lists there is room for a pass of each of so many metaslabs
  pub record AreRooms (lists metaslabs : ℕ) (lanes : List (Vec (Caller (Past (Cell R A))) Global)) : Type 0 where
    pub many : length lanes ≡ lists
    pub each : (i : ℕ) (lane : Vec (Caller (Past (Cell R A))) Global) → slice_get lanes i ≡ Some lane → (lane.items ≡ []) × (metaslabs ≤ vec_capacity lane)

  -- each pass is of its lock, holds these numbers, and holds another one
  pub record MaySplit (numbers : List Span) (locks : List (Lock (Cell R A))) (passes : List (Caller (Past (Cell R A)))) : Type 0 where
    pub fits : BelongTo locks passes
    pub held : (m : ℕ) (pass : Caller (Past (Cell R A))) → slice_get passes m ≡ Some pass → (n : ℕ) → holds n numbers ≡ true → holds n pass.numbers ≡ true
    pub other : (m : ℕ) (pass : Caller (Past (Cell R A))) → slice_get passes m ≡ Some pass → HoldsOther pass.numbers numbers

  -- a pass gave these numbers up
  pub record GivesUp (numbers : List Span) (pass next : Caller (Past (Cell R A))) : Type 0 where
    pub same : (next.table ≡ pass.table) × (next.seen ≡ pass.seen) × (next.own ≡ pass.own)
    pub left : (n : ℕ) → holds n next.numbers ≡ (holds n pass.numbers && not (holds n numbers))

  -- so did each, to one that has seen as much and did nothing
  pub record EachSplits (numbers : List Span) (old new made : List (Caller (Past (Cell R A)))) : Type 0 where
    pub many : length new ≡ length old
    pub many_made : length made ≡ length old
    pub each : (m : ℕ) (pass : Caller (Past (Cell R A))) → slice_get old m ≡ Some pass
        → (next : Caller (Past (Cell R A))) × (slice_get new m ≡ Some next) × (slice_get made m ≡ Some (newcomer pass.table pass.seen numbers)) × GivesUp numbers pass next

  -- a lane has a pass of each metaslab, which has seen nothing and holds these numbers
  pub record IsDealt (locks : List (Lock (Cell R A))) (numbers : List Span) (passes : List (Caller (Past (Cell R A)))) : Type 0 where
    pub many : length passes ≡ length locks
    pub each : (m : ℕ) (lock : Lock (Cell R A)) → slice_get locks m ≡ Some lock → slice_get passes m ≡ Some (newcomer lock.table [] numbers)

  -- So has each lane, of the numbers of its list. The first passes hold all other numbers; they made nothing.
  pub record AreDealt (locks : List (Lock (Cell R A))) (numbers : List (Vec Span Global)) (lanes : List (Vec (Caller (Past (Cell R A))) Global)) (firsts : List (Caller (Past (Cell R A)))) : Type 0 where
    pub many : length lanes ≡ length numbers
    pub each : (i : ℕ) (list : Vec Span Global) (lane : Vec (Caller (Past (Cell R A))) Global) → slice_get numbers i ≡ Some list → slice_get lanes i ≡ Some lane → IsDealt locks list.items lane.items
    pub fits : BelongTo locks firsts
    pub fresh : (m : ℕ) (first : Caller (Past (Cell R A))) → slice_get firsts m ≡ Some first → (first.seen ≡ []) × (first.own ≡ [])
    pub left : (m : ℕ) (first : Caller (Past (Cell R A))) → slice_get firsts m ≡ Some first → (n : ℕ) → n < number_limit → one_if (holds n first.numbers) + shares n numbers ≡ 1

  -- the passes that several lanes have of one metaslab, in the order of the lanes
  abbrev pub with_pass : Option (Caller (Past (Cell R A))) → List (Caller (Past (Cell R A))) → List (Caller (Past (Cell R A)))
  with_pass None passes = passes
  with_pass (Some pass) passes = pass ∷ passes

  abbrev pub passes_at : ℕ → List (Vec (Caller (Past (Cell R A))) Global) → List (Caller (Past (Cell R A)))
  passes_at m [] = []
  passes_at m (lane ∷ lanes) = with_pass (slice_get lane.items m) (passes_at m lanes)

  -- a pass took another of the same lock in
  pub record Takes (pass other next : Caller (Past (Cell R A))) : Type 0 where
    pub table : next.table ≡ pass.table
    pub begins : StartsWith next.seen pass.seen
    pub begins_other : StartsWith next.seen other.seen
    pub own : next.own ≡ merge pass.own other.own
    pub numbers : next.numbers ≡ pass.numbers ++ other.numbers
    pub follows : Follows number_of pass.numbers next.seen pass.seen
    pub follows_other : Follows number_of other.numbers next.seen other.seen

  -- so did each
  pub record EachTakes (old others new : List (Caller (Past (Cell R A)))) : Type 0 where
    pub many : length new ≡ length old
    pub each : (m : ℕ) (pass other : Caller (Past (Cell R A))) → slice_get old m ≡ Some pass → slice_get others m ≡ Some other
        → (next : Caller (Past (Cell R A))) × (slice_get new m ≡ Some next) × Takes pass other next

  -- Several passes were joined to one. It has then seen what they saw, made what they made, and holds what they held. What a pass hadn't seen concerns none of its numbers.
  pub record JoinsAll (first : Caller (Past (Cell R A))) (passes : List (Caller (Past (Cell R A)))) (next : Caller (Past (Cell R A))) : Type 0 where
    pub table : next.table ≡ first.table
    pub seen : AllSeen next.seen passes
    pub made : (x : ℕ) → times x next.own ≡ times x first.own + makers x passes
    pub numbers : (n : ℕ) → 1 ≤ one_if (holds n first.numbers) + holders n passes → holds n next.numbers ≡ true
    pub inside : All (AreInside next.numbers) passes
    pub follows : All (FollowsOwn next.seen) passes
    pub first_inside : AreInside next.numbers first
    pub first_follows : FollowsOwn next.seen first

  -- so were those that the lanes have of each metaslab
  pub record AreJoined (old : List (Caller (Past (Cell R A)))) (lanes : List (Vec (Caller (Past (Cell R A))) Global)) (new : List (Caller (Past (Cell R A)))) : Type 0 where
    pub many : length new ≡ length old
    pub each : (m : ℕ) (first next : Caller (Past (Cell R A))) → slice_get old m ≡ Some first → slice_get new m ≡ Some next → JoinsAll first (passes_at m lanes) next

  -- a metaslab was taken out of its lock in a last turn, by a pass
  pub record IsClosed (rack : racks.Ghosts R) (area : areas.Ghosts A) (lock : Lock (Cell R A)) (pass : Caller (Past (Cell R A))) (shard : Shard R A) : Type 0 where
    pub value : Cell R A
    pub is : shard ≡ value.shard
    pub closes : Closes (Step rack area) lock.first pass value

  -- so was each
  abbrev pub AllClosed : racks.Ghosts R → areas.Ghosts A → List (Lock (Cell R A)) → List (Caller (Past (Cell R A))) → List (Shard R A) → Type 0
  AllClosed rack area [] [] [] = ⊤
  AllClosed rack area (lock ∷ locks) (pass ∷ passes) (shard ∷ shards) = IsClosed rack area lock pass shard × AllClosed rack area locks passes shards
  AllClosed rack area locks passes shards = ⊥

  -- and they stand, the last one first, behind those that were there
  pub record AreClosed (rack : racks.Ghosts R) (area : areas.Ghosts A) (locks : List (Lock (Cell R A))) (passes : List (Caller (Past (Cell R A)))) (old new : List (Shard R A)) : Type 0 where
    pub shards : List (Shard R A)
    pub closed : AllClosed rack area locks passes shards
    pub behind : new ≡ old ++ reverse shards

  -- Each metaslab was taken out of its lock in a last turn, behind all holds of all lanes: each place of its history is just one pass's, and what a pass hasn't seen of it
  -- concerns none of its numbers.
  pub record AreUnlocked (rack : racks.Ghosts R) (area : areas.Ghosts A) (locks : List (Lock (Cell R A))) (firsts : List (Caller (Past (Cell R A)))) (lanes : List (Vec (Caller (Past (Cell R A))) Global)) (shards : List (Shard R A)) : Type 0 where
    pub many : length shards ≡ length locks
    pub each : (m : ℕ) (lock : Lock (Cell R A)) (first : Caller (Past (Cell R A))) → slice_get locks m ≡ Some lock → slice_get firsts m ≡ Some first
        → (value : Cell R A) × (slice_get shards m ≡ Some value.shard) × ClosesEach (Step rack area) lock.first first (passes_at m lanes) value
