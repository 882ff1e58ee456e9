-- The uberblock that is put under a lock, the passes that lanes get of it, and the uberblock that is taken out again.
use Rattle.std.specs.Prelude.{◌≡◌, ◌<◌, ◌+◌, ◌∷◌, ℕ, List, [], Some, length, slice_get}
use Rattle.std.specs.declared.vec.Vec.{Vec}
use Rattle.std.specs.declared.alloc.Global.{Global}
use Rattle.draid_rack.specs.declared.Rack as racks
use Rattle.draid_area.specs.declared.Area as areas
use Rattle.draid_turn.specs.Calls.{Caller, Lock, newcomer}
use Rattle.draid_turn.specs.Lists.{one_if}
use Rattle.draid_turn.specs.Numbers.{all_numbers, holds, number_limit}
use Rattle.draid_turn.specs.declared.past.Past.{Past}
use Rattle.draid_turn.specs.declared.span.Span.{Span}
use Rattle.draid_holds.specs.Passes.{ClosesEach, holders}
use Rattle.draid_uber.specs.declared.uber.Uber.{Uber}
use Rattle.draid_pool.specs.declared.cell.Cell.{Cell}
use Rattle.draid_lanes.specs.Ubers.{IsUberOf, UberStep}
use Rattle.draid_lanes.specs.declared.uber.UberCell.{UberCell}

-- the number of one lane alone
abbrev pub lane_alone : ℕ → List Span
lane_alone lane = record { first = lane; last = lane } ∷ []

module _ {R A : Type 0} where
  -- the lock was made with this uberblock, these locks of metaslabs and these passes of the groups; the first pass of it has seen nothing and holds all numbers
  pub record IsUberLock (uber : Uber A) (locks : List (Lock (Cell R A))) (groups : Vec (Caller (Past (Cell R A))) Global) (lock : Lock (UberCell R A)) (first : Caller (Past (UberCell R A))) : Type 0 where
    pub uber_is : lock.first.uber ≡ uber
    pub turns_are : lock.first.turns.now ≡ locks
    pub groups_are : lock.first.groups ≡ groups
    pub first_is : first ≡ newcomer lock.table [] all_numbers

  -- what every hold of the uberblock keeps to, of what it found and how it left it
  abbrev pub UberHold : racks.Ghosts R → areas.Ghosts A → UberCell R A → Past (UberCell R A) → Type 0
  UberHold rack area old past = UberStep rack area old.turns.now past.left.turns.now old.uber past.left.uber past.left.groups

  -- The uberblock was taken out of its lock in a last turn, with the passes that hold the groups then: each place of its history is just one pass's. The metaslabs' locks are those with which it was put there.
  pub record UberComesBack (rack : racks.Ghosts R) (area : areas.Ghosts A) (lock : Lock (UberCell R A)) (first : Caller (Past (UberCell R A))) (passes : List (Caller (Past (UberCell R A)))) (uber : Uber A) (groups : Vec (Caller (Past (Cell R A))) Global) : Type 0 where
    pub value : UberCell R A
    pub uber_is : uber ≡ value.uber
    pub groups_are : groups ≡ value.groups
    pub same : value.turns.now ≡ lock.first.turns.now
    pub closes : ClosesEach (UberHold rack area) lock.first first passes value
    pub is : IsUberOf rack area lock.first.turns.now uber groups

module _ {T : Type 0} where
  -- For each of so many lanes there is a pass of the lock, which has seen nothing, made nothing, and holds the lane's number. So has the first pass, which holds all other numbers.
  pub record AreOfLanes (lock : Lock T) (count : ℕ) (passes : List (Caller (Past T))) (first : Caller (Past T)) : Type 0 where
    pub many : length passes ≡ count
    pub each : (lane : ℕ) (pass : Caller (Past T)) → slice_get passes lane ≡ Some pass → pass ≡ newcomer lock.table [] (lane_alone lane)
    pub fresh : (first.table ≡ lock.table) × (first.seen ≡ []) × (first.own ≡ [])
    pub left : (n : ℕ) → n < number_limit → one_if (holds n first.numbers) + holders n passes ≡ 1
