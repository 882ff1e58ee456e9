-- Lanes that take seats, each with its job, and that rise from them.
use Rattle.std.specs.Prelude.{◌≡◌, ◌+◌, ◌≤◌, ℕ, List, [], Some, length, slice_get, vec_capacity}
use Rattle.std.specs.declared.vec.Vec.{Vec}
use Rattle.std.specs.declared.alloc.Global.{Global}
use Rattle.draid_spec.specs.declared.layout.Geometry.{Geometry}
use Rattle.draid_turn.specs.Calls.{Caller, Lock}
use Rattle.draid_turn.specs.declared.past.Past.{Past}
use Rattle.draid_pool.specs.declared.cell.Cell.{Cell}
use Rattle.draid_lanes.specs.declared.jobs.Seat.{Seat}
use Rattle.draid_lanes.specs.declared.lane.Lane.{Lane}
use Rattle.draid_lanes.specs.declared.running.InLane.{InLane}
use Rattle.draid_lanes.specs.declared.uber.UberCell.{UberCell}
use Rattle.draid_section.specs.declared.seats.Shares.{Shares}
use Rattle.draid_section.specs.Running.{HasShare, IsOver}

module _ {R A G W J : Type 0} where
  -- a lane waits on the seat with its job: it is that at this place of the shares
  pub record IsSeated (shares : Shares R A J) (passes : List (Caller (Past (UberCell R A)))) (i : ℕ) (seat : Seat (Lane R A G W) (InLane J)) : Type 0 where
    pub lane : Lane R A G W
    pub there : seat.lane ≡ Some lane
    pub has : HasShare shares passes i seat.job.job lane

  -- all of these seats are taken so, the first one by the last lane
  pub record AreSeated (shares : Shares R A J) (passes : List (Caller (Past (UberCell R A)))) (seats : List (Seat (Lane R A G W) (InLane J))) : Type 0 where
    pub many : length seats ≡ length shares.passes.items
    pub each : (k : ℕ) (seat : Seat (Lane R A G W) (InLane J)) → slice_get seats k ≡ Some seat → (i : ℕ) × (i + k + 1 ≡ length seats) × IsSeated shares passes i seat

  -- the lane on the seat is over these locks and has this number
  pub record IsAt (locks : List (Lock (Cell R A))) (uber : Lock (UberCell R A)) (geometry : Geometry) (number : ℕ) (seat : Seat (Lane R A G W) (InLane J)) : Type 0 where
    pub lane : Lane R A G W
    pub there : seat.lane ≡ Some lane
    pub over : IsOver locks uber geometry lane
    pub number_is : lane.metaslabs.lane ≡ number

  -- so is each, the first one the last lane
  abbrev pub AreAt : List (Lock (Cell R A)) → Lock (UberCell R A) → Geometry → List (Seat (Lane R A G W) (InLane J)) → Type 0
  AreAt locks uber geometry seats = (k : ℕ) (seat : Seat (Lane R A G W) (InLane J)) → slice_get seats k ≡ Some seat → (i : ℕ) × (i + k + 1 ≡ length seats) × IsAt locks uber geometry i seat

  -- a lane waits on each seat
  abbrev pub AreTaken : List (Seat (Lane R A G W) (InLane J)) → Type 0
  AreTaken seats = (k : ℕ) (seat : Seat (Lane R A G W) (InLane J)) → slice_get seats k ≡ Some seat → (lane : Lane R A G W) × (seat.lane ≡ Some lane)

module _ {R A J : Type 0} where
  -- nothing is left of the shares, and there is room for those of so many lanes
  pub record HaveRoomForLanes (count : ℕ) (shares : Shares R A J) (passes : Vec (Caller (Past (UberCell R A))) Global) : Type 0 where
    pub none : (shares.passes.items ≡ []) × (shares.owns.items ≡ []) × (shares.jobs.items ≡ []) × (passes.items ≡ [])
    pub held : count ≤ vec_capacity shares.passes
    pub owns : count ≤ vec_capacity shares.owns
    pub jobs : count ≤ vec_capacity shares.jobs
    pub ubers : count ≤ vec_capacity passes
