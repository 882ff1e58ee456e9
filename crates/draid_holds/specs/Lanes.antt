-- Lanes over one lock, each with a pass of its own.
use Rattle.std.specs.Prelude.{◌≡◌, ◌<◌, ℕ, List, length, map, slice_index_or}
use Rattle.draid_turn.specs.declared.past.Past.{Past}
use Rattle.draid_turn.specs.Calls.{Caller, Lock}
use Rattle.draid_holds.specs.Holds.{Hold, Went}
use Rattle.draid_holds.specs.Passes.{ClosesEach}
use Rattle.draid_holds.specs.declared.lanes.Lane.{Lane}

-- a lane's work was done by holds of its pass, one after another
pub record Worked {T W : Type 0} (relates : W → List (Hold T) → W → Type 0) (before after : W) (old new : Caller (Past T)) : Type 0 where
  pub holds : List (Hold T)
  pub went : Went old holds new
  pub related : relates before holds after

module _ {T W : Type 0} where
  abbrev pub pass_of : Lane T W → Caller (Past T)
  pass_of lane = lane.pass

  abbrev pub work_of : Lane T W → W
  work_of lane = lane.work

  -- the lane's pass is of this lock, and its work may begin
  pub record MayWork (needs : W → Lock T → Caller (Past T) → Type 0) (lock : Lock T) (lane : Lane T W) : Type 0 where
    pub own : lane.pass.table ≡ lock.table
    pub needed : needs lane.work lock lane.pass

  abbrev pub LaneWorked : (W → List (Hold T) → W → Type 0) → Lane T W → Lane T W → Type 0
  LaneWorked relates old new = Worked relates old.work new.work old.pass new.pass

  abbrev pub EachWorked : (W → List (Hold T) → W → Type 0) → List (Lane T W) → List (Lane T W) → Type 0
  EachWorked relates old new = (i : ℕ) (d : Lane T W) → i < length old → LaneWorked relates (slice_index_or old i d) (slice_index_or new i d)

  -- All lanes ran, and the value was taken out. Each lane did its work by its own holds, in its order; these stand in the
  -- history; and each place of the history is just one lane's, or the first pass's
  pub record AllRan (step : T → Past T → Type 0) (relates : W → List (Hold T) → W → Type 0) (opened : T) (first : Caller (Past T)) (old : List (Lane T W)) (value : T) (works : List W) : Type 0 where
    pub new : List (Lane T W)
    pub count : length new ≡ length old
    pub works_are : works ≡ map work_of new
    pub worked : EachWorked relates old new
    pub closed : ClosesEach step opened first (map pass_of new) value
