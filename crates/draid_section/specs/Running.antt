-- Lanes whose jobs are run over the locks of a section, and what each had before and behind it.
use Rattle.std.specs.Prelude.{◌≡◌, ◌<◌, ℕ, List, Some, length, slice_get}
use Rattle.draid_rack.specs.declared.Rack as racks
use Rattle.draid_area.specs.declared.Area as areas
use Rattle.draid_spec.specs.declared.layout.Geometry.{Geometry}
use Rattle.draid_turn.specs.Calls.{Caller, Lock}
use Rattle.draid_turn.specs.declared.past.Past.{Past}
use Rattle.draid_pool.specs.declared.cell.Cell.{Cell}
use Rattle.draid_lanes.specs.Lanes.{IsSameLane, IsWholeLane}
use Rattle.draid_lanes.specs.declared.lane.Lane.{Lane}
use Rattle.draid_lanes.specs.declared.uber.UberCell.{UberCell}
use Rattle.draid_section.specs.declared.seats.Shares.{Shares}

module _ {R A J : Type 0} where
  -- there are as many objects' tables and jobs as lanes
  pub record AreAlike (shares : Shares R A J) : Type 0 where
    pub owns : length shares.owns.items ≡ length shares.passes.items
    pub jobs : length shares.jobs.items ≡ length shares.passes.items

  -- and passes of the uberblock's lock
  pub record AreEven (shares : Shares R A J) (passes : List (Caller (Past (UberCell R A)))) : Type 0 where
    pub owns : length shares.owns.items ≡ length shares.passes.items
    pub jobs : length shares.jobs.items ≡ length shares.passes.items
    pub ubers : length passes ≡ length shares.passes.items

module _ {R A G W : Type 0} where
  -- a lane over these locks of metaslabs and this one of the uberblock
  pub record IsOver (locks : List (Lock (Cell R A))) (uber : Lock (UberCell R A)) (geometry : Geometry) (lane : Lane R A G W) : Type 0 where
    pub turns : lane.metaslabs.turns.now ≡ locks
    pub uber_is : lane.uber.now ≡ uber
    pub geometry_is : lane.geometry ≡ geometry

  -- what every job keeps of its lane: it is whole and the same, and its pass of the uberblock's lock holds what it held
  pub record IsLeftWhole (rack : racks.Ghosts R) (area : areas.Ghosts A) (old new : Lane R A G W) : Type 0 where
    pub whole : IsWholeLane rack area new
    pub same : IsSameLane old new
    pub numbers : new.pass.numbers ≡ old.pass.numbers

module _ {R A G W J : Type 0} where
  -- what the lane at this place has of the shares, and its job
  pub record HasShare (shares : Shares R A J) (passes : List (Caller (Past (UberCell R A)))) (i : ℕ) (job : J) (lane : Lane R A G W) : Type 0 where
    pub held : slice_get shares.passes.items i ≡ Some lane.metaslabs.passes
    pub own : slice_get shares.owns.items i ≡ Some lane.own
    pub job_is : slice_get shares.jobs.items i ≡ Some job
    pub pass : slice_get passes i ≡ Some lane.pass

  -- so does each job of a kind that has what it needs
  abbrev pub KeepLanes : racks.Ghosts R → areas.Ghosts A → (needs : J → Lane R A G W → Type 0) → (relates : J → Lane R A G W → J → Lane R A G W → Type 0) → Type 0
  KeepLanes rack area needs relates = (job : J) (lane : Lane R A G W) (done : J) (next : Lane R A G W) → needs job lane → relates job lane done next → IsLeftWhole rack area lane next

  -- The job of the lane at this place was done. The lane had its number.
  pub record JobRan (relates : J → Lane R A G W → J → Lane R A G W → Type 0) (locks : List (Lock (Cell R A))) (uber : Lock (UberCell R A)) (geometry : Geometry) (old new : Shares R A J) (passes nexts : List (Caller (Past (UberCell R A)))) (i : ℕ) : Type 0 where
    pub job : J
    pub lane : Lane R A G W
    pub done : J
    pub next : Lane R A G W
    pub over : IsOver locks uber geometry lane
    pub begun : HasShare old passes i job lane
    pub number : lane.metaslabs.lane ≡ i
    pub related : relates job lane done next
    pub ended : HasShare new nexts i done next

  -- so were those of all
  pub record JobsRan (relates : J → Lane R A G W → J → Lane R A G W → Type 0) (locks : List (Lock (Cell R A))) (uber : Lock (UberCell R A)) (geometry : Geometry) (old new : Shares R A J) (passes nexts : List (Caller (Past (UberCell R A)))) : Type 0 where
    pub even : AreEven new nexts
    pub many : length new.passes.items ≡ length old.passes.items
    pub each : (i : ℕ) → i < length old.passes.items → JobRan relates locks uber geometry old new passes nexts i

  -- a lane at its place, as it begins over these locks
  pub record BeginsAt (locks : List (Lock (Cell R A))) (uber : Lock (UberCell R A)) (geometry : Geometry) (shares : Shares R A J) (passes : List (Caller (Past (UberCell R A)))) (i : ℕ) (job : J) (lane : Lane R A G W) : Type 0 where
    pub over : IsOver locks uber geometry lane
    pub has : HasShare shares passes i job lane
    pub number : lane.metaslabs.lane ≡ i

  -- each job has what it needs then
  abbrev pub MayRunEach : (needs : J → Lane R A G W → Type 0) → List (Lock (Cell R A)) → Lock (UberCell R A) → Geometry → Shares R A J → List (Caller (Past (UberCell R A))) → Type 0
  MayRunEach needs locks uber geometry shares passes = (i : ℕ) (job : J) (lane : Lane R A G W) → BeginsAt locks uber geometry shares passes i job lane → needs job lane

module _ {R A G W J : Type 0} where
  -- each job was done in a lane
  pub record WereDone (relates : J → Lane R A G W → J → Lane R A G W → Type 0) (jobs done : List J) : Type 0 where
    pub many : length done ≡ length jobs
    pub each : (i : ℕ) (job : J) → slice_get jobs i ≡ Some job → (lane : Lane R A G W) × (end : J) × (next : Lane R A G W) × (slice_get done i ≡ Some end) × relates job lane end next
