-- What a lane's job is said to have done, and to have shown of the objects, in the words of a session.
use Rattle.std.specs.Prelude.{◌≡◌, ◌++◌, ℕ, Bool, true, List, Option, All, if◌then◌else◌, None}
use Rattle.draid_names.specs.declared.pointer.Pointer.{Pointer}
use Rattle.draid_rack.specs.declared.Rack as racks
use Rattle.draid_area.specs.declared.Area as areas
use Rattle.draid_objects.specs.Changes.{Change, object_of}
use Rattle.draid_session.specs.Holds.{Hold}
use Rattle.draid_session.specs.Known.{Known}
use Rattle.draid_session.specs.State.{State, Store}
use Rattle.draid_pool.specs.Knows.{KnowsTable}
use Rattle.draid_lanes.specs.Lanes.{table_of}
use Rattle.draid_lanes.specs.Locks.{owned_by}
use Rattle.draid_lanes.specs.Traces.{SawBytes, ToldUnpointed}
use Rattle.draid_lanes.specs.declared.lane.Lane.{Lane}
use Rattle.draid_objects.specs.Marks.{check_by}

-- what befell a thread's own objects since, and nothing befell others, or a checkpoint where none stands
pub record Grows (owns : ℕ → Bool) (old new : Store) : Type 0 where
  pub since : List Change
  pub added : new.changes ≡ since ++ old.changes
  pub own : All (λ c. owns (object_of c) ≡ true) since
  pub marks : check_by old.marks ≡ None → new.marks ≡ old.marks

module _ {R A G W J : Type 0} (rack : racks.Ghosts R) (area : areas.Ghosts A) (says : J → J → Store → List Hold → Store → Type 0) (rests : J → Type 0) where
  -- What each job does is said so, from whatever its lane knew where no checkpoint stands; where that rests on the bytes of all blocks, if these had them in all that the lane saw.
  abbrev pub JobsTell : (relates : J → Lane R A G W → J → Lane R A G W → Type 0) → State → Type 0
  JobsTell relates x = (job : J) (lane : Lane R A G W) (done : J) (next : Lane R A G W) → relates job lane done next
      → ToldUnpointed rack area x (λ old holds new. ((rests job → SawBytes rack area x next) → says job done old holds new) × Grows (owned_by lane.metaslabs.passes.items) old new) lane next

-- ---- a pool of no known state

-- an object's pointer is that of a lane's table where the object is the lane's own, else that of another table
abbrev pub beside : (owns : ℕ → Bool) → (table rest : ℕ → Option Pointer) → ℕ → Option Pointer
beside owns table rest object = if owns object then table object else rest object

-- What is said of the objects is allowed by what was known of them, and what that adds is so.
pub record TeachesSo (learns : Known → Known → Type 0) (old : Known) (table : ℕ → Option Pointer) : Type 0 where
  pub new : Known
  pub learned : learns old new
  pub fits : KnowsTable table new

-- so each job says, of its lane's objects, whatever other objects there are
abbrev pub JobsTeach : {R A G W J : Type 0} → (learns : J → J → Known → Known → Type 0) → (relates : J → Lane R A G W → J → Lane R A G W → Type 0) → Type 0
JobsTeach {R} {A} {G} {W} {J} learns relates = (job : J) (lane : Lane R A G W) (done : J) (next : Lane R A G W) → relates job lane done next → (rest : ℕ → Option Pointer) (known : Known)
    → KnowsTable (beside (owned_by lane.metaslabs.passes.items) (table_of lane) rest) known → TeachesSo (learns job done) known (beside (owned_by lane.metaslabs.passes.items) (table_of next) rest)
