-- A section in the words of a session: what each lane is said to have done, and to which state all of it led.
use Rattle.std.specs.Prelude.{◌≡◌, ◌++◌, ◌∷◌, ℕ, List, [], Some, flat_map, length, map, max, slice_get, None}
use Rattle.draid_rack.specs.declared.Rack as racks
use Rattle.draid_area.specs.declared.Area as areas
use Rattle.draid_objects.specs.Changes.{Change}
use Rattle.draid_session.specs.Holds.{Hold}
use Rattle.draid_session.specs.Keeping.{AreInStep}
use Rattle.draid_session.specs.Known.{Known}
use Rattle.draid_session.specs.Lanes.{SwitchesAgree, Together}
use Rattle.draid_session.specs.State.{State, Store}
use Rattle.draid_pool.specs.Knows.{KnowsPointers}
use Rattle.draid_pool.specs.Pools.{Represents}
use Rattle.draid_pool.specs.declared.pool.Pool.{Pool}
use Rattle.draid_objects.specs.Marks.{check_by}

-- what a lane did, what it has of its own in the end, and what befell its objects
pub record LaneDid : Type 0 where
  pub holds : List Hold
  pub store : Store
  pub since : List Change

-- the greatest number that one of them has, or that which all began with
abbrev pub greatest_of : (Store → ℕ) → Store → List LaneDid → ℕ
greatest_of f first [] = f first
greatest_of f first (lane ∷ lanes) = max (f lane.store) (greatest_of f first lanes)

module _ {R A J : Type 0} (rack : racks.Ghosts R) (area : areas.Ghosts A) (says : J → J → Store → List Hold → Store → Type 0) where
  -- Each lane did what is said of its job, from what the pool had of its own, where no checkpoint stood. All of it led together to a state for which the pool stands then: of its own it has what befell all lanes' objects, and
  -- numbers go on behind the greatest. Its metaslabs are in step, and agree on who is offline as they did.
  pub record SectionStood (x : State) (jobs done : List J) (new : Pool R A) : Type 0 where
    pub lanes : List LaneDid
    pub many : length lanes ≡ length jobs
    pub done_many : length done ≡ length jobs
    pub unpointed : check_by x.store.marks ≡ None
    pub each : (i : ℕ) (lane : LaneDid) → slice_get lanes i ≡ Some lane
        → (job : J) × (end : J) × (slice_get jobs i ≡ Some job) × (slice_get done i ≡ Some end) × says job end x.store lane.holds lane.store × (lane.store.changes ≡ lane.since ++ x.store.changes)
    pub reached : State
    pub represents : Represents rack area new reached
    pub together : Together (map (λ (lane : LaneDid). lane.holds) lanes) x reached
    pub changes : reached.store.changes ≡ flat_map (λ (lane : LaneDid). lane.since) lanes ++ x.store.changes
    pub marks : reached.store.marks ≡ x.store.marks
    pub seq : reached.store.seq ≡ greatest_of (λ (s : Store). s.seq) x.store lanes
    pub floor : reached.store.floor ≡ greatest_of (λ (s : Store). s.floor) x.store lanes
    pub steps : AreInStep reached
    pub switches : SwitchesAgree x → SwitchesAgree reached

-- ---- a pool of no known state

-- What each job says of the objects is allowed by what was known as the one before it ended, and adds to that.
abbrev pub LearnEach : {J : Type 0} → (learns : J → J → Known → Known → Type 0) → List J → List J → Known → Known → Type 0
LearnEach learns [] [] old new = new ≡ old
LearnEach learns (job ∷ jobs) (end ∷ done) old new = (mid : Known) × learns job end old mid × LearnEach learns jobs done mid new
LearnEach learns jobs done old new = ⊥

-- and what they add is so of the pool then
pub record SectionTaught {R A J : Type 0} (learns : J → J → Known → Known → Type 0) (jobs done : List J) (new : Pool R A) (known : Known) : Type 0 where
  pub later : Known
  pub learn : LearnEach learns jobs done known later
  pub fits : KnowsPointers new later
