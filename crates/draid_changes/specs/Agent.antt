-- What the repair agent's call on the arms of a pool says by its answer.
use Rattle.std.specs.Prelude.{◌≡◌, ◌≢◌, ◌+◌, ◌<◌, ◌≤◌, ◌++◌, ◌⊎◌, ℕ, Bool, true, false, List, [], Option, Result, Ok, Err, length}
use Rattle.draid_names.specs.declared.journal.Entry.{Entry}
use Rattle.draid_spec.specs.declared.layout.Geometry.{Geometry}
use Rattle.draid_session.specs.Agent as agent
use Rattle.draid_session.specs.Agent.{AreDueFrom, AreNumbered, AttachesAll, Gives, IsntDue, SomeCame}
use Rattle.draid_session.specs.Arms.{HasPass, ReservePhase}
use Rattle.draid_session.specs.Groups.{Finishes}
use Rattle.draid_session.specs.Holds.{Hold, View}
use Rattle.draid_session.specs.Looks.{Looks, OnlyLooks}
use Rattle.draid_session.specs.Phases.{Chain, End, NoneOf, Starved, Went}
use Rattle.draid_session.specs.State.{State, Store}
use Rattle.draid_pool.specs.Syncing.{end_of}
use Rattle.draid_pool.specs.declared.fault.SyncFault.TheVariants as sync
use Rattle.draid_changes.specs.declared.agent.GiveFault.{GiveFault}
use Rattle.draid_changes.specs.declared.agent.GiveFault.TheVariants as fault

-- ---- where no group is closing

-- each metaslab is looked at, and none has a pass
pub record Sees (geometry : Geometry) (holds : List Hold) (views : List View) (rest : List Hold) : Type 0 where
  pub looks : List Hold
  pub are : holds ≡ looks ++ rest
  pub looked : Looks geometry.props.metaslabs looks views
  pub none : NoneOf HasPass views

module _ (x : State) (chosen : ℕ → ℕ → List ℕ → Option ℕ → Type 0) (least : ℕ) (before : List Entry) where
  -- whether a spare came
  abbrev pub CameIs : Bool → List Entry → Type 0
  CameIs true entries = SomeCame x.geometry x.perms chosen entries
  CameIs false entries = SomeCame x.geometry x.perms chosen entries → ⊥

  abbrev pub DueDoes : Result Bool GiveFault → List Entry → List Hold → Store → Type 0
  DueDoes (Ok came) after holds new =
      (new ≡ x.store) × (views : List View) × (rest : List Hold) × (entries : List Entry) × Sees x.geometry holds views rest × (after ≡ before ++ entries) × (entries ≢ []) × CameIs came entries
      × Gives x.geometry x.perms chosen least views (length before + 1) entries
      × Chain (ReservePhase x.geometry x.perms (λ v. length entries)) (AttachesAll x.geometry x.perms chosen entries) rest Went
  DueDoes (Err fault.Idle) after holds new =
      (new ≡ x.store) × (after ≡ before) × (views : List View) × Sees x.geometry holds views [] × ((slot : ℕ) → slot < x.geometry.spec.children → IsntDue least views slot)
  DueDoes (Err (fault.Stopped why)) after holds new =
      (new ≡ x.store) × (after ≡ before)
      × (((views : List View) × (rest : List Hold) × (count : ℕ) × Sees x.geometry holds views rest × AreDueFrom least views 0 x.geometry.spec.children count
      × ReservePhase x.geometry x.perms (λ v. count) rest (end_of {T = ℕ} (Err why)))
      ⊎ ((why ≡ sync.NoMemory) × OnlyLooks holds))
  DueDoes (Err (fault.PassThere metaslab number)) after holds new = ⊥

  -- ---- the whole

  -- it was stopped before the first spare came: as a group that was closing was finished, or as events were reserved for each due slot
  abbrev pub GiveStops : List Hold → End → Type 0
  GiveStops holds end =
      ((end ≢ Went) × Finishes x.geometry x.perms holds end)
      ⊎ ((views : List View) × (rest : List Hold) × (count : ℕ) × (end ≢ Went) × agent.Begins x.geometry x.perms chosen holds views rest × AreDueFrom least views 0 x.geometry.spec.children count
      × ReservePhase x.geometry x.perms (λ v. count) rest end)

  -- for want of memory it may be stopped besides where nothing but looks came behind that group
  abbrev pub GiveStarves : List Hold → Type 0
  GiveStarves holds = GiveStops holds Starved ⊎ ((finish : List Hold) × (looks : List Hold) × (holds ≡ finish ++ looks) × Finishes x.geometry x.perms finish Went × OnlyLooks looks)

  abbrev pub GiveDoes : Result Bool GiveFault → List Entry → List Hold → Store → Type 0
  GiveDoes (Ok came) after holds new =
      (new ≡ x.store) × (entries : List Entry) × (after ≡ before ++ entries) × (entries ≢ []) × CameIs came entries × agent.Acts x.geometry x.perms chosen least (length before + 1) entries holds []
  GiveDoes (Err fault.Idle) after holds new = (new ≡ x.store) × (after ≡ before) × agent.IsIdleAll x.geometry x.perms chosen least holds
  GiveDoes (Err (fault.PassThere metaslab number)) after holds new = (new ≡ x.store) × (after ≡ before) × agent.FindsPass x.geometry x.perms chosen holds metaslab number
  GiveDoes (Err (fault.Stopped sync.NoMemory)) after holds new = (new ≡ x.store) × (after ≡ before) × GiveStarves holds
  GiveDoes (Err (fault.Stopped why)) after holds new = (new ≡ x.store) × (after ≡ before) × GiveStops holds (end_of {T = ℕ} (Err why))

-- ---- the journal, whatever is known of the pool

-- a pool has no more slots
abbrev pub most_slots : ℕ
most_slots = 64

-- Some entries came behind those that the journal had, with the numbers behind theirs, and no more than a pool has slots.
pub record AddsEntries (before after : List Entry) : Type 0 where
  pub more : List Entry
  pub are : after ≡ before ++ more
  pub numbered : AreNumbered (length before + 1) more
  pub few : length more ≤ most_slots

-- by the answer
abbrev pub EntriesAre : Result Bool GiveFault → List Entry → List Entry → Type 0
EntriesAre (Ok came) before after = AddsEntries before after
EntriesAre (Err why) before after = after ≡ before
