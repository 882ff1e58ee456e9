-- A rebuild that waits: groups are committed until it runs.
use Rattle.std.proofs.Common.{◌++◌, [], inl, inr, ℕ, suc, List, Ok, Err, refl, ap}
use Rattle.draid_rack.specs.declared.Rack as racks
use Rattle.draid_area.specs.declared.Area as areas
use Rattle.draid_names.specs.declared.pass_kind.PassKind.TheVariants.{Heal, Rebuild}
use Rattle.draid_perm.specs.declared.perms.Perms.{Perms}
use Rattle.draid_spec.specs.declared.layout.Geometry.{Geometry}
use Rattle.draid_session.specs.Groups as groups
use Rattle.draid_session.specs.Holds.{Hold}
use Rattle.draid_session.specs.Passes as passes
use Rattle.draid_session.specs.Phases.{Chain, End, Went}
use Rattle.draid_session.specs.State.{State}
use Rattle.draid_pool.specs.Carries.{CarriesOut}
use Rattle.draid_pool.specs.Pools.{Represents}
use Rattle.draid_pool.specs.Syncing.{Phase, SyncDoes, end_of}
use Rattle.draid_pool.specs.declared.fault.SyncFault.{SyncFault}
use Rattle.draid_pool.specs.declared.fault.SyncFault.TheVariants as sync
use Rattle.draid_pool.specs.declared.fault.Synced.{Synced}
use Rattle.draid_pool.specs.declared.pool.Pool.{Pool}
use Rattle.draid_pool.proofs.Lifted.{carries_none}
use Rattle.draid_visits.specs.Visiting.{end_by}
use Rattle.draid_visits.proofs.Leading.{Does, Leads, Says, Steps, leads_end, leads_on}

-- what is left behind a look that found that it waits: a sync, and what comes then
abbrev pub Awaits : Geometry → Perms → ℕ → End → List Hold → Type 0
Awaits g p m end holds = (n : ℕ) × (group : ℕ) × (thin : ℕ) × Chain (groups.Syncs g p group thin) (passes.Readies g p m n) holds end

abbrev pub Readying : Geometry → Perms → ℕ → End → List Hold → Type 0
Readying g p m end holds = passes.ReadyPhase g p Rebuild m holds end

-- one group was committed
abbrev pub SyncsOnce : Says
SyncsOnce g p holds = (group : ℕ) × (thin : ℕ) × groups.Syncs g p group thin holds Went

pub waits_then : (g : Geometry) (p : Perms) (m : ℕ) (end : End) (front rest : List Hold) → passes.Waits g p m front [] → Awaits g p m end rest → Readying g p m end (front ++ rest)
waits_then g p m end front rest w is = (
  suc is.0,
  (rest, is.1, is.2, record { v = w.v; are = ap (λ hs. hs ++ rest) w.are; there = w.there; planned = w.planned; not_yet = w.not_yet }, is.3),
)

pub syncs_then : (g : Geometry) (p : Perms) (m : ℕ) (end : End) (front rest : List Hold) → SyncsOnce g p front → Readying g p m end rest → Awaits g p m end (front ++ rest)
syncs_then g p m end front rest s is = (is.0, s.0, s.1, inl (front, rest, refl, s.2, is.1))

pub sync_fails : (g : Geometry) (p : Perms) (m : ℕ) (end : End) (holds : List Hold) → groups.SyncStops g p holds end → Awaits g p m end holds
sync_fails g p m end holds s = (0, s.group, s.thin, inr (s.stopped, s.syncs))

-- a sync that was stopped, by why
stops_by : (x : State) (why : SyncFault) (holds : List Hold) (store : _) → SyncDoes x (Err why) holds store → Does x (λ hs. groups.SyncStops x.geometry x.perms hs (end_by why)) holds store
stops_by x sync.Worn holds store d = d
stops_by x sync.Last holds store d = d
stops_by x sync.Shelf holds store d = d
stops_by x sync.NoMemory holds store d = d

module _ {R A : Type 0} (rack : racks.Ghosts R) (area : areas.Ghosts A) (m : ℕ) where
  abbrev pub Waiting : Pool R A → State → Type 0
  Waiting pool x = Leads rack area {I = End} (Readying x.geometry x.perms m) (Readying x.geometry x.perms m) pool x

  abbrev pub Behind : Pool R A → State → Type 0
  Behind pool x = Leads rack area {I = End} (Readying x.geometry x.perms m) (Awaits x.geometry x.perms m) pool x

  -- it was looked at
  pub it_waits : (mid new : Pool R A) (x : State) → Waiting mid x → Steps rack area mid new (λ g p holds. passes.Waits g p m holds []) → Behind new x
  it_waits mid new x l step =
      leads_on rack area (Readying x.geometry x.perms m) (Readying x.geometry x.perms m) (Awaits x.geometry x.perms m) (λ g p holds. passes.Waits g p m holds []) mid new x l step
      (λ end front rest. waits_then x.geometry x.perms m end front rest)

  -- and a group was committed
  pub it_syncs : (mid new : Pool R A) (x : State) (it : Synced) → Behind mid x → ((y : State) → Represents rack area mid y → CarriesOut rack area new y (SyncDoes y (Ok it))) → Waiting new x
  it_syncs mid new x it l step =
      leads_on rack area (Readying x.geometry x.perms m) (Awaits x.geometry x.perms m) (Readying x.geometry x.perms m) SyncsOnce mid new x l
      (λ y r. (let c = step y r in
      record { holds = c.holds; reached = c.reached; store = c.store; follows = c.follows; done = (c.done.0, (it.group, it.thin, c.done.1)); represents = c.represents }))
      (λ end front rest. syncs_then x.geometry x.perms m end front rest)

  -- or it wasn't
  pub it_stops : (mid new : Pool R A) (x : State) (why : SyncFault) → Behind mid x → ((y : State) → Represents rack area mid y → CarriesOut rack area new y (SyncDoes y (Err why)))
      → CarriesOut rack area new x (Phase x (passes.ReadyPhase x.geometry x.perms Rebuild m) (end_of {T = Unit} (Err why)))
  it_stops mid new x why l step =
      leads_end rack area (Readying x.geometry x.perms m) (Awaits x.geometry x.perms m) (λ g p holds. groups.SyncStops g p holds (end_by why)) mid new x (end_by why) l
      (λ y r. (let c = step y r in
      record { holds = c.holds; reached = c.reached; store = c.store; follows = c.follows; done = stops_by y why c.holds c.store c.done; represents = c.represents }))
      (λ holds s. sync_fails x.geometry x.perms m (end_by why) holds s)

  -- it runs
  pub it_runs : (mid new : Pool R A) (x : State) → Waiting mid x → Steps rack area mid new (λ g p holds. passes.RunsNow g p m holds)
      → CarriesOut rack area new x (Phase x (passes.ReadyPhase x.geometry x.perms Rebuild m) Went)
  it_runs mid new x l step =
      leads_end rack area (Readying x.geometry x.perms m) (Readying x.geometry x.perms m) (λ g p holds. passes.RunsNow g p m holds) mid new x Went l step (λ holds runs. (0, (refl, runs)))

  -- a scrub runs as it is
  pub scrub_ready : (pool : Pool R A) (x : State) → Represents rack area pool x → CarriesOut rack area pool x (Phase x (passes.ReadyPhase x.geometry x.perms Heal m) Went)
  scrub_ready pool x is = carries_none rack area pool x (Phase x (passes.ReadyPhase x.geometry x.perms Heal m) Went) is (refl, (refl, refl))
