-- What a shelf holds between lines and as a run ends.
use Rattle.std.specs.Prelude.{◌≡◌, ◌<◌, ◌+◌, ◌⊎◌, ◌++◌, ⊤, ℕ, Bool, List, ◌∷◌, Option, Some, None, Result, Ok, Err, IsSomeAnd, MatchOption, is_some, slice_get}
use Rattle.draid_record.specs.declared.fault.RecordFaultKind.{RecordFaultKind}
use Rattle.draid_names.specs.Faults.{Rose}
use Rattle.draid_rack.specs.declared.Rack as racks
use Rattle.draid_area.specs.declared.Area as areas
use Rattle.draid_spec.specs.declared.layout.Geometry.{Geometry}
use Rattle.draid_lines.specs.Lines.{lines_of}
use Rattle.draid_script.specs.Line.{Command, CreatePool, ImportPool}
use Rattle.draid_script.specs.declared.fault.LineFault.{LineFault}
use Rattle.draid_shelf.specs.Kits.{OnHeld}
use Rattle.draid_session.specs.Certain.{MakesLeaves}
use Rattle.draid_session.specs.Session.{Desk, Finding, CheckFault, Fault, Nothing, Untouched, Bare, Made, Open, Shut, Foreign, Unknown, HasLayout}
use Rattle.draid_session.specs.Session as finding
use Rattle.draid_session.specs.State.{Metaslab, State}
use Rattle.draid_pool.specs.Returning.{HoldsPool, SameCounts, AreaFailed, RackFailed, own_count}
use Rattle.draid_pool.specs.Shelves.{OnShelf}
use Rattle.draid_pool.specs.Taking.{IsAsBefore}
use Rattle.draid_pool.specs.Failing.{AreaFails, RackFails}
use Rattle.draid_import.specs.Checking.{CheckIsBad}
use Rattle.draid_import.specs.Faulty.{HoldsNoGroup, RecordIsBad}
use Rattle.draid_import.specs.Findings.{FindsPool}
use Rattle.draid_import.specs.Found.{HasRisen}
use Rattle.draid_pool.specs.Importable.{IsImportable}
use Rattle.draid_create.specs.Opening.{StaysMade}
use Rattle.draid_create.specs.Says.{IsSame, MakingFailed}
use Rattle.draid_pool.specs.declared.pool.Pool.{Pool}
use Rattle.draid_session.specs.Places.{line_behind}
use Rattle.draid_exits.specs.declared.status.RecordName.{RecordName}
use Rattle.draid_exits.specs.declared.status.RecordName.TheVariants as record_name

-- The devices of an open pool are away. Whether the shelf tells is as the pool was opened.
pub record IsOut (x : State) (now : OnShelf) : Type 0 where
  pub told : x.told ≡ is_some now.held

-- The pool of a state was given back, with a crash or without one: where the shelf tells, which the state says, it holds the pool, and no record of it has a fault to
-- an import. All counts are those of the state.
pub record HoldsShut (crash : Bool) (x : State) (now : OnShelf) : Type 0 where
  pub held : OnHeld now.held (HoldsPool x crash)
  pub importable : OnHeld now.held (λ held. IsImportable x held now.leaves)
  pub told : x.told ≡ is_some now.held
  pub counts : (m : ℕ) (y : Metaslab) → slice_get x.metaslabs m ≡ Some y → SameCounts y.counts (now.counts m)
  pub uber : own_count now.own ≡ x.uber_count

-- The devices of a new pool are on the shelf, which tells them or not. So many calls on the area of its uberblock have failed, and none but these and calls on areas of records.
pub record HoldsNew (told : Bool) (failed : ℕ) (geometry : Geometry) (now : OnShelf) : Type 0 where
  pub told_is : told ≡ is_some now.held
  pub made : StaysMade geometry failed now.held now.counts now.own

-- it tells that it has no pool
abbrev pub HoldsBare : OnShelf → Type 0
HoldsBare now = IsSomeAnd now.held (λ held. held.uber ≡ None)

-- What it holds, and what has failed on that, is as it was.
abbrev pub StaysAs : OnShelf → OnShelf → Type 0
StaysAs entry now = IsAsBefore entry.held now.held entry.counts now.counts entry.own now.own

-- no pool is open
abbrev pub IsClosed : Desk → Type 0
IsClosed (Open state) = ⊥
IsClosed (Foreign known) = ⊥
IsClosed desk = ⊤

-- What a shelf holds, where no pool is open: what it held at the entry, the same without a pool, a new pool as it was made, the pool that was given back, or whatever it may be.
abbrev pub HoldsDesk : Desk → OnShelf → OnShelf → Type 0
HoldsDesk Untouched entry now = IsSame entry now
HoldsDesk Bare entry now = StaysAs entry now × HoldsBare now
HoldsDesk (Made told failed geometry) entry now = HoldsNew told failed geometry now
HoldsDesk (Open state) entry now = ⊥
HoldsDesk (Shut crash state) entry now = HoldsShut crash state now
HoldsDesk (Foreign known) entry now = ⊥
HoldsDesk Unknown entry now = ⊤

-- What an import may find on a shelf that is as it was at the entry, by what that held.
abbrev pub MayFind : {R A : Type 0} → racks.Ghosts R → areas.Ghosts A → OnShelf → Finding → Type 0
MayFind rack area entry Nothing = HoldsNoGroup entry.held
MayFind rack area entry (Fault metaslab place kind) = RecordIsBad rack area entry.held entry.leaves entry.counts metaslab place kind
MayFind rack area entry (CheckFault place kind) = CheckIsBad rack area entry.held entry.leaves entry.counts place kind
MayFind rack area entry (finding.Pool group called objects) = FindsPool rack area entry.held entry.leaves entry.counts group called objects

-- the shelf tells before and after, or neither
abbrev pub TellsAsBefore : OnShelf → OnShelf → Type 0
TellsAsBefore before now = is_some now.held ≡ is_some before.held

-- ---- failures

-- a call of the shelf failed since, or one on an area that it holds has failed
abbrev pub HasFailed : OnShelf → OnShelf → Type 0
HasFailed entry now = Rose entry.faults now.faults ⊎ AreaFailed now.counts now.own

-- a call on an area of an open pool has failed
abbrev pub AreaHasFailed : State → Type 0
AreaHasFailed x = ((m : ℕ) × (y : Metaslab) × (slice_get x.metaslabs m ≡ Some y) × (0 < y.counts.even + y.counts.odd)) ⊎ (0 < x.uber_count)

-- the count of one rose between two states of the pool
abbrev pub AreaRose : State → State → Type 0
AreaRose x y =
    ((m : ℕ) × (a : Metaslab) × (b : Metaslab) × (slice_get x.metaslabs m ≡ Some a) × (slice_get y.metaslabs m ≡ Some b)
    × (Rose a.counts.even b.counts.even ⊎ Rose a.counts.odd b.counts.odd)) ⊎ Rose x.uber_count y.uber_count

-- a call on a rack of an open pool as a whole has failed
abbrev pub RackHasFailed : State → Type 0
RackHasFailed x = (m : ℕ) × (y : Metaslab) × (slice_get x.metaslabs m ≡ Some y) × (0 < y.counts.rack None)

-- the count of one rose between two states of the pool
abbrev pub RackRose : State → State → Type 0
RackRose x y =
    (m : ℕ) × (a : Metaslab) × (b : Metaslab) × (slice_get x.metaslabs m ≡ Some a) × (slice_get y.metaslabs m ≡ Some b) × Rose (a.counts.rack None) (b.counts.rack None)

-- so of a pool of which nothing else is said
abbrev pub PoolFails : {R A : Type 0} → areas.Ghosts A → Option (Pool R A) → Type 0
PoolFails area None = ⊥
PoolFails area (Some pool) = AreaFails area.faults pool

-- the one or the other, by whether a pool is open
abbrev pub HasFault : {R A : Type 0} → areas.Ghosts A → OnShelf → OnShelf → Option (Pool R A) → Desk → Type 0
HasFault area entry now pool (Open x) = AreaHasFailed x
HasFault area entry now pool (Foreign known) = PoolFails area pool
HasFault area entry now pool desk = HasFailed entry now

-- a call on a rack of the pool that is open has failed as a whole
abbrev pub RackFault : {R A : Type 0} → racks.Ghosts R → Option (Pool R A) → Desk → Type 0
RackFault rack pool (Open x) = RackHasFailed x
RackFault rack None (Foreign known) = ⊥
RackFault rack (Some pool) (Foreign known) = RackFails rack.faults pool
RackFault rack pool desk = ⊥

-- one shows on a shelf
abbrev pub RackFailedOn : OnShelf → Type 0
RackFailedOn now = RackFailed now.counts

-- what shows why a command ended: a fault, or in one that makes leaves that of a rack
abbrev pub FaultIn : {R A : Type 0} → racks.Ghosts R → areas.Ghosts A → Command → OnShelf → OnShelf → Option (Pool R A) → Desk → Type 0
FaultIn rack area command entry now pool desk = HasFault area entry now pool desk ⊎ (MakesLeaves command × RackFault rack pool desk)

-- the command that a line asks for makes leaves
abbrev pub MakesLeavesBy : Result Command LineFault → Type 0
MakesLeavesBy (Ok command) = MakesLeaves command
MakesLeavesBy (Err fault) = ⊥

-- so of the line at which a run broke off behind these
abbrev pub MakesLeavesAt : List (List ℕ) → Option (List ℕ) → Type 0
MakesLeavesAt lines None = ⊥
MakesLeavesAt lines (Some text) = MakesLeavesBy (line_behind lines text)

-- an input, where it is known, has such a line
abbrev pub MayMakeLeaves : Option (List ℕ) → Type 0
MayMakeLeaves input =
    MatchOption input ⊤ (λ bytes. (front : List (List ℕ)) × (line : List ℕ) × (rest : List (List ℕ)) × (lines_of bytes ≡ front ++ (line ∷ rest)) × MakesLeavesBy (line_behind front line))

-- What shows on a shelf of a run that ended since a device failed: an area or the shelf itself has; or, where the input may make leaves, a rack.
abbrev pub DeviceFailed : Option (List ℕ) → OnShelf → OnShelf → Type 0
DeviceFailed input entry now = HasFailed entry now ⊎ (MayMakeLeaves input × RackFailedOn now)

-- What has failed in a command that found no pool open. In an import the shelf's count rose, or that of the pool's own areas, or that of an area of records of a metaslab
-- that the uberblock names which the shelf held.
abbrev pub FailsIn : {A : Type 0} → areas.Ghosts A → Command → OnShelf → OnShelf → Type 0
FailsIn area (CreatePool text children keys) before now = (geometry : Geometry) × HasLayout text children keys geometry × MakingFailed geometry before now
FailsIn area ImportPool before now = HasRisen area before.held before.faults now.faults (own_count before.own) (own_count now.own) before.counts now.counts
FailsIn area command before now = ⊥

-- the uberblock that a shelf held, a record of a metaslab, or the check record has this fault
abbrev pub HoldsFault : {R A : Type 0} → racks.Ghosts R → areas.Ghosts A → OnShelf → RecordName → ℕ → RecordFaultKind → Type 0
HoldsFault rack area before record_name.Uber place kind = RecordIsBad rack area before.held before.leaves before.counts None place kind
HoldsFault rack area before (record_name.Metaslab metaslab) place kind = RecordIsBad rack area before.held before.leaves before.counts (Some metaslab) place kind
HoldsFault rack area before record_name.Check place kind = CheckIsBad rack area before.held before.leaves before.counts place kind
