-- What has failed in a command that found no pool open.
use Rattle.std.proofs.Common.{◌≡◌, ◌<◌, ◌≤◌, inl, inr, arith, refl, ℕ, List, [], Option, Some, Ok}
use Rattle.draid_record.specs.declared.fault.RecordFaultKind.{RecordFaultKind}
use Rattle.draid_names.specs.Faults.{Rose}
use Rattle.draid_rack.specs.declared.Rack as racks
use Rattle.draid_area.specs.declared.Area as areas
use Rattle.draid_spec.specs.declared.layout.Geometry.{Geometry}
use Rattle.draid_script.specs.Line.{Command, Silent, CreatePool, ImportPool, ExportPool, SyncPool, CancelPasses, CrashPool, WriteObject, FillObjects, ReadObject, FreeObject, SumObjects, TakeOffline, TakeOnline, DamageSector, AttachSpare, ReplaceDisk, DetachArm, RebuildPool, ScrubPool, RebalanceSlot, ShowStatus, OpenLanes, UpgradePool, RunAgent, ShowJournal, TakeCheckpoint, RewindPool, DiscardCheckpoint}
use Rattle.draid_session.specs.State.{State}
use Rattle.draid_session.specs.Session.{Desk, Untouched, Bare, Made, Open, Shut, Foreign, Unknown, Breaks, RecordFails, ShelfFails}
use Rattle.draid_import.specs.Found.{HasRisen}
use Rattle.draid_pool.specs.declared.pool.Pool.{Pool}
use Rattle.draid_exits.specs.declared.status.RecordName.{RecordName}
use Rattle.draid_run.specs.Desks.{CauseShows, IsShelf}
use Rattle.draid_session.specs.Places.{line_behind}
use Rattle.draid_run.specs.Script.{FailsShut, FaultyShut}
use Rattle.draid_create.specs.Says.{MakingFailed}
use Rattle.draid_pool.specs.Returning.{own_count}
use Rattle.draid_pool.specs.Shelves.{OnShelf}
use Rattle.draid_run.specs.Shelves.{AreaHasFailed, AreaRose, FailsIn, FaultIn, HasFailed, HasFault, HoldsDesk, HoldsFault, IsClosed}

pub rose_some : (before now : ℕ) → Rose before now → 0 < now
rose_some before now rose = omega (arith, rose)

-- a count of an area that rose isn't 0
pub area_shows : (x y : State) → AreaRose x y → AreaHasFailed y
area_shows x y (inl (m, a, b, at, there, rose)) = inl (
  m,
  b,
  there,
  elim rose [
    | inl even ↦ (let some = rose_some a.counts.even b.counts.even even in omega (arith, some))
    | inr odd ↦ (let some = rose_some a.counts.odd b.counts.odd odd in omega (arith, some))
  ],
)
area_shows x y (inr rose) = inr (rose_some x.uber_count y.uber_count rose)

-- what has risen shows there
risen : {A : Type 0} (area : areas.Ghosts A) (before now : OnShelf) → HasRisen area before.held before.faults now.faults (own_count before.own) (own_count now.own) before.counts now.counts → HasFailed before now
risen area before now rose = elim rose [
  | inl here ↦ elim here [
    | inl shelf ↦ inl shelf
    | inr uber ↦ inr (inr (rose_some (own_count before.own) (own_count now.own) uber))
  ]
  | inr records ↦ inr (inl (
    records.rose.0,
    elim records.rose.2 [
      | inl even ↦ (let some = rose_some (before.counts records.rose.0).even (now.counts records.rose.0).even even in omega (arith, some))
      | inr odd ↦ (let some = rose_some (before.counts records.rose.0).odd (now.counts records.rose.0).odd odd in omega (arith, some))
    ],
  ))
]

making_failed : (geometry : Geometry) (before now : OnShelf) → MakingFailed geometry before now → HasFailed before now
making_failed geometry before now failed = elim failed [
  | inl rose ↦ inl rose
  | inr new ↦ elim new.failed [
    | inl records ↦ inr (inl (records.0, records.2))
    | inr uber ↦ inr (inr (omega (arith, uber)))
  ]
]

has_failed : {A : Type 0} (area : areas.Ghosts A) (command : Command) (before now : OnShelf) → FailsIn area command before now → HasFailed before now
has_failed area (CreatePool text children keys) before now failed = making_failed failed.0 before now failed.2
has_failed area ImportPool before now failed = risen area before now failed
has_failed area Silent before now failed = absurd failed
has_failed area ExportPool before now failed = absurd failed
has_failed area SyncPool before now failed = absurd failed
has_failed area CancelPasses before now failed = absurd failed
has_failed area CrashPool before now failed = absurd failed
has_failed area (WriteObject a b) before now failed = absurd failed
has_failed area (FillObjects a b c d) before now failed = absurd failed
has_failed area (ReadObject a) before now failed = absurd failed
has_failed area (FreeObject a) before now failed = absurd failed
has_failed area (SumObjects a b) before now failed = absurd failed
has_failed area (TakeOffline a) before now failed = absurd failed
has_failed area (TakeOnline a) before now failed = absurd failed
has_failed area (DamageSector a b) before now failed = absurd failed
has_failed area (AttachSpare a b) before now failed = absurd failed
has_failed area (ReplaceDisk a b) before now failed = absurd failed
has_failed area (DetachArm a) before now failed = absurd failed
has_failed area (RebuildPool a) before now failed = absurd failed
has_failed area (ScrubPool a) before now failed = absurd failed
has_failed area (RebalanceSlot a) before now failed = absurd failed
has_failed area (ShowStatus a) before now failed = absurd failed
has_failed area (OpenLanes a) before now failed = absurd failed
has_failed area UpgradePool before now failed = absurd failed
has_failed area (RunAgent a) before now failed = absurd failed
has_failed area ShowJournal before now failed = absurd failed
has_failed area TakeCheckpoint before now failed = absurd failed
has_failed area RewindPool before now failed = absurd failed
has_failed area DiscardCheckpoint before now failed = absurd failed

module _ {R A : Type 0} (rack : racks.Ghosts R) (area : areas.Ghosts A) (command : Command) (before now : OnShelf) (pool : Option (Pool R A)) where
  closed_fault : (new : Desk) → IsClosed new → HasFailed before now → HasFault area before now pool new
  closed_fault Untouched closed failed = failed
  closed_fault Bare closed failed = failed
  closed_fault (Made tells count geometry) closed failed = failed
  closed_fault (Shut crash x) closed failed = failed
  closed_fault Unknown closed failed = failed
  closed_fault (Open x) closed failed = absurd closed
  closed_fault (Foreign known) closed failed = absurd closed

  -- the cause is a fault
  pub cause_fault : (old new : Desk) → CauseShows rack area ShelfFails command before old now pool new → FaultIn rack area command before now pool new
  cause_fault (Open x) new cause = cause
  cause_fault (Foreign known) new cause = cause
  cause_fault Untouched new cause = inl (closed_fault new cause.0 (has_failed area command before now cause.1))
  cause_fault Bare new cause = inl (closed_fault new cause.0 (has_failed area command before now cause.1))
  cause_fault (Made tells count geometry) new cause = inl (closed_fault new cause.0 (has_failed area command before now cause.1))
  cause_fault (Shut crash x) new cause = inl (closed_fault new cause.0 (has_failed area command before now cause.1))
  cause_fault Unknown new cause = inl (closed_fault new cause.0 (has_failed area command before now cause.1))

  -- where no pool was open it is one of a command
  pub closed_cause : (old new : Desk) → IsClosed old → CauseShows rack area ShelfFails command before old now pool new → IsClosed new × FailsIn area command before now
  closed_cause (Open x) new closed cause = absurd closed
  closed_cause (Foreign known) new closed cause = absurd closed
  closed_cause Untouched new closed cause = cause
  closed_cause Bare new closed cause = cause
  closed_cause (Made tells count geometry) new closed cause = cause
  closed_cause (Shut crash x) new closed cause = cause
  closed_cause Unknown new closed cause = cause

  -- and the other way round
  pub cause_closed : (old new : Desk) → IsClosed old → IsClosed new → FailsIn area command before now → CauseShows rack area ShelfFails command before old now pool new
  cause_closed (Open x) new closed after failed = absurd closed
  cause_closed (Foreign known) new closed after failed = absurd closed
  cause_closed Untouched new closed after failed = (after, failed)
  cause_closed Bare new closed after failed = (after, failed)
  cause_closed (Made tells count geometry) new closed after failed = (after, failed)
  cause_closed (Shut crash x) new closed after failed = (after, failed)
  cause_closed Unknown new closed after failed = (after, failed)

closed_shelf : (x : Desk) (entry before : OnShelf) → IsClosed x → IsShelf x entry before → HoldsDesk x entry before
closed_shelf (Open y) entry before closed shelf = absurd closed
closed_shelf (Foreign known) entry before closed shelf = absurd closed
closed_shelf Untouched entry before closed shelf = shelf
closed_shelf Bare entry before closed shelf = shelf
closed_shelf (Made tells count geometry) entry before closed shelf = shelf
closed_shelf (Shut crash y) entry before closed shelf = shelf
closed_shelf Unknown entry before closed shelf = shelf

-- what a run says of the command at which it broke off
pub fails_shut : {R A : Type 0} (rack : racks.Ghosts R) (area : areas.Ghosts A) (text : List ℕ) (lines : List (List ℕ)) (command : Command) (old new : Desk) (entry before now : OnShelf) (pool : Option (Pool R A)) → line_behind lines text ≡ Ok command → IsShelf old entry before
    → entry.faults ≤ before.faults → (lines ≡ [] → before ≡ entry) → CauseShows rack area ShelfFails command before old now pool new → IsClosed old → IsClosed new × FailsShut area (Some text) lines old entry now
fails_shut rack area text lines command old new entry before now pool line shelf later first cause closed =
    let shown = closed_cause rack area command before now pool old new closed cause in (
      shown.0,
      record {
        came = record { text = text; is = refl; command = command; line = line; before = before; held = closed_shelf old entry before closed shelf; later = later; first = first };
        failed = shown.1;
      },
    )

-- only an import that found no pool open breaks off for a record
record_closed : (old new : Desk) (command : Command) → Breaks RecordFails old command new → IsClosed old
record_closed Untouched new command breaks = tt
record_closed Bare new command breaks = tt
record_closed (Made tells count geometry) new command breaks = tt
record_closed (Shut crash x) new command breaks = tt
record_closed Unknown new command breaks = tt
record_closed (Open x) new command breaks = absurd breaks
record_closed (Foreign known) new command breaks = absurd breaks

-- and what it says of that record
pub faulty_shut : {R A : Type 0} (rack : racks.Ghosts R) (area : areas.Ghosts A) (text : List ℕ) (lines : List (List ℕ)) (command : Command) (old new : Desk) (entry before : OnShelf) (which : RecordName) (place : ℕ) (kind : RecordFaultKind)
    → line_behind lines text ≡ Ok command → IsShelf old entry before → entry.faults ≤ before.faults → (lines ≡ [] → before ≡ entry) → Breaks RecordFails old command new → HoldsFault rack area before which place kind
    → FaultyShut rack area (Some text) lines old entry which place kind
faulty_shut rack area text lines command old new entry before which place kind line shelf later first breaks bad = record {
  came = record { text = text; is = refl; command = command; line = line; before = before; held = closed_shelf old entry before (record_closed old new command breaks) shelf; later = later; first = first };
  bad = bad;
}
