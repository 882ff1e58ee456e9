-- What going back to a checkpoint and giving it up do, by their answers.
use Rattle.std.specs.Prelude.{◌≡◌, ◌≢◌, ◌<◌, ℕ, List, None, Some, Result, Ok, Err, length}
use Rattle.draid_machine.specs.declared.names.Key.{Key}
use Rattle.draid_objects.specs.Changes.{Write, key_of, write_of}
use Rattle.draid_objects.specs.Marks.{check_by}
use Rattle.draid_session.specs.Discarding.{DiscardStops, Discards, FreesKept, FreesKey, IsKeptAlone}
use Rattle.draid_session.specs.GoingBack.{BackStops, FreesBorn, GoesBack, Reverts}
use Rattle.draid_session.specs.Groups as groups
use Rattle.draid_session.specs.Holds.{Hold}
use Rattle.draid_session.specs.Opening.{HasObjects}
use Rattle.draid_session.specs.Phases.{Went}
use Rattle.draid_session.specs.Points.{given_up}
use Rattle.draid_session.specs.State.{State, Store}
use Rattle.draid_pool.specs.Syncing.{end_of}
use Rattle.draid_rewinds.specs.declared.fault.BackFault.{BackFault}
use Rattle.draid_rewinds.specs.declared.fault.BackFault.TheVariants as fault
use Rattle.draid_rewinds.specs.declared.fault.Discarded.{Discarded}
use Rattle.draid_rewinds.specs.declared.fault.Rewound.{Rewound}

-- ---- where no group is closing

-- Each object has what it had at the checkpoint, from a group on. The holds are those of the frees of the blocks that were born behind it.
pub record Reverted (group : ℕ) (old : Store) (holds : List Hold) (new : Store) : Type 0 where
  pub reverts : Reverts group old new
  pub frees : FreesBorn reverts.goes.check.group group holds
  pub all : (object : ℕ) (w : Write) → write_of old.changes object ≡ Some w → reverts.goes.check.group < w.birth → FreesKey (key_of w) holds

-- the checkpoint is given up in a group, and these holds are those of the frees of the blocks that it alone kept, so many
pub record LetsGo (group : ℕ) (old : Store) (freed : ℕ) (holds : List Hold) (new : Store) : Type 0 where
  pub has : check_by old.marks ≢ None
  pub many : freed ≡ length holds
  pub frees : FreesKept old group holds
  pub all : (key : Key) → IsKeptAlone old key → FreesKey key holds
  pub made : new ≡ given_up group old

-- ---- the whole

-- It went back; or there is no checkpoint, just where that is said; or there was no room, and nothing changed; or a sync was stopped, that of the closing group before the change, or one
-- behind it.
abbrev pub RewindDoes : State → Result Rewound BackFault → List Hold → Store → Type 0
RewindDoes x (Ok it) holds new = (thin : ℕ) × HasObjects new.changes it.objects × GoesBack x.geometry x.perms x.store new it.group thin holds Went
RewindDoes x (Err fault.Nothing) holds new = (check_by x.store.marks ≡ None) × (new ≡ x.store) × groups.Finishes x.geometry x.perms holds Went
RewindDoes x (Err fault.NoMemory) holds new = (new ≡ x.store) × (check_by x.store.marks ≢ None) × groups.Finishes x.geometry x.perms holds Went
RewindDoes x (Err (fault.Sync why)) holds new = BackStops x.geometry x.perms x.store holds (end_of {T = ℕ} (Err why)) new

-- the same of giving it up, which wants no room
abbrev pub DiscardDoes : State → Result Discarded BackFault → List Hold → Store → Type 0
DiscardDoes x (Ok it) holds new =
    (at : ℕ) × (thin : ℕ) × (frees : List Hold) × (it.freed ≡ length frees) × (new ≡ given_up at x.store) × Discards x.geometry x.perms x.store at it.group thin frees holds Went
DiscardDoes x (Err fault.Nothing) holds new = (check_by x.store.marks ≡ None) × (new ≡ x.store) × groups.Finishes x.geometry x.perms holds Went
DiscardDoes x (Err fault.NoMemory) holds new = ⊥
DiscardDoes x (Err (fault.Sync why)) holds new = DiscardStops x.geometry x.perms x.store holds (end_of {T = ℕ} (Err why)) new
